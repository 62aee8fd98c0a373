use Rattle.jc_machine_turn.proofs.StackLaws.{are_on_top}
use Rattle.jc_machine_turn.proofs.effects.effect_on_top.Goals as goal

pub returns : goal.returns
returns c =
    let stack = c.args.frame.now.content.stack in
    c.effect.ensures stack (are_on_top _ _ _ _ _ _ _ _ stack c.operand.ensures c.operand-2.ensures c.operand-3.ensures c.operand-4.ensures
    c.peek-first.ensures c.peek-second.ensures c.peek-third.ensures c.peek-fourth.ensures)
