use Rattle.std.proofs.Common.{rules, ◌-◌, List, Option, take, reverse, arith, ◌∙◌, ap}
use Rattle.jc_machine_model.specs.Values.{Value}
use Rattle.jc_machine_model.specs.Calls.{spread_values}
use Rattle.jc_machine_memory.specs.Frames.{FrameSeen}
use Rattle.jc_machine_memory.specs.Values.{value_of}
use Rattle.jc_machine_turn.specs.Parameters.{with_slots}
use Rattle.jc_machine_turn.proofs.CallLaws.{slots_left, slots_after}
use Rattle.jc_machine_turn.proofs.calls.+put_arguments.Goals as goal

pub put_argument-next-requires : goal.put_argument-next-requires
put_argument-next-requires t c =
    (slots_left c.args.caller.now.content.stack c.args.count c.args.slot (value_of c.in-Some.value) c.if-count-eq0.false c.in-Some.ensures c.requires.room).0

pub put_arguments-requires : goal.put_arguments-requires
put_arguments-requires t c =
    let left = slots_left c.args.caller.now.content.stack c.args.count c.args.slot (value_of c.in-Some.value) c.if-count-eq0.false c.in-Some.ensures c.requires.room in
    (search rules, (omega (arith, c.requires.there), omega (arith, left.1, c.put_argument-next.ensures.next)))

pub returns : goal.returns
returns t c =
    let f = c.args.frame.now in
    let others = spread_values (reverse (take (c.args.count - 1) c.args.caller.now.content.stack)) in
    c.put_arguments.ensures
    ∙ (ap (λ (g : FrameSeen). record g { content = record g.content { locals = with_slots g.content.locals c.put_argument-next.result others } }) c.put_argument-next.ensures.put
    ∙ ap (λ (ls : List (Option Value)). record f { content = record f.content { locals = ls } })
    (slots_after c.args.caller.now.content.stack c.args.count c.args.slot c.put_argument-next.result
    (value_of c.in-Some.value) f.content.locals c.if-count-eq0.false c.in-Some.ensures c.put_argument-next.ensures.next))
