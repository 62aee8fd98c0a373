use Rattle.std.proofs.Common.{◌≡◌, List, ◌∷◌, ◌++◌, drop, slice_index_or, ◌∙◌, ap}
use Rattle.jc_machine_model.specs.Values.{Value, null}
use Rattle.jc_machine_memory.specs.Frames.{FrameSeen}
use Rattle.jc_machine_memory.specs.Values.{value_of}
use Rattle.jc_machine_model.specs.Effects.{results_at}
use Rattle.jc_machine_turn.proofs.CallLaws.{behind}
use Rattle.jc_machine_turn.proofs.StackLaws.{got_or, moved_one}
use Rattle.jc_machine_turn.proofs.effects.+move_operands.Goals as goal

pub returns-in-len1-up : goal.returns-in-len1-up
returns-in-len1-up t c =
    let now = c.args.frame.now in
    let f = now.content in
    let places = c.args.places.now in
    let others = results_at (behind places) f.stack in
    let top : value_of c.unwrap_or-value.result ≡ slice_index_or f.stack (slice_index_or places 0 0) null =
    ap value_of c.unwrap_or-value.ensures ∙ got_or c.peek.result f.stack (slice_index_or places 0 0) c.peek.ensures in
    c.push.ensures
    ∙ (ap (λ (g : FrameSeen). record g { content = record g.content { stack = value_of c.unwrap_or-value.result ∷ g.content.stack } }) c.move_operands.ensures
    ∙ (ap (λ (v : Value). record now { content = record f { stack = v ∷ (others ++ drop c.args.taken f.stack) } }) top
    ∙ ap (λ (vs : List Value). record now { content = record f { stack = vs ++ drop c.args.taken f.stack } }) (moved_one places f.stack c.in-len1-up.len_at_least)))
