use Rattle.std.proofs.Common.{sym, ◌∙◌, subst}
use Rattle.jc_kinds.specs.Answers.{AreStates}
use Rattle.jc_instrument.proofs.PlannedLaws.{check_grown, none_said}
use Rattle.jc_instrument.proofs.again.states_again.Goals as goal

pub unreachable-requires : goal.unreachable-requires
unreachable-requires c =
    let w = c.in-Err-Said in
    let checked = check_grown c.args.names.now c.states.new.names c.args.body.now w.ensures.names c.requires.frames c.requires.checked in
    none_said w.field-0-0 (sym w.field-0-is ∙ w.ensures.checked checked)

pub returns-in-Ok-clause-states : goal.returns-in-Ok-clause-states
returns-in-Ok-clause-states c = subst (AreStates c.states.new.names c.args.body.now) (sym c.from_vec.ensures) c.in-Ok.ensures.states.1
