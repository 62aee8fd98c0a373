use Rattle.std.proofs.Common.{Bool, length, Result, Ok, Err, IfOk}
use Rattle.jc_bytes.specs.declared.fail.Memory.{Memory}
use Rattle.jc_methods.specs.declared.body.Body.{Body}
use Rattle.jc_methods.specs.VerificationTypes.{Names, Grows}
use Rattle.jc_methods.proofs.MetNamesLaws.{grows_both}
use Rattle.jc_methods.proofs.NumberedLaws.{grown_count, frames_numbered}
use Rattle.jc_kinds.specs.declared.walk.Walked.{Walked}
use Rattle.jc_kinds.specs.StateSequence.{IsWalk, IsWalkFrom}
use Rattle.jc_kinds.proofs.AnswerLaws.{entry_on}
use Rattle.jc_kinds.proofs.check.walk_body.Goals as goal

walk_from : (old base new : Names) (b : Body) (keeps : Bool) (r : Result Walked Memory) → Grows old base → Grows base new → IfOk r (λ w. IsWalk base new b keeps w.count w.states.items)
    → IfOk r (λ w. IsWalkFrom old new b keeps w.count w.states.items)
walk_from old base new b keeps (Ok w) before grown walk = record { base = base; before = before; grown = grown; walk = walk }
walk_from old base new b keeps (Err e) before grown walk = tt

pub walk-requires-clause-entry : goal.walk-requires-clause-entry
walk-requires-clause-entry c = entry_on c.entry_of.new.names c.of.new.names c.args.framed.now.body.now c.in_ok-entry.entry c.in_ok-effects.ensures.names c.in_ok-entry.ensures.state

pub walk-requires-clause-frames : goal.walk-requires-clause-frames
walk-requires-clause-frames c =
    let grown = grows_both c.args.names.now c.entry_of.new.names c.of.new.names c.in_ok-entry.ensures.names c.in_ok-effects.ensures.names in
    frames_numbered (length c.args.names.now) (length c.of.new.names) c.args.framed.now.body.now.frames (grown_count c.args.names.now c.of.new.names grown) c.requires.frames

pub returns-clause-walk : goal.returns-clause-walk
returns-clause-walk c =
    let grown = grows_both c.args.names.now c.entry_of.new.names c.of.new.names c.in_ok-entry.ensures.names c.in_ok-effects.ensures.names in
    walk_from c.args.names.now c.of.new.names c.walk.new.names c.args.framed.now.body.now c.args.keeps c.walk.result grown c.walk.ensures.names c.walk.ensures.walk
