use Rattle.std.proofs.Common.{sym, subst}
use Rattle.jc_methods.proofs.NumberedLaws.{grown_count, frames_numbered}
use Rattle.jc_kinds.specs.Answers.{AreStates}
use Rattle.tests_classes.proofs.InstrumentedLaws.{instrumented_is}
use Rattle.tests_classes.proofs.emissions.emission.Goals as goal

pub emit-requires-clause-frames : goal.emit-requires-clause-frames
emit-requires-clause-frames c =
    frames_numbered _ _ c.args.body.now.frames (grown_count c.args.names.now c.states.new.names c.in_ok-states.ensures.names) c.requires.frames

pub returns-clause-instrumented : goal.returns-clause-instrumented
returns-clause-instrumented c =
    let b = c.args.body.now in
    let plan = c.in_ok-plan.ensures.plan in
    let are = subst (AreStates c.states.new.names b) (sym c.deref.ensures.value) c.in_ok-states.ensures.states.1 in
    instrumented_is c.args.names.now c.states.new.names c.emit.new.names b c.deref.result.now c.args.fetch c.args.first c.args.constants.now _
    c.in_ok-states.ensures.names c.in_ok-emitted.ensures.names c.requires.frames are (c.in_ok-emitted.ensures.emitted c.args.first plan)
    (c.in_ok-emitted.ensures.twin c.args.first plan)
