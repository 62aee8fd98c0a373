use Rattle.std.proofs.Common.{List, Option, ap, sym, subst}
use Rattle.jc_machine_code.specs.declared.operation.ComputationalType.{ComputationalType}
use Rattle.jc_machine_turn.specs.Parameters.{AreParameters}
use Rattle.jc_machine.specs.Threads.{ThreadFrames}
use Rattle.jc_machine.specs.FirstThreads.{FitParameters}
use Rattle.jc_machine.proofs.FirstLaws.{locals_few, slots_within, parameters_fit, run_is}
use Rattle.jc_machine.proofs.TurnLaws.{types_of}
use Rattle.jc_machine.proofs.first_threads.begin_thread.Goals as goal

pub begin-requires-2 : goal.begin-requires-2
begin-requires-2 c =
    let begins = c.requires.1 in
    let of = c.in-Some.ensures c.requires.0 begins.prepared_is in
    locals_few c.requires.0 c.args.prepared.now c.args.method c.args.numbers.now c.in-Some.found.now begins of c.if-not-found.false

pub put_arguments-requires-clause-fit : goal.put_arguments-requires-clause-fit
put_arguments-requires-clause-fit c =
    let begins = c.requires.1 in
    let of = c.in-Some.ensures c.requires.0 begins.prepared_is in
    let locals = c.begin-2.new.self.top.locals in
    subst (λ (ps : List (Option ComputationalType)). FitParameters ps c.args.numbers.now locals) (sym c.as_slice.ensures)
    (parameters_fit c.requires.0 c.args.prepared.now c.args.method c.args.numbers.now c.in-Some.found.now begins of c.if-not-found.false locals
    (ap (λ (f : ThreadFrames). f.top.locals) c.begin-2.ensures))

pub returns-clause-thread : goal.returns-clause-thread
returns-clause-thread c = λ program begins.
    let of = c.in-Some.ensures program begins.prepared_is in
    let locals = c.begin-2.new.self.top.locals in
    let parameters = subst (λ (ps : List (Option ComputationalType)). AreParameters (types_of of.body) ps) (sym c.as_slice.ensures) of.prepared.parameters in
    let within = slots_within program c.args.prepared.now c.args.method c.args.numbers.now c.in-Some.found.now begins of c.if-not-found.false locals
    (ap (λ (f : ThreadFrames). f.top.locals) c.begin-2.ensures) in
    run_is program c.args.prepared.now c.args.method c.args.numbers.now c.in-Some.found.now begins of c.if-not-found.false c.begin.new.self c.begin-2.new.self
    c.put_arguments.new.frames c.begin-2.ensures
    (c.put_arguments.ensures.arguments (types_of of.body) parameters within)
