use Rattle.std.proofs.Common.{◌≡◌, ◌≤◌, List, Option, Some, None, length, replicate, take, reverse, arith, ◌∙◌, ap, sym, subst}
use Rattle.jc_bytes.specs.Descriptor.{FieldType}
use Rattle.jc_machine_model.specs.Values.{Value}
use Rattle.jc_machine_model.specs.Calls.{Arguments, taken_for, spread_values}
use Rattle.jc_machine_model.specs.Step.{new_frame}
use Rattle.jc_machine_code.specs.declared.operation.ComputationalType.{ComputationalType}
use Rattle.jc_machine_memory.specs.Frames.{FrameSeen}
use Rattle.jc_machine_turn.specs.Parameters.{AreParameters, with_slots}
use Rattle.jc_machine_turn.proofs.CallLaws.{count_of_parameters, TakenFor, taken_is, locals_are}
use Rattle.jc_machine_turn.proofs.calls.enter_callee.Goals as goal

-- the arguments are as many values as there are parameters
taken : (types : List FieldType) (ps : List (Option ComputationalType)) (stack : List Value) (a : Arguments) → AreParameters types ps
    → taken_for types stack ≡ Some a → TakenFor stack (length ps) a
taken types ps stack a are is = subst (λ n. TakenFor stack n a) (sym (count_of_parameters types ps are)) (taken_is types stack a is)

pub put_arguments-requires-clause-there : goal.put_arguments-requires-clause-there
put_arguments-requires-clause-there c =
    let fit = c.requires.fit in
    (taken fit.0 c.args.parameters.now c.args.caller.now.content.stack fit.1 fit.2 fit.3).count

pub put_arguments-requires-clause-room : goal.put_arguments-requires-clause-room
put_arguments-requires-clause-room c =
    let fit = c.requires.fit in
    let values = (taken fit.0 c.args.parameters.now c.args.caller.now.content.stack fit.1 fit.2 fit.3).values in
    omega (arith, fit.4, ap (λ (vs : List Value). length (spread_values vs)) values, c.requires.few)

pub returns-clause-caller : goal.returns-clause-caller
returns-clause-caller c = λ types a are is.
    ap (λ (g : FrameSeen). g.content) c.cut.ensures ∙ ap (λ (vs : List Value). record c.args.caller.now.content { stack = vs })
    (sym (taken types c.args.parameters.now c.args.caller.now.content.stack a are is).rest)

pub returns-clause-callee : goal.returns-clause-callee
returns-clause-callee c = λ types a are is.
    let fit = c.requires.fit in
    let stack = c.args.caller.now.content.stack in
    let mine = (taken types c.args.parameters.now stack a are is).values in
    let theirs = (taken fit.0 c.args.parameters.now stack fit.1 fit.2 fit.3).values in
    let few : length (spread_values a.values) ≤ c.args.max_locals =
    omega (arith, fit.4, ap (λ (vs : List Value). length (spread_values vs)) (mine ∙ sym theirs)) in
    ap (λ (g : FrameSeen). g.content) c.put_arguments.ensures
    ∙ (ap (λ (g : FrameSeen). record g.content { locals = with_slots g.content.locals 0 (spread_values (reverse (take (length c.args.parameters.now) stack))) }) c.enter.ensures
    ∙ ap (λ (ls : List (Option Value)). new_frame c.args.callee ls)
    (ap (λ (vs : List Value). with_slots (replicate c.args.max_locals None) 0 (spread_values vs)) (sym mine) ∙ locals_are c.args.max_locals a.values few))
