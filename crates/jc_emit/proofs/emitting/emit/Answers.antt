use Rattle.std.proofs.Common.{◌+◌, ◌≤◌, [], length, sym, subst, arith}
use Rattle.std.specs.List.{sum_by}
use Rattle.std.proofs.lemmas.Option.{get_or_from_slice_get}
use Rattle.jc_methods.specs.Insn.{arm_count}
use Rattle.jc_methods.specs.declared.emitted.Emitted.{Emitted}
use Rattle.jc_methods.proofs.PlacedInsnLaws.{few_insns}
use Rattle.jc_emit.specs.Twin.{IsEmitted}
use Rattle.jc_emit.specs.Shift.{probe_array_class}
use Rattle.jc_emit.specs.Written.{given, integer_in}
use Rattle.jc_emit.proofs.EmittingLaws.{grows_one, states_put}
use Rattle.jc_emit.proofs.FewLaws.{few_emitted}
use Rattle.jc_emit.proofs.FrameStateLaws.{frames_have_states}
use Rattle.jc_emit.proofs.WideFrameLaws.{emitted}
use Rattle.jc_emit.proofs.emitting.emit.Goals as goal

pub refused-requires : goal.refused-requires
refused-requires c = omega (arith, few_insns c.args.body.now.code, c.requires.body.of_any_size.code.few)

pub instrumented-requires-clause-states : goal.instrumented-requires-clause-states
instrumented-requires-clause-states c = states_put c.args.names.now c.args.body.now c.args.states.now c.requires.states

pub returns-in_err-emitted-clause-names : goal.returns-in_err-emitted-clause-names
returns-in_err-emitted-clause-names c = grows_one c.args.names.now c.number.new.self probe_array_class c.in_ok-array.ensures.names

pub returns-clause-emitted : goal.returns-clause-emitted
returns-clause-emitted c = λ first is.
    (c.in_ok-array.array, get_or_from_slice_get c.number.new.self c.in_ok-array.array probe_array_class [] c.in_ok-array.ensures.place, c.in_ok-emitted.ensures first is)

pub returns-clause-twin : goal.returns-clause-twin
returns-clause-twin c = λ first is.
    let b = c.args.body.now in
    let states = c.args.states.now in
    let names = c.number.new.self in
    let array = c.in_ok-array.array in
    let integer = integer_in c.args.constants.now in
    let made = c.requires.body.of_any_size in
    subst (λ (e : Emitted). IsEmitted names names states c.args.fetch integer first b e) (sym (c.in_ok-emitted.ensures first is))
    (emitted b first states (given c.args.fetch array c.args.constants.now) names made
    (frames_have_states c.args.names.now c.in_ok-array.ensures.names_before.distinct b states made c.requires.frames c.requires.states)
    (get_or_from_slice_get names array probe_array_class [] c.in_ok-array.ensures.place))

pub returns-clause-few : goal.returns-clause-few
returns-clause-few c =
    let plan = c.requires.plan in
    subst (λ (e : Emitted). length e.code + sum_by arm_count e.code ≤ 1000000) (sym (c.in_ok-emitted.ensures plan.0 plan.1))
    (few_emitted c.args.body.now plan.0 c.args.states.now (given c.args.fetch c.in_ok-array.array c.args.constants.now)
    c.requires.body.of_any_size.code)

pub returns-clause-names : goal.returns-clause-names
returns-clause-names c = grows_one c.args.names.now c.number.new.self probe_array_class c.in_ok-array.ensures.names
