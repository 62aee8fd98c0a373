-- Calls: what they come to, and the frames of callees.
use Rattle.std.proofs.Common.{◌≡◌, ℕ, ◌+◌, ◌-◌, ◌≤◌, false, cond, List, ◌∷◌, length, replicate, Option, Some, None, sym, ap, ◌∙◌, arith, length-append}
use Rattle.std.proofs.lemmas.List.{length-replicate}
use Rattle.std.proofs.lemmas.Option.{same_Some}
use Rattle.jc_methods.specs.declared.body.Body.{Body}
use Rattle.jc_methods.specs.DescriptorTypes.{method_type_in}
use Rattle.jc_bytes.specs.Descriptor.{FieldType}
use Rattle.jc_programs.specs.declared.program.Program.{Program}
use Rattle.jc_programs.specs.declared.run_end.Entry.{Entry}
use Rattle.jc_programs.specs.declared.run_end.Thrown.TheVariants as thrown
use Rattle.jc_programs.specs.Members.{body_of}
use Rattle.jc_machine_model.specs.Programs.{IsProgram}
use Rattle.jc_machine_model.specs.Values.{Value}
use Rattle.jc_machine_model.specs.World.{Frame, running, Shared}
use Rattle.jc_machine_model.specs.Results.{Result, calls}
use Rattle.jc_machine_model.specs.Calls.{Arguments, taken_for, by_call, spread_values, locals_for}
use Rattle.jc_machine_model.specs.Operations.{Operation, invokes}
use Rattle.jc_machine_model.specs.Perform.{perform}
use Rattle.jc_machine_model.specs.Step.{operation_at, located, result_of, new_frame, overflows, placed, thrown_in, after, after_result}
use Rattle.jc_machine_model.specs.Fits.{FitsTop}
use Rattle.jc_machine_model.proofs.BeginLaws.{slots_length}
use Rattle.jc_machine_laws.proofs.CallLaws.{body_is}
use Rattle.jc_machine_laws.proofs.OnwardLaws.{here_of}
use Rattle.jc_machine_model.specs.Locked.{call_of}
use Rattle.jc_machine_laws.proofs.StateLaws.{state_count}
use Rattle.jc_machine.proofs.RoomLaws.{top_bounded}

-- ---- the frame of a callee

pub record HasArguments (b : Body) (values : List Value) : Type 0 where
  pub within : length (spread_values values) ≤ b.max_locals
  pub few : b.max_locals ≤ 1004

-- where it fits, the arguments have room
pub arguments_within : (program : Program) (callee : Entry) (b : Body) (values : List Value) → IsProgram program → body_of program callee ≡ Some b
    → FitsTop program (new_frame callee (locals_for b.max_locals values)) → HasArguments b values
arguments_within program callee b values p is fits =
    let f = new_frame callee (locals_for b.max_locals values) in
    let h = here_of program f fits.state p fits.stands in
    let one : fits.stands.body ≡ b =
    same_Some fits.stands.body b (sym (body_is program callee fits.stands.linked fits.stands.body fits.stands.class_is fits.stands.body_is) ∙ is) in
    let count : length fits.state.locals ≡ b.max_locals =
    state_count program.names fits.stands.body (h.1).whole.well_made.of_any_size f.place fits.state fits.stands.state_is
    ∙ ap (λ (x : Body). x.max_locals) one in
    let slots : length (locals_for b.max_locals values) ≡ length fits.state.locals =
    slots_length (locals_for b.max_locals values) fits.state.locals fits.locals in
    let parts : length (locals_for b.max_locals values) ≡ length (spread_values values) + (b.max_locals - length (spread_values values)) =
    length-append (spread_values values) (replicate (b.max_locals - length (spread_values values)) None)
    ∙ ap (λ n. length (spread_values values) + n) (length-replicate (b.max_locals - length (spread_values values)) None) in
    let room = (top_bounded program f p fits).room in
    record { within = omega (arith, count, slots, parts); few = omega (arith, count, slots, room) }

-- ---- what a call comes to

module _ (program : Program) (callee : Entry) (f : Frame) where
  -- the operation of a call
  pub call_is : (s : Shared) (types : List FieldType) (n : ℕ) (b : Body) → operation_at program (located program f.method f.place) ≡ invokes callee types n
      → body_of program callee ≡ Some b → types ≡ (method_type_in b.desc).parameters → n ≡ b.max_locals
      → result_of program s f ≡ call_of (body_of program callee) callee f
  unfolding perform
  call_is s types n b e is parameters locals =
      ap (λ (o : Operation). perform o s f) e
      ∙ (ap (λ (ts : List FieldType). by_call callee n (taken_for ts f.stack) f) parameters
      ∙ (ap (λ m. by_call callee m (taken_for (method_type_in b.desc).parameters f.stack) f) locals
      ∙ ap (λ (o : Option Body). call_of o callee f) (sym is)))

  pub call_fit : (b : Body) (a : Arguments) → body_of program callee ≡ Some b → taken_for (method_type_in b.desc).parameters f.stack ≡ Some a
      → call_of (body_of program callee) callee f ≡ calls callee (locals_for b.max_locals a.values) (record f { stack = a.rest })
  call_fit b a is some = ap (λ (o : Option Body). call_of o callee f) is ∙ ap (λ o. by_call callee b.max_locals o f) some

  pub call_enters : (s : Shared) (waiting : List Frame) (r : Result) (locals : List (Option Value)) (g : Frame) → r ≡ calls callee locals g
      → overflows program callee (f ∷ waiting) ≡ false
      → after_result program r s f waiting ≡ after (running (new_frame callee locals) (g ∷ waiting)) s
  call_enters s waiting r locals g is within =
      ap (λ x. after_result program x s f waiting) is
      ∙ ap (λ z. cond z (thrown_in program (placed thrown.StackOverflowError s) (f ∷ waiting)) (after (running (new_frame callee locals) (g ∷ waiting)) s))
      within
