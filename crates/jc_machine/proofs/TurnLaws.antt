-- The turn of a thread that runs and fits its program.
use Rattle.std.proofs.Common.{◌≡◌, ℕ, ◌<◌, ◌≤◌, Bool, true, false, List, ◌∷◌, length, Option, Some, None, refl, sym, ap, ◌∙◌, subst, arith}
use Rattle.std.specs.Prelude.{is_some}
use Rattle.std.specs.List.{AllByRecursion}
use Rattle.std.proofs.lemmas.Option.{same_Some}
use Rattle.jc_bytes.specs.Descriptor.{FieldType}
use Rattle.jc_bytes.proofs.OptionLaws.{some_there}
use Rattle.jc_methods.specs.declared.insn.Insn.{Insn}
use Rattle.jc_methods.specs.declared.body.Body.{Body}
use Rattle.jc_methods.specs.DescriptorTypes.{method_type_in}
use Rattle.jc_methods.specs.Insn.{IsWellFormed}
use Rattle.jc_plan.specs.Chosen.{key_target}
use Rattle.jc_programs.specs.declared.program.Program.{Program}
use Rattle.jc_programs.specs.declared.run_end.Entry.{Entry}
use Rattle.jc_programs.specs.Members.{body_of}
use Rattle.jc_machine_code.specs.declared.operation.Operation as shown
use Rattle.jc_machine_code.specs.Invoked.{GoesByKey, IsSwitch}
use Rattle.jc_machine_code.proofs.InvokedLaws.{invoked_at, switches}
use Rattle.jc_machine_code.specs.declared.prepared.PreparedMethod.{PreparedMethod}
use Rattle.jc_machine_code.specs.Shown.{Shows}
use Rattle.jc_machine_code.specs.Prepared.{IsMethodOf}
use Rattle.jc_machine_turn.specs.Parameters.{AreParameters}
use Rattle.jc_machine_model.specs.Programs.{IsProgram}
use Rattle.jc_machine_model.specs.World.{Frame, running, Shared}
use Rattle.jc_machine_model.specs.Calls.{Arguments, taken_for, spread_values, locals_for}
use Rattle.jc_machine_model.specs.Profile.{operation_of}
use Rattle.jc_machine_model.specs.Operations.{invokes}
use Rattle.jc_machine_model.specs.Jumps.{by_switch}
use Rattle.jc_machine_model.specs.Perform.{perform}
use Rattle.jc_machine_model.specs.Step.{LocatedInsn, located, operation_at, result_of, counted_frames, overflows, new_frame, after, after_result}
use Rattle.jc_machine_model.specs.Fits.{FitsRunning, FitsWorld}
use Rattle.jc_machine_model.specs.Locked.{call_of}
use Rattle.jc_machine_model.proofs.BeginLaws.{all_at}
use Rattle.jc_machine_laws.proofs.CallLaws.{body_is}
use Rattle.jc_machine_laws.proofs.PlainlyLaws.{plain, plainly_flows}
use Rattle.jc_machine_laws.proofs.OnwardLaws.{here_of}
use Rattle.jc_machine_laws.proofs.ReturnLaws.{located_is}
use Rattle.jc_machine_laws.proofs.ThreadLaws.{Lands}
use Rattle.jc_machine_laws.proofs.WorldLaws.{running_lands}
use Rattle.jc_machine.specs.Room.{IsBounded, AreBounded}
use Rattle.jc_machine.specs.Threads.{ThreadFrames}
use Rattle.jc_machine.specs.Turned.{alone, StandsBefore, FitsAfter}
use Rattle.jc_machine.proofs.RoomLaws.{each_counts, running_bounded}
use Rattle.jc_machine.proofs.CallingLaws.{arguments_within, call_is, call_fit, call_enters}

module _ (program : Program) (s : Shared) (frames : ThreadFrames) (p : IsProgram program) (fits : FitsWorld program (alone s frames)) where
  runs : FitsRunning program s.heap frames.top frames.waiting
  runs = (fits.threads).0

  pub alone_bounded : AreBounded frames.top frames.waiting
  alone_bounded = running_bounded program s.heap frames.top frames.waiting p runs

  pub alone_counts : counted_frames program frames.waiting ≡ length frames.waiting
  alone_counts = each_counts program frames.top.method frames.waiting runs.below

  pub alone_lands : Lands plain program s (after_result program (result_of program s frames.top) s frames.top frames.waiting)
  alone_lands =
      running_lands plain program (plainly_flows program p) p s frames.top frames.waiting (record { statics = fits.statics; there = fits.there }) runs

  -- the instruction before which the thread stands
  pub stands_well : (insn : Insn) → StandsBefore (located program frames.top.method frames.top.place) insn → IsWellFormed insn
  stands_well insn before =
      let top = runs.top in
      let h = here_of program frames.top top.state p top.stands in
      let there = located_is program frames.top top.stands.linked top.stands.body h.0 top.state h.1 in
      let same : h.0 ≡ insn = ap (λ (i : LocatedInsn). i.insn) (same_Some _ before.0 (sym there ∙ before.1)) ∙ before.2 in
      subst IsWellFormed same (all_at IsWellFormed top.stands.body.code frames.top.place h.0 (h.1).whole.well_made.of_any_size.code.well_formed (h.1).insn_is)

-- at a switch a turn goes by the instruction's own arms
pub switched : (program : Program) (o : shown.Operation) (l : Option LocatedInsn) (insn : Insn) → StandsBefore l insn → Shows o (operation_at program l)
    → IsSwitch o
    → (s : Shared) (f : Frame) → GoesByKey (operation_at program l) insn s f
switched program o l insn before shows switch s f =
    let i = before.0 in
    let shown : Shows o (operation_of program i.at i.insn) = subst (λ (x : Option LocatedInsn). Shows o (operation_at program x)) before.1 shows in
    ap (λ (x : Option LocatedInsn). perform (operation_at program x) s f) before.1
    ∙ (switches program i.at i.insn o switch shown s f ∙ ap (λ (x : Insn). by_switch (key_target x) f.stack s f) before.2)

-- ---- calls

pub none_there : {X : Type 0} (o : Option X) → is_some o ≡ false → o ≡ None
none_there None e = refl
none_there (Some x) e = absurd (cc)

-- the parameters of a method
abbrev pub types_of : Body → List FieldType
types_of b = (method_type_in b.desc).parameters

-- a prepared method is the body with its number
pub method_is : (program : Program) (callee : Entry) (m : PreparedMethod) (of : IsMethodOf program callee m) → body_of program callee ≡ Some of.body
method_is program callee m of = body_is program callee of.linked of.body of.class_is of.body_is

-- a call whose arguments fit, and for which there is a frame
pub record Entered (program : Program) (callee : Entry) (m : PreparedMethod) (f : Frame) (waiting : List Frame) (s : Shared) : Type 0 where
  pub types : List FieldType
  pub arguments : Arguments
  pub parameters : AreParameters types m.parameters
  pub taken : taken_for types f.stack ≡ Some arguments
  pub within : length (spread_values arguments.values) ≤ m.max_locals
  pub few : m.max_locals ≤ 1004
  pub room : length waiting < 128
  pub after_is : after_result program (call_of (body_of program callee) callee f) s f waiting
      ≡ after (running (new_frame callee (locals_for m.max_locals arguments.values)) (record f { stack = arguments.rest } ∷ waiting)) s

pub enters : (program : Program) (callee : Entry) (m : PreparedMethod) (f : Frame) (waiting : List Frame) (s : Shared) → IsProgram program
    → (of : IsMethodOf program callee m)
    → (fit over : Bool) → ((types : List FieldType) → AreParameters types m.parameters → fit ≡ is_some (taken_for types f.stack)) → fit ≡ true
    → over ≡ overflows program callee (f ∷ waiting) → over ≡ false
    → FitsAfter program (after_result program (call_of (body_of program callee) callee f) s f waiting) → Entered program callee m f waiting s
enters program callee m f waiting s p of fit over fit_is some over_is within fits =
    let b = of.body in
    let body = method_is program callee m of in
    let a = some_there (taken_for (types_of b) f.stack) (sym (fit_is (types_of b) of.prepared.parameters) ∙ some) in
    let g : Frame = record f { stack = (a.0).rest } in
    let is = call_fit program callee f b a.0 body a.1 in
    let after_is = call_enters program callee f s waiting (call_of (body_of program callee) callee f) (locals_for b.max_locals (a.0).values) g is
    (sym over_is ∙ within) in
    let run : FitsRunning program s.heap (new_frame callee (locals_for b.max_locals (a.0).values)) (g ∷ waiting) = subst (FitsAfter program) after_is fits in
    let bounds = running_bounded program s.heap (new_frame callee (locals_for b.max_locals (a.0).values)) (g ∷ waiting) p run in
    let arguments = arguments_within program callee b (a.0).values p body run.top in
    let few = bounds.few in
    record {
      types = types_of b;
      arguments = a.0;
      parameters = of.prepared.parameters;
      taken = a.1;
      within = subst (λ n. length (spread_values (a.0).values) ≤ n) (sym of.prepared.max_locals) arguments.within;
      few = subst (λ n. n ≤ 1004) (sym of.prepared.max_locals) arguments.few;
      room = omega (arith, few);
      after_is = after_is ∙ ap (λ n. after (running (new_frame callee (locals_for n (a.0).values)) (g ∷ waiting)) s) (sym of.prepared.max_locals);
    }

-- what a turn at a call comes to
pub called : (program : Program) (s : Shared) (f : Frame) (callee : Entry) (types : List FieldType) (n : ℕ)
    → operation_at program (located program f.method f.place) ≡ invokes callee types n
    → result_of program s f ≡ call_of (body_of program callee) callee f
called program s f callee types n e =
    let i = invoked_at program f.method f.place callee types n e in
    call_is program callee f s types n i.body e (body_is program callee i.linked i.body i.class_is i.body_is) i.parameters_are i.max_locals_is

-- ---- what a turn comes to where its instruction left the frame as it was

module _ (program : Program) (s : Shared) (frames : ThreadFrames) (p : IsProgram program) (fits : FitsWorld program (alone s frames)) (now : Shared)
    (then : ThreadFrames) (same_shared : now ≡ s)
    (same_waiting : then.waiting ≡ frames.waiting) where
  pub waiting_bounded : AllByRecursion IsBounded then.waiting
  waiting_bounded = subst (AllByRecursion IsBounded) (sym same_waiting) (alone_bounded program s frames p fits).below

  pub waiting_counts : counted_frames program then.waiting ≡ length then.waiting
  waiting_counts = subst (λ (w : List Frame). counted_frames program w ≡ length w) (sym same_waiting) (alone_counts program s frames p fits)

  module _ (same_top : then.top ≡ frames.top) where
    pub still_bounded : AreBounded then.top then.waiting
    still_bounded = subst (λ (w : List Frame). AreBounded then.top w) (sym same_waiting)
        (subst (λ (f : Frame). AreBounded f frames.waiting) (sym same_top) (alone_bounded program s frames p fits))

    -- what comes of a call
    module _ (callee : Entry) (is : result_of program s frames.top ≡ call_of (body_of program callee) callee frames.top) where
      pub call_same : after_result program (call_of (body_of program callee) callee then.top) now then.top then.waiting
          ≡ after_result program (result_of program s frames.top) s frames.top frames.waiting
      call_same =
          ap (λ (f : Frame). after_result program (call_of (body_of program callee) callee f) now f then.waiting) same_top
          ∙ (ap (λ (w : List Frame). after_result program (call_of (body_of program callee) callee frames.top) now frames.top w) same_waiting
          ∙ (ap (λ (x : Shared). after_result program (call_of (body_of program callee) callee frames.top) x frames.top frames.waiting) same_shared
          ∙ ap (λ r. after_result program r s frames.top frames.waiting) (sym is)))

      pub call_fits : FitsAfter program (after_result program (call_of (body_of program callee) callee then.top) now then.top then.waiting)
      call_fits = subst (FitsAfter program) (sym call_same) (alone_lands program s frames p fits).thread
