-- Turns in which a thread comes to a given result keep a world fitting: at monitor instructions, at calls of synchronized methods,
-- and where a throwable is raised.
use Rattle.std.proofs.Common.{◌≡◌, inl, ℕ, ◌+◌, Bool, true, false, not, ◌&&◌, cond, List, [], ◌∷◌, Option, Some, None}
use Rattle.std.proofs.Common.{nat_eq, refl, sym, ◌∙◌, ap, subst}
use Rattle.std.specs.Prelude.{slice_get}
use Rattle.std.specs.List.{AllByRecursion}
use Rattle.std.proofs.lemmas.Bool.{eqb-true, and_parts, not-true, true≢false}
use Rattle.std.proofs.lemmas.Option.{same_Some}
use Rattle.jc_bytes.proofs.ListLaws.{all_at as get_each}
use Rattle.jc_bytes.proofs.OptionLaws.{none_some}
use Rattle.jc_methods.specs.declared.insn.Insn.{Insn}
use Rattle.jc_methods.specs.declared.insn.Insn.TheVariants as insns
use Rattle.jc_methods.specs.declared.body.Body.{Body}
use Rattle.jc_methods.specs.DescriptorTypes.{method_type_in}
use Rattle.jc_methods.specs.Flow.{FallsThrough}
use Rattle.jc_methods.specs.Opcode as opcode
use Rattle.jc_methods.specs.VerificationTypes.{TypeState}
use Rattle.jc_programs.specs.declared.program.Program.{Program}
use Rattle.jc_programs.specs.declared.program.Linked.{Linked}
use Rattle.jc_programs.specs.declared.run_end.Entry.{Entry}
use Rattle.jc_programs.specs.declared.run_end.Thrown.{Thrown}
use Rattle.jc_programs.specs.Members.{class_at, body_of}
use Rattle.jc_kinds_after.specs.Step as kinds
use Rattle.jc_kinds_after.specs.Table.{form, table, forms_at}
use Rattle.jc_kinds_after.specs.After.{after_of, call_form, step_of, returns_of}
use Rattle.jc_kinds_after.specs.declared.want.Want.TheVariants as wants
use Rattle.jc_kinds.specs.Fits.{Fits}
use Rattle.jc_machine_model.specs.Programs.{IsProgram}
use Rattle.jc_machine_model.specs.Methods.{is_init_name, is_synchronized, is_plain}
use Rattle.jc_machine_model.specs.Values.{Value}
use Rattle.jc_machine_model.specs.World.{Frame, Thread, running, returned, threw, stuck, Shared, World}
use Rattle.jc_machine_model.specs.Results.{Result, raises}
use Rattle.jc_machine_model.specs.Profile.{in_init}
use Rattle.jc_machine_model.specs.Step.{located, after_result}
use Rattle.jc_machine_model.specs.Fits.{plainly, called_by, IsThere, FitsRunning, FitsThread, FitsWorld}
use Rattle.jc_machine_model.specs.Locked.{turn_to, turn_by_of, turn_by, MonitorInsn, enters, exits, monitor_named, monitor_of, monitor_in, monitor_of_frame, dropped, dropping}
use Rattle.jc_machine_model.specs.Locked.{is_locked, locked_if, locked_body, locked_class, locked_method, locked_call, callee_of_frame, callee, call_of, call_to, calling}
use Rattle.jc_machine_laws.specs.Typings.{IsFlowing}
use Rattle.jc_machine_laws.proofs.PlainlyLaws.{plain, plainly_flows, accepted_fits}
use Rattle.jc_machine_laws.proofs.OnwardLaws.{Here, here_by}
use Rattle.jc_machine_laws.proofs.GrowLaws.{same_heap, SharedFits}
use Rattle.jc_machine_laws.proofs.StepLaws.{Turn, Fine, falls, takes_fine}
use Rattle.jc_machine_laws.proofs.CallLaws.{body_is, calls_fine}
use Rattle.jc_machine_laws.proofs.ReturnLaws.{at_of, located_is, after_is, named_is, desc_of, calls_it}
use Rattle.jc_machine_laws.proofs.ThreadLaws.{Lands, lands}
use Rattle.jc_machine_laws.proofs.WorldLaws.{world_lands}

-- ---- methods that only their being synchronized keeps from being entered

pub record IsLockedMethod (program : Program) (method : Entry) : Type 0 where
  pub linked : Linked
  pub class_is : class_at program method.class ≡ Some linked
  pub body : Body
  pub body_is : slice_get linked.bodies method.method ≡ Some body
  pub locked : is_locked linked body ≡ true

-- such a method is the one of which it is asked
pub locked_is : (program : Program) (o : Option Entry) (callee : Entry) → locked_method program o ≡ Some callee
    → (o ≡ Some callee) × IsLockedMethod program callee
locked_is program None callee e = absurd (none_some e)
locked_is program (Some method) callee e = in_class (class_at program method.class) refl e
  where
    in_body : (d : Linked) → class_at program method.class ≡ Some d → (b : Body) → slice_get d.bodies method.method ≡ Some b
        → (z : Bool) → is_locked d b ≡ z → locked_if z method ≡ Some callee → (Some method ≡ Some callee) × IsLockedMethod program callee
    in_body d p b q true r e = (
      e,
      subst (IsLockedMethod program) (same_Some method callee e)
          (record { linked = d; class_is = p; body = b; body_is = q; locked = r }),
    )
    in_body d p b q false r e = absurd (none_some e)

    in_bodies : (d : Linked) → class_at program method.class ≡ Some d → (o : Option Body) → slice_get d.bodies method.method ≡ o
        → locked_body method d o ≡ Some callee → (Some method ≡ Some callee) × IsLockedMethod program callee
    in_bodies d p None q e = absurd (none_some e)
    in_bodies d p (Some b) q e = in_body d p b q (is_locked d b) refl e

    in_class : (o : Option Linked) → class_at program method.class ≡ o → locked_class method o ≡ Some callee
        → (Some method ≡ Some callee) × IsLockedMethod program callee
    in_class None p e = absurd (none_some e)
    in_class (Some d) p e = in_bodies d p (slice_get d.bodies method.method) refl e

-- ---- monitor instructions

-- the instruction takes the operand on top, and the next one follows
abbrev TakesTop : Body → ℕ → Type 0
TakesTop b op =
    (step_of b.uses (returns_of b) (insns.Simple op) ≡ kinds.moves (form (wants.Anything ∷ []) [] ∷ [])) × FallsThrough (insns.Simple op)

takes_top : (b : Body) (op : ℕ) (m : MonitorInsn) → monitor_named op ≡ Some m → TakesTop b op
unfolding forms_at table
takes_top b op m e = by (nat_eq op opcode.monitorenter) refl (nat_eq op opcode.monitorexit) refl e
  where
    by : (x : Bool) → nat_eq op opcode.monitorenter ≡ x → (y : Bool) → nat_eq op opcode.monitorexit ≡ y
        → cond x (Some enters) (cond y (Some exits) None) ≡ Some m → TakesTop b op
    by true q y r e = subst (TakesTop b) (sym (eqb-true op opcode.monitorenter q)) (refl, inl refl)
    by false q true r e = subst (TakesTop b) (sym (eqb-true op opcode.monitorexit r)) (refl, inl refl)
    by false q false r e = absurd (none_some e)

drops_fine : {program : Program} {s : Shared} {f : Frame} {c : Linked} {b : Body} {k t : TypeState} (op : ℕ)
    → Turn plain program s f c b (insns.Simple op) k t → TakesTop b op → (stack : List Value) → f.stack ≡ stack
    → Fine plain program s f b (dropped s f stack)
unfolding Fine
drops_fine op turn takes [] q = tt
drops_fine {program = program} {s = s} {f = f} op turn takes (v ∷ stack) q =
    takes_fine turn (v ∷ []) stack (wants.Anything ∷ []) (f.place + 1) s takes.0 (falls turn takes.1) q refl
    (subst (AllByRecursion (IsThere program s.heap)) q (turn.there).stack).1 (turn.there).locals turn.shared (same_heap s.heap)

-- ---- threads that run

module _ (program : Program) (p : IsProgram program) (s : Shared) (f : Frame) (waiting : List Frame) (w : SharedFits plain program s)
    (run : FitsRunning program s.heap f waiting) where
  flowing : IsFlowing plainly Fits program
  flowing = plainly_flows program p

  here : (insn : Insn) × Here program f run.top.stands.linked run.top.stands.body insn run.top.state
  here = here_by plain program flowing s.heap f run.top.state p run.top.stands

  next : (t : TypeState) × (after_of run.top.stands.body f.place run.top.state ≡ Some t)
  next = after_is program f run.top.stands.linked run.top.stands.body here.0 run.top.state here.1

  stands_here : located program f.method f.place ≡ Some (record { at = at_of f run.top.stands.linked run.top.stands.body; insn = here.0 })
  stands_here = located_is program f run.top.stands.linked run.top.stands.body here.0 run.top.state here.1

  turn : Turn plain program s f run.top.stands.linked run.top.stands.body here.0 run.top.state next.0
  turn = record {
    flowing = flowing;
    here = here.1;
    entered = run.top.stands.entered;
    after = next.1;
    locals = run.top.locals;
    pairs = run.top.pairs;
    stack = run.top.stack;
    there = run.there.0;
    shared = w;
  }

  result_lands : (r : Result) → Fine plain program s f run.top.stands.body r → Lands plain program s (after_result program r s f waiting)
  result_lands r fine = lands flowing p here.1 w waiting run r fine

  -- a throwable is raised
  pub raises_lands : (c : Thrown) → Lands plain program s (after_result program (raises c) s f waiting)
  unfolding Fine
  raises_lands c = result_lands (raises c) tt

  -- the operand on top goes, at a monitor instruction
  pub drops_land : (m : MonitorInsn) → monitor_of_frame program f ≡ Some m → Lands plain program s (after_result program (dropping s f) s f waiting)
  drops_land m e = by here.0 refl (sym (ap monitor_in stands_here) ∙ e)
    where
      by : (insn : Insn) → here.0 ≡ insn → monitor_of insn ≡ Some m → Lands plain program s (after_result program (dropping s f) s f waiting)
      by (insns.Simple op) q e =
          let there = subst (λ i. Turn plain program s f run.top.stands.linked run.top.stands.body i run.top.state next.0) q turn in
          result_lands (dropping s f) (drops_fine op there (takes_top run.top.stands.body op m e) f.stack refl)
      by insn q e = absurd (none_some e)

  -- a call of a method that is synchronized
  pub calls_fine_locked : (method : Entry) → callee_of_frame program f ≡ Some method
      → Fine plain program s f run.top.stands.body (call_of (body_of program method) method f)
  calls_fine_locked method e = by (in_init (at_of f run.top.stands.linked run.top.stands.body)) refl (sym (ap (locked_call program) stands_here) ∙ e)
    where
      by : (z : Bool) → in_init (at_of f run.top.stands.linked run.top.stands.body) ≡ z
          → cond z None (locked_method program (called_by program (at_of f run.top.stands.linked run.top.stands.body) here.0)) ≡ Some method
          → Fine plain program s f run.top.stands.body (call_of (body_of program method) method f)
      by true n e = absurd (none_some e)
      by false n e =
          let l = locked_is program (called_by program (at_of f run.top.stands.linked run.top.stands.body) here.0) method e in
          let m = l.1 in
          let it = calls_it program (at_of f run.top.stands.linked run.top.stands.body) here.0 method l.0 in
          let parts = and_parts (is_plain m.linked m.body) (is_synchronized m.body && not (is_init_name m.body.name)) m.locked in
          let other = not-true (is_init_name m.body.name) (and_parts (is_synchronized m.body) (not (is_init_name m.body.name)) parts.1).1 in
          let desc = desc_of program it.name it.desc method m.linked m.body (named_is program it.class it.name it.desc method it.named) m.class_is m.body_is in
          subst (λ o. Fine plain program s f run.top.stands.body (call_of o method f)) (sym (body_is program method m.linked m.body m.class_is m.body_is))
          (calls_fine turn method m.linked m.body p m.class_is m.body_is parts.0 n (λ z. absurd (true≢false (sym z ∙ other)))
          (record { insn = record { at = at_of f run.top.stands.linked run.top.stands.body; insn = here.0 }; stands = stands_here; calls = l.0 })
          (it.step (returns_of run.top.stands.body) ∙ ap (λ x. kinds.moves (call_form (method_type_in x) ∷ [])) (sym desc))
          (λ i type h q r a. accepted_fits type h a))

  pub call_lands : (method : Entry) → callee_of_frame program f ≡ Some method
      → Lands plain program s (after_result program (call_of (body_of program method) method f) s f waiting)
  call_lands method e = result_lands (call_of (body_of program method) method f) (calls_fine_locked method e)

  pub calling_lands : (method : Entry) → callee_of_frame program f ≡ Some method
      → Lands plain program s (after_result program (calling program s f) s f waiting)
  calling_lands method e =
      subst (λ o. Lands plain program s (after_result program (call_to program o f) s f waiting)) (sym e) (call_lands method e)

-- ---- threads

module _ (program : Program) (p : IsProgram program) (w : World) (t : ℕ) (fits : FitsWorld program w) where
  pub shared_fits : SharedFits plain program w.shared
  shared_fits = record { statics = fits.statics; there = fits.there }

  thread_lands : (act : Shared → Frame → Result) (thread : Thread) → FitsThread program w.shared.heap thread
      → ((f : Frame) (waiting : List Frame) → thread ≡ running f waiting → FitsRunning program w.shared.heap f waiting
      → Lands plain program w.shared (after_result program (act w.shared f) w.shared f waiting))
      → Lands plain program w.shared (turn_to program act w.shared thread)
  thread_lands act (running f waiting) r h = h f waiting refl r
  thread_lands act (returned v) r h = record { thread = tt; shared = shared_fits; grows = same_heap w.shared.heap; hits = tt }
  thread_lands act (threw c) r h = record { thread = tt; shared = shared_fits; grows = same_heap w.shared.heap; hits = tt }
  thread_lands act (stuck method place) r h = record { thread = r; shared = shared_fits; grows = same_heap w.shared.heap; hits = tt }

  pub turn_by_fits : (act : Shared → Frame → Result)
      → ((f : Frame) (waiting : List Frame) → slice_get w.threads t ≡ Some (running f waiting) → FitsRunning program w.shared.heap f waiting
      → Lands plain program w.shared (after_result program (act w.shared f) w.shared f waiting))
      → FitsWorld program (turn_by program act w t)
  turn_by_fits act h = by (slice_get w.threads t) refl
    where
      by : (o : Option Thread) → slice_get w.threads t ≡ o → FitsWorld program (turn_by_of program act w t o)
      by None e = fits
      by (Some thread) e =
          world_lands plain program (plainly_flows program p) p w t (turn_to program act w.shared thread) fits
          (thread_lands act thread (get_each (FitsThread program w.shared.heap) w.threads t thread fits.threads e)
          (λ f waiting q r. h f waiting (e ∙ ap (λ (x : Thread). Some x) q) r))
