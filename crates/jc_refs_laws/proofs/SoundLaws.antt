-- No run of a program that passes the reference check has a reference of a wrong class.
use Rattle.std.proofs.Common.{◌≡◌, inl, inr, ℕ, zero, suc, ◌<◌, arith, Bool, true, false, not, ◌&&◌, List, [], ◌∷◌, reverse, Some, None, refl, sym, ◌∙◌, ap, subst, slice_index_or}
use Rattle.std.specs.Prelude.{Contains, slice_get}
use Rattle.std.proofs.lemmas.Bool.{false≢true}
use Rattle.std.proofs.lemmas.Option.{same_Some}
use Rattle.jc_bytes.proofs.ListLaws.{all_at, each_in}
use Rattle.jc_bytes.proofs.OptionLaws.{none_some}
use Rattle.jc_methods.specs.declared.insn.Insn.{Insn}
use Rattle.jc_methods.specs.declared.body.Body.{Body}
use Rattle.jc_methods.specs.VerificationTypes.{VerificationType}
use Rattle.jc_methods.specs.VerificationTypes as verification
use Rattle.jc_programs.specs.declared.program.Program.{Program}
use Rattle.jc_programs.specs.declared.run_plan.Case.{Case}
use Rattle.jc_programs.specs.declared.run_end.Entry.{Entry}
use Rattle.jc_programs.specs.Entries.{AreEntries}
use Rattle.jc_machine_model.specs.Methods.{is_enterable}
use Rattle.jc_machine_model.specs.Operations.{Operation, builds}
use Rattle.jc_machine_model.specs.Programs.{IsProgram}
use Rattle.jc_machine_model.specs.Values.{Value, int, long, null, is_reference}
use Rattle.jc_machine_model.specs.Heap.{HeapObject}
use Rattle.jc_machine_model.specs.World.{Frame, running, World}
use Rattle.jc_machine_model.specs.Step.{located, operation_at, step}
use Rattle.jc_machine_model.specs.Begin.{begin}
use Rattle.jc_machine_model.specs.Run.{run_from, run}
use Rattle.jc_machine_model.specs.Fits.{IsInt, IsLong, IsOfBy, AreOfBy, made_in, FitsTopBy, FitsThreadBy, FitsRunningBy}
use Rattle.jc_machine_laws.proofs.OnwardLaws.{Here, here_from}
use Rattle.jc_machine_laws.proofs.WorldLaws.{step_fits_by, entries_are}
use Rattle.jc_refs_check.specs.Needs.{Need, needs_of}
use Rattle.jc_refs_check.specs.RefsOk.{is_taken, operand, RefsOk}
use Rattle.jc_refs_check.specs.Suits.{Passes}
use Rattle.jc_refs_check.specs.Wrong.{class_of, is_null, takes_value, is_wrong, WrongReference}
use Rattle.jc_refs_laws.specs.Classes.{HoldsClass, by_class, FitsByClass}
use Rattle.jc_refs_laws.specs.Laws.{RefsSound}
use Rattle.jc_refs_laws.proofs.BeginLaws.{begins_by_class}
use Rattle.jc_refs_laws.proofs.FlowingLaws.{enterable_plain, flowing, looks_here}
use Rattle.jc_refs_laws.proofs.HoldingLaws.{holding}
use Rattle.jc_refs_laws.proofs.NeedLaws.{IsClosed, needs_closed, needs_below}
use Rattle.jc_refs_laws.proofs.TakenLaws.{taken, is_building, is_fresh, LooksAt}

-- ---- one operand

-- the value under so many others is of the type there
value_at : (R : Value → VerificationType → Type 0) (stack : List Value) (types : List VerificationType) (k : ℕ) (v : Value) → AreOfBy R stack types
    → slice_get stack k ≡ Some v → IsOfBy R v (slice_index_or types k verification.top)
value_at R [] types k v p e = absurd (none_some e)
value_at R (x ∷ stack) [] k v p e = absurd p
value_at R (x ∷ stack) (h ∷ types) zero v p e = subst (λ y. IsOfBy R y h) (same_Some x v e) p.0
value_at R (x ∷ stack) (h ∷ types) (suc k) v p e = value_at R stack types k v p.1 e

module _ (heap : List HeapObject) (n : Need) where
  right_number : (v : Value) → is_reference v ≡ false → is_wrong heap n v ≡ false
  right_number v e = ap (λ b. b && (not (is_null v) && not (takes_value heap n v))) e

  right_int : (v : Value) → IsInt v → is_reference v ≡ false
  right_int (int x) p = refl
  right_int v p = absurd p

  right_long : (v : Value) → IsLong v → is_reference v ≡ false
  right_long (long x) p = refl
  right_long v p = absurd p

  right_null : (v : Value) → v ≡ null → is_wrong heap n v ≡ false
  right_null v e = ap (is_wrong heap n) e

  -- a class that will do
  right_class : (v : Value) (class : List ℕ) → class_of heap v ≡ Some class → n.takes class ≡ true → is_wrong heap n v ≡ false
  right_class v class e t = by (takes_value heap n v) (ap (λ o. elim o [ None ↦ false | Some name ↦ n.takes name ]) e ∙ t)
    where
      by : (z : Bool) → z ≡ true → (is_reference v && (not (is_null v) && not z)) ≡ false
      by true q = none (is_reference v) (is_null v)
        where
          none : (a b : Bool) → (a && (not b && false)) ≡ false
          none true true = refl
          none true false = refl
          none false b = refl
      by false q = absurd (false≢true q)

  module _ (b : Body) (building : Bool) (closed : IsClosed building n) (v : Value) where
    right_object : (name : List ℕ) → building ≡ false → n.takes name ≡ true → HoldsClass heap (made_in b) v (verification.object name)
        → is_wrong heap n v ≡ false
    right_object name z t (inl e) = right_null v e
    right_object name z t (inr c) = right_class v c.class c.is (closed.down z c.class name c.suits t)

    no_building : (z : Bool) → (z ≡ true → false ≡ true) → z ≡ false
    no_building true f = absurd (false≢true (f refl))
    no_building false f = refl

    -- an operand that is taken, and is of its type
    right_operand : (h : VerificationType) → (h ≡ verification.top → ⊥) → (building ≡ true → is_fresh h ≡ true) → is_taken b n h ≡ true
        → IsOfBy (HoldsClass heap (made_in b)) v h → is_wrong heap n v ≡ false
    right_operand verification.top none fresh t p = absurd (none refl)
    right_operand verification.int none fresh t p = right_number v (right_int v p)
    right_operand verification.long none fresh t p = right_number v (right_long v p)
    right_operand verification.float none fresh t p = absurd p
    right_operand verification.double none fresh t p = absurd p
    right_operand verification.null none fresh t p = right_null v p
    right_operand verification.uninit_this none fresh t p = absurd p
    right_operand (verification.object name) none fresh t p = right_object name (no_building building fresh) t p
    right_operand (verification.uninit at) none fresh t p = right_class v (made_in b at) p.is (closed.fresh (made_in b at) t p.thrown)

-- a constructor's call takes one operand
only_first : (o : Operation) (k : ℕ) → is_building o ≡ true → k < taken o → k ≡ 0
only_first (builds c) k b lt = omega (arith, lt)
only_first o k b lt = absurd (false≢true b)

-- ---- one thread

module _ (program : Program) (p : IsProgram program) (ok : RefsOk program) (heap : List HeapObject) (f : Frame)
    (fits : FitsTopBy is_enterable (HoldsClass heap) program f) where
  here : (insn : Insn) × Here program f fits.stands.linked fits.stands.body insn fits.state
  here = here_from is_enterable enterable_plain program f fits.state p fits.stands

  abbrev operation : Operation
  operation = operation_at program (located program f.method f.place)

  never_wrong : (n : Need) → Contains (needs_of (operation_at program (located program f.method f.place))) n → (v : Value)
      → slice_get f.stack n.above ≡ Some v → is_wrong heap n v ≡ false
  never_wrong n among v e =
      right_operand heap n fits.stands.body (is_building operation)
      (each_in (IsClosed (is_building operation)) (needs_of operation) n (needs_closed operation) among) v
      (operand n.above fits.state.stack) (looks.operands.each n.above lies) first
      ((ok f.method fits.stands.body f.place (record {
        linked = fits.stands.linked;
        class_is = fits.stands.class_is;
        body_is = fits.stands.body_is;
        enterable = fits.stands.entered;
        within = fits.stands.within;
      })).operands fits.state fits.stands.state_is n among)
      (value_at (HoldsClass heap (made_in fits.stands.body)) f.stack (reverse fits.state.stack) n.above v fits.stack e)
    where
      looks : LooksAt operation fits.state.stack
      looks = looks_here program f fits.stands.linked fits.stands.body here.0 fits.state here.1

      lies : n.above < taken operation
      lies = each_in (λ (m : Need). m.above < taken operation) (needs_of operation) n (needs_below operation) among

      first : is_building operation ≡ true → is_fresh (operand n.above fits.state.stack) ≡ true
      first b = subst (λ k. is_fresh (operand k fits.state.stack) ≡ true) (sym (only_first operation n.above b lies)) (looks.fresh b)

-- ---- runs

module _ (program : Program) (p : IsProgram program) (ok : RefsOk program) where
  from_class : (w : World) (turns : List ℕ) → FitsByClass program w → FitsByClass program (run_from program w turns)
  from_class w [] h = h
  from_class w (t ∷ turns) h = from_class (step program w t) turns (step_fits_by by_class Passes program w t holding p (flowing program p ok) h)

  run_by_class : (case : Case) (entries : List Entry) (turns : List ℕ) → AreEntries program case.threads entries → FitsByClass program (run program case turns)
  run_by_class case entries turns a =
      subst (λ l. FitsByClass program (run_from program (begin program case.threads l) turns)) (sym (entries_are program case.threads entries a))
      (from_class (begin program case.threads entries) turns (begins_by_class program case entries p a))

  none_wrong : (w : World) (t : ℕ) → FitsByClass program w → WrongReference program w t → ⊥
  none_wrong w t fits wrong =
      false≢true (sym (never_wrong program p ok w.shared.heap wrong.top thread.top wrong.need wrong.needed wrong.value wrong.there) ∙ wrong.wrong)
    where
      thread : FitsRunningBy by_class program w.shared.heap wrong.top wrong.waiting
      thread = all_at (FitsThreadBy by_class program w.shared.heap) w.threads t (running wrong.top wrong.waiting) fits.threads wrong.runs

pub sound : (program : Program) (case : Case) → RefsSound program case
sound program case p ok entries a turns t wrong = none_wrong program p ok (run program case turns) t (run_by_class program p ok case entries turns a) wrong
