-- The state that an instruction leaves, by its step.
use Rattle.std.proofs.Common.{◌≡◌, ℕ, ◌+◌, ◌<◌, Bool, true, false, List, [], ◌∷◌, ◌++◌, length, map, Option, Some, option_map, Result, Ok, Err, IfOk}
use Rattle.std.proofs.Common.{if◌then◌else◌, refl, sym, ap, ap₂, subst, ◌∙◌, arith, get_or, slice_get, nat_lt}
use Rattle.std.specs.Option.{option_and_then}
use Rattle.std.specs.List.{AllByRecursion}
use Rattle.std.proofs.lemmas.Bool.{le-ltb, true≢false}
use Rattle.std.proofs.lemmas.Option.{slice_get-get_or, same_Some}
use Rattle.jc_methods.specs.Opcode as opcode
use Rattle.jc_methods.specs.declared.insn.Insn.{Insn}
use Rattle.jc_methods.specs.declared.insn.Insn.TheVariants as insns
use Rattle.jc_methods.specs.declared.kind.State.{State}
use Rattle.jc_methods.specs.declared.body.Use.{Use}
use Rattle.jc_methods.specs.declared.body.Body.{Body}
use Rattle.jc_bytes.specs.declared.fail.Memory.{Memory}
use Rattle.jc_bytes.specs.Descriptor.{FieldType}
use Rattle.jc_methods.specs.InsnUse.{is_of_two_slots, LocalsWithin}
use Rattle.jc_methods.specs.WellMade.{what_used}
use Rattle.jc_methods.specs.VerificationTypes.{Names, TypeState, verification_type, type_state, IsNumberedState}
use Rattle.jc_methods.proofs.SeenLaws.{seen_stays}
use Rattle.jc_kinds_after.specs.declared.effects.Effects.{Effects}
use Rattle.jc_kinds_after.specs.declared.step.Step.{Step as KeptStep}
use Rattle.jc_kinds_after.specs.declared.step.Step.TheVariants as steps
use Rattle.jc_kinds_after.specs.Step.{StackEffect, Step, moves, loads, stores, counts, picks, builds, apply, built, picked, moved_by, with_stack}
use Rattle.jc_kinds_after.specs.After.{local_want, step_of, insn_at, ground_of, returns_of, after_of}
use Rattle.jc_kinds_after.specs.Arrays.{array_forms}
use Rattle.jc_kinds_after.specs.Effects.{AreEffects, body_of}
use Rattle.jc_kinds_after.specs.Steps.{step_in, HasLocal, is_picking}
use Rattle.jc_kinds_after.proofs.EffectsLaws.{are_later}
use Rattle.jc_kinds_after.specs.Shift.{slot_of, shifted_step}
use Rattle.jc_kinds_after.proofs.AfterLaws.{still_simple, still_constant, still_member, still_interface, still_dynamic, still_class, still_multi}
use Rattle.jc_kinds_after.specs.Answers.{LeavesAlways}

-- ---- local variables

abbrev InRange : ℕ → Step → Type 0
InRange count (loads k w) = k < count
InRange count (stores k w) = k < count
InRange count (counts k) = k < count
InRange count st = Unit {0}

-- With a new local variable in front of all, each has another number.
moved_up : (k : ℕ) → slot_of 0 k ≡ k → ⊥
moved_up k e = let up : slot_of 0 k ≡ k + 1 = ap (λ (b : Bool). if b then k else k + 1) (le-ltb k 0 (omega arith)) in omega (arith, e, up)

-- what names no local variable
in_range : (count : ℕ) (st : Step) → shifted_step 0 st ≡ st → InRange count st
in_range count (loads k w) e = absurd (moved_up k (let same : slot_of 0 k ≡ k = cc in same))
in_range count (stores k w) e = absurd (moved_up k (let same : slot_of 0 k ≡ k = cc in same))
in_range count (counts k) e = absurd (moved_up k (let same : slot_of 0 k ≡ k = cc in same))
in_range count _ e = tt

range_there : (uses : List Use) (returns : Option FieldType) (count : ℕ) (insn : Insn) → LocalsWithin count insn → InRange count (step_of uses returns insn)
range_there uses returns count (insns.Local op slot) within = by (nat_lt op opcode.istore) (first (is_of_two_slots op) within)
  where
    first : (b : Bool) → AllByRecursion (λ s. s < count) (if b then slot ∷ (slot + 1) ∷ [] else slot ∷ []) → slot < count
    first true w = w.0
    first false w = w.0

    by : (b : Bool) → slot < count → InRange count (if b then loads slot (local_want op) else stores slot (local_want op))
    by true lt = lt
    by false lt = lt
range_there uses returns count (insns.Inc slot n) within = within.0
range_there uses returns count (insns.Simple op) within = in_range count _ (still_simple 0 returns op).stays
range_there uses returns count (insns.Constant place) within = in_range count _ (still_constant 0 (what_used uses place)).stays
range_there uses returns count (insns.Constant2 place) within = in_range count _ (still_constant 0 (what_used uses place)).stays
range_there uses returns count (insns.Member op place) within = in_range count _ (still_member 0 op (what_used uses place)).stays
range_there uses returns count (insns.Interface place n) within = in_range count _ (still_interface 0 (what_used uses place)).stays
range_there uses returns count (insns.Dynamic place) within = in_range count _ (still_dynamic 0 (what_used uses place)).stays
range_there uses returns count (insns.OfClass op place) within = in_range count _ (still_class 0 op (what_used uses place)).stays
range_there uses returns count (insns.Multi place dims) within = in_range count _ (still_multi 0 dims (what_used uses place)).stays
range_there uses returns count _ within = tt

kept_range : (count : ℕ) (names : Names) (st : KeptStep) → InRange count (step_in names st) → HasLocal count st
kept_range count names (steps.Load slot want) lt = lt
kept_range count names (steps.Store slot want) lt = lt
kept_range count names (steps.Count slot) lt = lt
kept_range count names _ lt = tt

-- ---- the instruction

pub insn_here : (code other : List Insn) (i : ℕ) (x : Insn) → code ≡ other → i < length other → x ≡ get_or code i x → slice_get other i ≡ Some x
insn_here code other i x same lt read = slice_get-get_or other i x lt ∙ ap Some (ap (λ (l : List Insn). get_or l i x) (sym same) ∙ sym read)

pub local_there : (old : Names) (e : Effects) (i count : ℕ) (x : Insn) (st : KeptStep) → AreEffects old e → slice_get (body_of e).code i ≡ Some x
    → i < length (body_of e).code → count ≡ (body_of e).max_locals
    → ((names : Names) → AreEffects names e → step_in names st ≡ step_of (body_of e).uses (returns_of (body_of e)) x) → HasLocal count st
local_there old e i count x st are at lt counted kept =
    kept_range count old st (subst (InRange count) (sym (kept old are)) (range_there (body_of e).uses (returns_of (body_of e)) count x
    (subst (λ (n : ℕ). LocalsWithin n x) (sym counted)
    (subst (LocalsWithin (body_of e).max_locals) (same_Some _ _ (sym (slice_get-get_or (body_of e).code i x lt) ∙ at)) (are.body.locals i x lt)))))

pub after_is : (b : Body) (i : ℕ) (s : TypeState) (x : Insn) → insn_at b i ≡ Some x → after_of b i s ≡ apply (ground_of b i) (step_of b.uses (returns_of b) x) s
unfolding after_of
after_is b i s x at = ap (option_and_then (λ insn. apply (ground_of b i) (step_of b.uses (returns_of b) insn) s)) at

-- ---- what is left

pub leave_step : (old : Names) (e : Effects) (i : ℕ) (s : State) (x : Insn) (st : KeptStep) (r : Result (Option State) Memory) → AreEffects old e
    → IsNumberedState (length old) s → insn_at (body_of e) i ≡ Some x
    → ((names : Names) → AreEffects names e → step_in names st ≡ step_of (body_of e).uses (returns_of (body_of e)) x)
    → IfOk r (λ o. (names : Names) → AreEffects names e
    → option_map (type_state names) o ≡ apply (ground_of (body_of e) i) (step_in names st) (type_state names s)) → IfOk r (LeavesAlways old old (body_of e) i s)
leave_step old e i s x st (Err f) are n at kept left = tt
leave_step old e i s x st (Ok o) are n at kept left = λ more.
    let later = are_later old (old ++ more) e (more, refl) are in
    left (old ++ more) later ∙ ap₂ (apply (ground_of (body_of e) i)) (kept (old ++ more) later) (seen_stays old more s n)
    ∙ sym (after_is (body_of e) i (type_state old s) x at)

picking_step : (uses : List Use) (returns : Option FieldType) (x : Insn) → is_picking x ≡ true → step_of uses returns x ≡ picks
picking_step uses returns (insns.Simple op) e = rw e refl
picking_step uses returns _ e = absurd (true≢false (sym e))

pub leave_pick : (old new : Names) (b : Body) (i : ℕ) (s : State) (x : Insn) (r : Result (Option State) Memory) → insn_at b i ≡ Some x → is_picking x ≡ true
    → IfOk r (λ o. (more : Names) → option_map (type_state (new ++ more)) o ≡ picked b.max_stack (type_state old s)) → IfOk r (LeavesAlways old new b i s)
leave_pick old new b i s x (Err f) at picking left = tt
leave_pick old new b i s x (Ok o) at picking left = λ more.
    left more ∙ sym (after_is b i (type_state old s) x at
    ∙ ap (λ (st : Step). apply (ground_of b i) st (type_state old s)) (picking_step b.uses (returns_of b) x picking))

pub leave_array : (old new : Names) (b : Body) (i elem : ℕ) (s : State) (x : Insn) (r : Result (Option State) Memory) → insn_at b i ≡ Some x
    → x ≡ insns.NewArray elem
    → IfOk r (λ o. (more : Names)
    → option_map (type_state (new ++ more)) o
    ≡ with_stack (type_state old s) (moved_by b.max_stack (array_forms elem) (map (verification_type old) s.stack))) → IfOk r (LeavesAlways old new b i s)
leave_array old new b i elem s x (Err f) at is left = tt
leave_array old new b i elem s x (Ok o) at is left = λ more. left more ∙ sym (after_is b i (type_state old s) (insns.NewArray elem) (at ∙ ap Some is))

-- ---- steps as they are kept

pub built_there : (e : Effects) (s : State) (st : KeptStep) (F : Names → StackEffect) (place : ℕ) (r : Result (Option State) Memory)
    → ((names : Names) → step_in names st ≡ builds (F names))
    → IfOk r (λ o. (names : Names) (p : ℕ) → AreEffects names e
    → option_map (type_state names) o ≡ built (ground_of (body_of e) p) (F names) (type_state names s))
    → IfOk r (λ o. (names : Names) → AreEffects names e
    → option_map (type_state names) o ≡ apply (ground_of (body_of e) place) (step_in names st) (type_state names s))
built_there e s st F place (Err f) is left = tt
built_there e s st F place (Ok o) is left =
    λ names are. left names place are ∙ sym (ap (λ (x : Step). apply (ground_of (body_of e) place) x (type_state names s)) (is names))

pub moved_there : (e : Effects) (s : State) (st : KeptStep) (F : Names → StackEffect) (place : ℕ) (r : Result (Option State) Memory)
    → ((names : Names) → step_in names st ≡ moves (F names ∷ []))
    → IfOk r (λ o. (names : Names)
    → option_map (type_state names) o ≡ with_stack (type_state names s) (moved_by (body_of e).max_stack (F names ∷ []) (map (verification_type names) s.stack)))
    → IfOk r (λ o. (names : Names) → AreEffects names e
    → option_map (type_state names) o ≡ apply (ground_of (body_of e) place) (step_in names st) (type_state names s))
moved_there e s st F place (Err f) is left = tt
moved_there e s st F place (Ok o) is left =
    λ names are. left names ∙ sym (ap (λ (x : Step). apply (ground_of (body_of e) place) x (type_state names s)) (is names))
