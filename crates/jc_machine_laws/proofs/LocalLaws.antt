-- Local variables of the machine against those of the kind check.
use Rattle.std.proofs.Common.{◌≡◌, ℕ, zero, suc, ◌+◌, ℤ, Bool, true, false, cond, List, [], ◌∷◌, Option, Some, None, refl, sym}
use Rattle.std.proofs.Common.{subst, slice_set, slice_index_or, length, replicate, ◌++◌, arith}
use Rattle.std.specs.List.{AllByRecursion}
use Rattle.std.proofs.lemmas.Bool.{false≢true}
use Rattle.jc_methods.specs.VerificationTypes.{VerificationType}
use Rattle.jc_methods.specs.VerificationTypes as verification
use Rattle.jc_programs.specs.declared.program.Program.{Program}
use Rattle.jc_kinds_after.specs.Step as kinds
use Rattle.jc_machine_model.specs.Values.{Value, long, is_pair}
use Rattle.jc_machine_model.specs.Heap.{HeapObject}
use Rattle.jc_machine_model.specs.Locals.{is_pair_there, clear_before, clear_behind, put_local}
use Rattle.jc_machine_model.specs.Fits.{IsInSlotBy, AreInSlotsBy, IsOfBy, IsThere, IsThereInSlot}
use Rattle.jc_machine_laws.proofs.TypedLaws.{References}

module _ (R : References) where
  pub read_fits : (locals : List (Option Value)) (ks : List VerificationType) (k : ℕ) → AreInSlotsBy R.holds locals ks
      → IsInSlotBy R.holds (slice_index_or locals k None) (slice_index_or ks k verification.top)
  read_fits [] [] k p = tt
  read_fits [] (h ∷ ks) k p = absurd p
  read_fits (l ∷ locals) [] k p = absurd p
  read_fits (l ∷ locals) (h ∷ ks) zero p = p.0
  read_fits (l ∷ locals) (h ∷ ks) (suc k) p = read_fits locals ks k p.1

  pub set_fits : (locals : List (Option Value)) (ks : List VerificationType) (k : ℕ) (l : Option Value) (h : VerificationType)
      → AreInSlotsBy R.holds locals ks → IsInSlotBy R.holds l h → AreInSlotsBy R.holds (slice_set locals k l) (slice_set ks k h)
  set_fits [] [] k l h p q = tt
  set_fits [] (g ∷ ks) k l h p q = absurd p
  set_fits (m ∷ locals) [] k l h p q = absurd p
  set_fits (m ∷ locals) (g ∷ ks) zero l h p q = (q, p.1)
  set_fits (m ∷ locals) (g ∷ ks) (suc k) l h p q = (p.0, set_fits locals ks k l h p.1 q)

  -- what is cleared of a type is `top`, which anything fits
  slot_cleared : (l : Option Value) (h : VerificationType) → IsInSlotBy R.holds l h → IsInSlotBy R.holds l (kinds.cleared h)
  slot_cleared l verification.top p = tt
  slot_cleared l verification.int p = p
  slot_cleared l verification.float p = p
  slot_cleared l verification.double p = tt
  slot_cleared l verification.long p = tt
  slot_cleared l verification.null p = p
  slot_cleared l verification.uninit_this p = p
  slot_cleared l (verification.object name) p = p
  slot_cleared l (verification.uninit at) p = p

  keep_fits : (locals : List (Option Value)) (ks : List VerificationType) (k : ℕ) → AreInSlotsBy R.holds locals ks
      → AreInSlotsBy R.holds locals (slice_set ks k (kinds.cleared (slice_index_or ks k verification.top)))
  keep_fits [] [] k p = tt
  keep_fits [] (h ∷ ks) k p = absurd p
  keep_fits (l ∷ locals) [] k p = absurd p
  keep_fits (l ∷ locals) (h ∷ ks) zero p = (slot_cleared l h p.0, p.1)
  keep_fits (l ∷ locals) (h ∷ ks) (suc k) p = (p.0, keep_fits locals ks k p.1)

  -- a long is of no type that isn't cleared
  long_in_slot : (x : ℤ) (h : VerificationType) → IsInSlotBy R.holds (Some (long x)) h → IsInSlotBy R.holds None (kinds.cleared h)
  long_in_slot x verification.top p = tt
  long_in_slot x verification.int p = absurd p
  long_in_slot x verification.float p = absurd p
  long_in_slot x verification.double p = absurd p
  long_in_slot x verification.long p = tt
  long_in_slot x verification.null p = absurd (false≢true (R.reference (long x) verification.null p))
  long_in_slot x verification.uninit_this p = absurd (false≢true (R.reference (long x) verification.uninit_this p))
  long_in_slot x (verification.object name) p = absurd (false≢true (R.reference (long x) (verification.object name) p))
  long_in_slot x (verification.uninit at) p = absurd (false≢true (R.reference (long x) (verification.uninit at) p))

  long_cleared : (l : Option Value) (h : VerificationType) → is_pair_there l ≡ true → IsInSlotBy R.holds l h → IsInSlotBy R.holds None (kinds.cleared h)
  long_cleared None h e p = absurd (false≢true e)
  long_cleared (Some (long x)) h e p = long_in_slot x h p
  long_cleared (Some v) h e p = absurd (false≢true e)

  clear_fits : (locals : List (Option Value)) (ks : List VerificationType) (k : ℕ) → AreInSlotsBy R.holds locals ks
      → AreInSlotsBy R.holds (clear_before k locals) (kinds.clear_before k ks)
  clear_fits locals ks zero p = p
  clear_fits locals ks (suc k) p = by (is_pair_there (slice_index_or locals k None)) refl
    where
      by : (b : Bool) → is_pair_there (slice_index_or locals k None) ≡ b
          → AreInSlotsBy R.holds (cond b (slice_set locals k None) locals) (slice_set ks k (kinds.cleared (slice_index_or ks k verification.top)))
      by true e =
          set_fits locals ks k None (kinds.cleared (slice_index_or ks k verification.top)) p
          (long_cleared (slice_index_or locals k None) (slice_index_or ks k verification.top) e (read_fits locals ks k p))
      by false e = keep_fits locals ks k p

  behind_fits : (locals : List (Option Value)) (ks : List VerificationType) (k : ℕ) (v : Value) (h : VerificationType)
      → is_pair v ≡ verification.is_pair h → AreInSlotsBy R.holds locals ks → AreInSlotsBy R.holds (clear_behind k v locals) (kinds.put_second h k ks)
  behind_fits locals ks k v h e p =
      subst (λ b. AreInSlotsBy R.holds (cond b (slice_set locals (k + 1) None) locals)
      (cond (verification.is_pair h) (slice_set ks (k + 1) verification.top) ks)) (sym e) (by (verification.is_pair h))
    where
      by : (b : Bool) → AreInSlotsBy R.holds (cond b (slice_set locals (k + 1) None) locals) (cond b (slice_set ks (k + 1) verification.top) ks)
      by true = set_fits locals ks (k + 1) None verification.top p tt
      by false = p

  pub to_slot : (v : Value) (h : VerificationType) → IsOfBy R.holds v h → IsInSlotBy R.holds (Some v) h
  to_slot v verification.top p = tt
  to_slot v h p = p

  pub from_slot : (v : Value) (h : VerificationType) → IsInSlotBy R.holds (Some v) h → IsOfBy R.holds v h
  from_slot v verification.top p = tt
  from_slot v h p = p

  -- a store of a value of a type
  pub put_fits : (locals : List (Option Value)) (ks : List VerificationType) (k : ℕ) (v : Value) (h : VerificationType)
      → AreInSlotsBy R.holds locals ks → IsOfBy R.holds v h → is_pair v ≡ verification.is_pair h
      → AreInSlotsBy R.holds (put_local k v locals) (kinds.put_local k h ks)
  put_fits locals ks k v h p q e =
      behind_fits (slice_set (clear_before k locals) k (Some v)) (slice_set (kinds.clear_before k ks) k h) k v h e
      (set_fits (clear_before k locals) (kinds.clear_before k ks) k (Some v) h (clear_fits locals ks k p) (to_slot v h q))

-- ---- lists of local variables

module _ (R : References) where
  pub slots_append : (a b : List (Option Value)) (x y : List VerificationType) → AreInSlotsBy R.holds a x → AreInSlotsBy R.holds b y
      → AreInSlotsBy R.holds (a ++ b) (x ++ y)
  slots_append [] b [] y p q = q
  slots_append [] b (h ∷ x) y p q = absurd p
  slots_append (l ∷ a) b [] y p q = absurd p
  slots_append (l ∷ a) b (h ∷ x) y p q = (p.0, slots_append a b x y p.1 q)

  pub slots_length : (a : List (Option Value)) (x : List VerificationType) → AreInSlotsBy R.holds a x → length a ≡ length x
  slots_length [] [] p = refl
  slots_length [] (h ∷ x) p = absurd p
  slots_length (l ∷ a) [] p = absurd p
  slots_length (l ∷ a) (h ∷ x) p = let e = slots_length a x p.1 in grind (arith, e)

  pub all_top : (n : ℕ) → AreInSlotsBy R.holds (replicate n None) (replicate n verification.top)
  all_top zero = tt
  all_top (suc n) = (tt, all_top n)

-- ---- references

pub set_there : (program : Program) (heap : List HeapObject) (locals : List (Option Value)) (k : ℕ) (l : Option Value)
    → AllByRecursion (IsThereInSlot program heap) locals → IsThereInSlot program heap l
    → AllByRecursion (IsThereInSlot program heap) (slice_set locals k l)
set_there program heap [] k l p q = tt
set_there program heap (m ∷ locals) zero l p q = (q, p.1)
set_there program heap (m ∷ locals) (suc k) l p q = (p.0, set_there program heap locals k l p.1 q)

clear_there : (program : Program) (heap : List HeapObject) (locals : List (Option Value)) (k : ℕ)
    → AllByRecursion (IsThereInSlot program heap) locals → AllByRecursion (IsThereInSlot program heap) (clear_before k locals)
clear_there program heap locals zero p = p
clear_there program heap locals (suc k) p = by (is_pair_there (slice_index_or locals k None))
  where
    by : (b : Bool) → AllByRecursion (IsThereInSlot program heap) (cond b (slice_set locals k None) locals)
    by true = set_there program heap locals k None p tt
    by false = p

pub put_there : (program : Program) (heap : List HeapObject) (locals : List (Option Value)) (k : ℕ) (v : Value)
    → AllByRecursion (IsThereInSlot program heap) locals → IsThere program heap v
    → AllByRecursion (IsThereInSlot program heap) (put_local k v locals)
put_there program heap locals k v p q = by (is_pair v)
  where
    set : AllByRecursion (IsThereInSlot program heap) (slice_set (clear_before k locals) k (Some v))
    set = set_there program heap (clear_before k locals) k (Some v) (clear_there program heap locals k p) q

    by : (b : Bool) → AllByRecursion (IsThereInSlot program heap)
        (cond b (slice_set (slice_set (clear_before k locals) k (Some v)) (k + 1) None) (slice_set (clear_before k locals) k (Some v)))
    by true = set_there program heap (slice_set (clear_before k locals) k (Some v)) (k + 1) None set tt
    by false = set

pub read_there : (program : Program) (heap : List HeapObject) (locals : List (Option Value)) (k : ℕ)
    → AllByRecursion (IsThereInSlot program heap) locals → IsThereInSlot program heap (slice_index_or locals k None)
read_there program heap [] k p = tt
read_there program heap (l ∷ locals) zero p = p.0
read_there program heap (l ∷ locals) (suc k) p = read_there program heap locals k p.1
