-- Static fields of the two worlds.
use Rattle.std.proofs.Common.{◌≡◌, ℕ, zero, suc, ◌<◌, ◌≤◌, Bool, true, false, List, [], ◌∷◌, ◌++◌, length, Option, Some, None, nat_eq, refl, sym, ap, ◌∙◌, subst, subst₂, arith, length-append}
use Rattle.std.specs.Prelude.{slice_get, slice_set, slice_index_or}
use Rattle.std.proofs.Math.ListN.{length-set}
use Rattle.std.proofs.lemmas.Bool.{eqb-true, eqb-false}
use Rattle.jc_programs.specs.declared.program.Program.{Program}
use Rattle.jc_programs.specs.declared.run_end.Entry.{Entry}
use Rattle.jc_programs.specs.Members.{class_at}
use Rattle.jc_machine_model.specs.Values.{Value, probes}
use Rattle.jc_machine_model.specs.World.{Shared}
use Rattle.jc_machine_model.specs.Operations.{FieldAt}
use Rattle.jc_machine_model.specs.Statics.{static_at, with_static}
use Rattle.jc_twin_simulation.specs.Sides.{Side}
use Rattle.jc_twin_simulation.specs.Beside.{null_or, extra_in, SameStatics, values_of, SameShared}

-- ---- one value more behind a list

get_front : (xs : List Value) (k : ℕ) (x : Value) → k < length xs → slice_get (xs ++ (x ∷ [])) k ≡ slice_get xs k
get_front [] k x lt = absurd (omega arith)
get_front (y ∷ xs) zero x lt = refl
get_front (y ∷ xs) (suc k) x lt = get_front xs k x (omega arith)

get_behind : (xs : List Value) (x : Value) → slice_get (xs ++ (x ∷ [])) (length xs) ≡ Some x
get_behind [] x = refl
get_behind (y ∷ xs) x = get_behind xs x

set_front : (xs : List Value) (k : ℕ) (x y : Value) → k < length xs → slice_set (xs ++ (x ∷ [])) k y ≡ slice_set xs k y ++ (x ∷ [])
set_front [] k x y lt = absurd (omega arith)
set_front (z ∷ xs) zero x y lt = refl
set_front (z ∷ xs) (suc k) x y lt = ap (λ l. z ∷ l) (set_front xs k x y (omega arith))

set_behind : (xs : List Value) (x y : Value) → slice_set (xs ++ (x ∷ [])) (length xs) y ≡ xs ++ (y ∷ [])
set_behind [] x y = refl
set_behind (z ∷ xs) x y = ap (λ l. z ∷ l) (set_behind xs x y)

-- ---- the values of one class, where the list of all is changed

at_same : (ss : List (List Value)) (c : ℕ) (ys : List Value) → 0 < length (slice_index_or ss c []) → slice_index_or (slice_set ss c ys) c [] ≡ ys
at_same [] c ys some = absurd (omega arith)
at_same (xs ∷ ss) zero ys some = refl
at_same (xs ∷ ss) (suc c) ys some = at_same ss c ys some

at_other : (ss : List (List Value)) (c d : ℕ) (ys : List Value) → (c ≡ d → ⊥) → slice_index_or (slice_set ss c ys) d [] ≡ slice_index_or ss d []
at_other [] c d ys apart = refl
at_other (xs ∷ ss) zero zero ys apart = absurd (apart refl)
at_other (xs ∷ ss) zero (suc d) ys apart = refl
at_other (xs ∷ ss) (suc c) zero ys apart = refl
at_other (xs ∷ ss) (suc c) (suc d) ys apart = at_other ss c d ys (λ e. apart (ap suc e))

abbrev Kept : Option ℕ → ℕ → List Value → List Value → Type 0
Kept o c xs xs' = SameStatics o c xs xs'

-- ---- of a class

pub static_same : (o : Option ℕ) (c k : ℕ) (xs xs' : List Value) → k < length xs → Kept o c xs xs' → slice_get xs' k ≡ slice_get xs k
static_same None c k xs xs' lt h = ap (λ l. slice_get l k) h
static_same (Some n) c k xs xs' lt h = ap (λ l. slice_get l k) h.1 ∙ get_front xs k (null_or h.0 (probes c n)) lt

put_by : (o : Option ℕ) (c k : ℕ) (xs xs' : List Value) (x : Value) → k < length xs → Kept o c xs xs' → Kept o c (slice_set xs k x) (slice_set xs' k x)
put_by None c k xs xs' x lt h = ap (λ l. slice_set l k x) h
put_by (Some n) c k xs xs' x lt h = (h.0, ap (λ l. slice_set l k x) h.1 ∙ set_front xs k (null_or h.0 (probes c n)) x lt)

longer : (o : Option ℕ) (c : ℕ) (xs xs' : List Value) → Kept o c xs xs' → length xs ≤ length xs'
longer None c xs xs' h = let e = ap length h in omega arith
longer (Some n) c xs xs' h = let e = ap length h.1 in let m = length-append xs (null_or h.0 (probes c n) ∷ []) in omega arith

-- ---- of all classes

module _ (ss ss' : List (List Value)) (c : ℕ) (ys ys' : List Value) (d : ℕ) (o : Option ℕ) where
  pub by_class : 0 < length (slice_index_or ss c []) → 0 < length (slice_index_or ss' c [])
      → Kept o d (slice_index_or ss d []) (slice_index_or ss' d []) → (c ≡ d → Kept o d ys ys')
      → (b : Bool) → nat_eq c d ≡ b → Kept o d (slice_index_or (slice_set ss c ys) d []) (slice_index_or (slice_set ss' c ys') d [])
  by_class some some' h here true q =
      let same = eqb-true c d q in
      subst₂ (λ a b. Kept o d a b)
      (sym (at_same ss c ys some) ∙ ap (λ k. slice_index_or (slice_set ss c ys) k []) same)
      (sym (at_same ss' c ys' some') ∙ ap (λ k. slice_index_or (slice_set ss' c ys') k []) same)
      (here same)
  by_class some some' h here false q =
      let apart = eqb-false c d q in
      subst₂ (λ a b. Kept o d a b) (sym (at_other ss c d ys apart)) (sym (at_other ss' c d ys' apart)) h

count_by : (ss : List (List Value)) (c d k : ℕ) (x : Value) → 0 < length (slice_index_or ss c []) → (b : Bool) → nat_eq c d ≡ b
    → length (slice_index_or (slice_set ss c (slice_set (slice_index_or ss c []) k x)) d []) ≡ length (slice_index_or ss d [])
count_by ss c d k x some true q =
    let same = eqb-true c d q in
    ap (λ j. length (slice_index_or (slice_set ss c (slice_set (slice_index_or ss c []) k x)) j [])) (sym same)
    ∙ ap length (at_same ss c (slice_set (slice_index_or ss c []) k x) some)
    ∙ length-set (slice_index_or ss c []) k x ∙ ap (λ j. length (slice_index_or ss j [])) same
count_by ss c d k x some false q = ap length (at_other ss c d (slice_set (slice_index_or ss c []) k x) (eqb-false c d q))

module _ (p p' : Program) (sides : Entry → Side) where
  -- what an instruction of the original reads
  pub reads_same : (s s' : Shared) (at : FieldAt) → at.field < length (values_of s at.class) → SameShared p p' sides s s'
      → static_at s'.statics at ≡ static_at s.statics at
  reads_same s s' at lt h =
      static_same (extra_in (class_at p' at.class)) at.class at.field (values_of s at.class) (values_of s' at.class) lt (h.statics at.class)

  -- and writes
  pub puts_same : (s s' : Shared) (at : FieldAt) (x : Value) → at.field < length (values_of s at.class) → SameShared p p' sides s s'
      → SameShared p p' sides (record s { statics = with_static s.statics at x }) (record s' { statics = with_static s'.statics at x })
  puts_same s s' at x lt h =
      let c = at.class in let k = at.field in
      let xs = values_of s c in let xs' = values_of s' c in
      let o = extra_in (class_at p' c) in
      let long = longer o c xs xs' (h.statics c) in
      let some : 0 < length xs = omega arith in
      let some' : 0 < length xs' = omega arith in
      record {
        heap = h.heap;
        output = h.output;
        raised = h.raised;
        statics = λ d. by_class s.statics s'.statics c (slice_set xs k x) (slice_set xs' k x) d (extra_in (class_at p' d)) some some' (h.statics d)
            (λ same. subst (λ j. Kept (extra_in (class_at p' j)) j (slice_set xs k x) (slice_set xs' k x)) same (put_by o c k xs xs' x lt (h.statics c)))
            (nat_eq c d) refl;
        counts = λ d e there. count_by s.statics c d k x some (nat_eq c d) refl ∙ h.counts d e there;
      }

  -- ---- `$jacocoInit` reads and writes the added field

  pub reads_extra : (s s' : Shared) (c n : ℕ) → extra_in (class_at p' c) ≡ Some n → SameShared p p' sides s s'
      → (found : Bool) × (static_at s'.statics (record { class = c; field = length (values_of s c) }) ≡ Some (null_or found (probes c n)))
  reads_extra s s' c n e h =
      let xs = values_of s c in
      let k = subst (λ o. Kept o c xs (values_of s' c)) e (h.statics c) in
      (k.0, ap (λ l. slice_get l (length xs)) k.1 ∙ get_behind xs (null_or k.0 (probes c n)))

  pub puts_extra : (s s' : Shared) (c n : ℕ) (found : Bool) → extra_in (class_at p' c) ≡ Some n → SameShared p p' sides s s'
      → SameShared p p' sides s (record s' {
        statics = with_static s'.statics (record { class = c; field = length (values_of s c) })
            (null_or found (probes c n));
      })
  puts_extra s s' c n found e h =
      let xs = values_of s c in let xs' = values_of s' c in
      let k = subst (λ o. Kept o c xs xs') e (h.statics c) in
      let size = ap length k.1 in let more = length-append xs (null_or k.0 (probes c n) ∷ []) in
      let some' : 0 < length xs' = omega arith in
      let written : slice_set xs' (length xs) (null_or found (probes c n)) ≡ xs ++ (null_or found (probes c n) ∷ []) =
      ap (λ l. slice_set l (length xs) (null_or found (probes c n))) k.1 ∙ set_behind xs (null_or k.0 (probes c n)) (null_or found (probes c n)) in
      record {
        heap = h.heap;
        output = h.output;
        raised = h.raised;
        statics = λ d. by_right s.statics s'.statics c d (extra_in (class_at p' d)) (slice_set xs' (length xs) (null_or found (probes c n))) some' (h.statics d)
            (λ same. subst (λ j. Kept (extra_in (class_at p' j)) j (slice_index_or s.statics j [])
            (slice_set xs' (length xs) (null_or found (probes c n)))) same
            (subst (λ o. Kept o c xs (slice_set xs' (length xs) (null_or found (probes c n)))) (sym e) (found, written)))
            (nat_eq c d) refl;
        counts = h.counts;
      }
    where
      by_right : (ss ss' : List (List Value)) (c d : ℕ) (o : Option ℕ) (ys' : List Value) → 0 < length (slice_index_or ss' c [])
          → Kept o d (slice_index_or ss d []) (slice_index_or ss' d []) → (c ≡ d → Kept o d (slice_index_or ss d []) ys')
          → (b : Bool) → nat_eq c d ≡ b → Kept o d (slice_index_or ss d []) (slice_index_or (slice_set ss' c ys') d [])
      by_right ss ss' c d o ys' some' h here true q =
          let same = eqb-true c d q in
          subst (λ b. Kept o d (slice_index_or ss d []) b) (sym (at_same ss' c ys' some') ∙ ap (λ k. slice_index_or (slice_set ss' c ys') k []) same)
          (here same)
      by_right ss ss' c d o ys' some' h here false q =
          subst (λ b. Kept o d (slice_index_or ss d []) b) (sym (at_other ss' c d ys' (eqb-false c d q))) h
