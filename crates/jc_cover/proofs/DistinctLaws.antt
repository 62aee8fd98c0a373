-- How many different lines there are, and how many of them are covered.
use Rattle.std.proofs.Common.{◌≡◌, ⊎_elim, ℕ, ◌+◌, Bool, true, false, cond, ◌&&◌, ◌||◌, nat_eq, List, [], ◌∷◌, map, length, filter, refl, sym, ap, ap₂, ◌∙◌, subst, arith}
use Rattle.std.specs.Prelude.{Contains}
use Rattle.std.specs.List.{count_by, list_any}
use Rattle.std.specs.Cmp.{nat_eq_equiv}
use Rattle.std.proofs.lemmas.Bool.{eqb-true, eq-eqb, false_from_ne_true}
use Rattle.std.proofs.lemmas.Map.Views.{Contains-from_any}
use Rattle.jc_bytes.specs.FirstSeen.{first_seen, IsDistinct}
use Rattle.jc_bytes.proofs.FirstSeenLaws.{any_first_seen, first_seen_all, first_seen_distinct, first_seen_listed}
use Rattle.jc_bytes.proofs.BooleanLaws.{none_in, which_in, first_in, later_in}
use Rattle.jc_plan.specs.Entries.{one_if}
use Rattle.jc_plan.proofs.CountLaws.{count_cons}
use Rattle.jc_cover.specs.Counters.{Lined, is_covered_line, line_count}
use Rattle.jc_cover.specs.Lines.{numbers, covered_numbers}
use Rattle.jc_cover.proofs.TotalLaws.{count_whole}

-- ---- members of a list of distinct numbers

same_counts : {X : Type 0} (p q : X → Bool) (xs : List X) → ((x : X) → p x ≡ q x) → count_by p xs ≡ count_by q xs
same_counts p q [] e = refl
same_counts p q (x ∷ xs) e = omega (arith, count_cons p x xs, count_cons q x xs, ap one_if (e x), same_counts p q xs e)

no_member : (xs : List ℕ) → count_by (λ (x : ℕ). false) xs ≡ 0
no_member [] = refl
no_member (x ∷ xs) = let e : one_if false ≡ 0 = refl in omega (arith, count_cons (λ (y : ℕ). false) x xs, no_member xs, e)

absent : (xs : List ℕ) (e : ℕ) → ((y : ℕ) → Contains xs y → e ≡ y → ⊥) → count_by (λ x. nat_eq x e) xs ≡ 0
absent [] e none = refl
absent (x ∷ xs) e none =
    let f : nat_eq x e ≡ false = false_from_ne_true (nat_eq x e) (λ t. none x (first_in x xs) (sym (eqb-true x e t))) in
    omega (arith, count_cons (λ y. nat_eq y e) x xs, ap one_if f, absent xs e (λ y c. none y (later_in x xs y c)))

-- it stands there once
once : (xs : List ℕ) (e : ℕ) → IsDistinct xs → Contains xs e → count_by (λ x. nat_eq x e) xs ≡ 1
once [] e d c = absurd (none_in e c)
once (x ∷ xs) e d c =
    ⊎_elim
    (λ same.
    let t : nat_eq x e ≡ true = eq-eqb x e same in
    omega (arith, count_cons (λ y. nat_eq y e) x xs, ap one_if t, absent xs e (λ y m f. d.0 y m (same ∙ f))))
    (λ later.
    let f : nat_eq x e ≡ false = false_from_ne_true (nat_eq x e) (λ t. d.0 e later (eqb-true x e t)) in
    omega (arith, count_cons (λ y. nat_eq y e) x xs, ap one_if f, once xs e d.1 later))
    (which_in x xs e c)

-- tests that no item passes both
apart : {X : Type 0} (p q : X → Bool) (xs : List X) → ((x : X) → p x ≡ true → q x ≡ true → ⊥) → count_by (λ x. p x || q x) xs ≡ count_by p xs + count_by q xs
apart p q [] never = refl
apart p q (x ∷ xs) never = omega (arith, count_cons (λ y. p y || q y) x xs, count_cons p x xs, count_cons q x xs, by (p x) (q x) (never x), apart p q xs never)
  where
    by : (s t : Bool) → (s ≡ true → t ≡ true → ⊥) → one_if (s || t) ≡ one_if s + one_if t
    by true true none = absurd (none refl refl)
    by true false none = refl
    by false true none = refl
    by false false none = refl

members : (ds es : List ℕ) → IsDistinct ds → IsDistinct es → ((e : ℕ) → Contains es e → Contains ds e) → count_by (λ d. list_any (nat_eq d) es) ds ≡ length es
members ds [] dd de within = no_member ds
members ds (e ∷ es) dd de within =
    let two = apart (λ d. nat_eq d e) (λ d. list_any (nat_eq d) es) ds (λ d s t. de.0 d (Contains-from_any eqb-true d es t) (sym (eqb-true d e s))) in
    omega (arith, two, once ds e dd (within e (first_in e es)), members ds es dd de.1 (λ f c. within f (later_in e es f c)))

-- ---- lines

covered_told : (insns : List Lined) (n : ℕ) → is_covered_line insns n ≡ list_any (nat_eq n) (covered_numbers insns)
covered_told [] n = refl
covered_told (l ∷ insns) n = by l.covered (covered_told insns n)
  where
    by : (t : Bool) → is_covered_line insns n ≡ list_any (nat_eq n) (covered_numbers insns)
        → ((nat_eq l.number n && t) || is_covered_line insns n) ≡ list_any (nat_eq n)
        (map (λ (k : Lined). k.number) (cond t (l ∷ filter (λ (k : Lined). k.covered) insns) (filter (λ (k : Lined). k.covered) insns)))
    by true h = ap₂ (λ (s t : Bool). s || t) (and_true (nat_eq l.number n) ∙ nat_eq_equiv.symm l.number n) h
      where
        and_true : (s : Bool) → (s && true) ≡ s
        and_true true = refl
        and_true false = refl
    by false h = ap (λ (s : Bool). s || is_covered_line insns n) (and_false (nat_eq l.number n)) ∙ h
      where
        and_false : (s : Bool) → (s && false) ≡ false
        and_false true = refl
        and_false false = refl

covered_listed : (insns : List Lined) (n : ℕ) → Contains (covered_numbers insns) n → Contains (numbers insns) n
covered_listed [] n c = c
covered_listed (l ∷ insns) n c = by (covered_listed insns n) l.covered c
  where
    by : (Contains (covered_numbers insns) n → Contains (numbers insns) n) → (t : Bool)
        → Contains (map (λ (k : Lined). k.number) (cond t (l ∷ filter (λ (k : Lined). k.covered) insns) (filter (λ (k : Lined). k.covered) insns))) n
        → Contains (numbers (l ∷ insns)) n
    by again true d =
        ⊎_elim
        (λ same. subst (λ k. Contains (k ∷ numbers insns) n) (sym same) (first_in n (numbers insns)))
        (λ later. later_in l.number (numbers insns) n (again later))
        (which_in l.number (covered_numbers insns) n d)
    by again false d = later_in l.number (numbers insns) n (again d)

pub covered_lines : (insns : List Lined) → count_by (is_covered_line insns) (first_seen (numbers insns)) ≡ length (first_seen (covered_numbers insns))
covered_lines insns =
    same_counts (is_covered_line insns) (λ d. list_any (nat_eq d) (first_seen (covered_numbers insns))) (first_seen (numbers insns))
    (λ d. covered_told insns d ∙ sym (any_first_seen (covered_numbers insns) d))
    ∙ members (first_seen (numbers insns)) (first_seen (covered_numbers insns)) (first_seen_distinct (numbers insns)) (first_seen_distinct (covered_numbers insns))
    (λ e c. first_seen_all (numbers insns) e (covered_listed insns e (first_seen_listed (covered_numbers insns) e c)))

pub all_lines : (insns : List Lined) → (line_count insns).missed + length (first_seen (covered_numbers insns)) ≡ length (first_seen (numbers insns))
all_lines insns = ap (λ n. (line_count insns).missed + n) (sym (covered_lines insns)) ∙ count_whole (is_covered_line insns) (first_seen (numbers insns))
