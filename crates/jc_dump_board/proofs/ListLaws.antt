-- The elements of a list that have a property, and the probes of a word whose bits are set.
use Rattle.std.proofs.Common.{◌≡◌, ℕ, zero, suc, ◌%◌, ◌^◌, ◌<◌, List, [], ◌∷◌, ◌++◌, length, sym, refl, ⊎_elim, subst, arith}
use Rattle.std.specs.Prelude.{Contains, slice_index}
use Rattle.std.specs.Int.{bit_at}
use Rattle.std.proofs.lemmas.List.Elements.{Contains-append_left, Contains-append_right, Contains-append_cases}
use native.Mathlib.Decide.{dec_lt, ℕ_discrete}
use Rattle.jc_board.specs.Places.{word_at}
use Rattle.jc_board.proofs.ViewLaws.{nothing}
use Rattle.jc_dump_board.specs.Taking.{IsIn, Stands}

pub only : {A : Type 0} (x y : A) → Contains (x ∷ []) y → y ≡ x
only x y (zero, lt, e) = sym e
only x y (suc k, lt, e) = absurd (omega (arith, lt))

pub itself : {A : Type 0} (x : A) → Contains (x ∷ []) x
itself x = (0, omega arith, refl)

-- a list in which nothing stands
pub no_element : {A : Type 0} (l : List A) → ((x : A) → Contains l x → ⊥) → l ≡ []
no_element [] none = refl
no_element (x ∷ xs) none = absurd (none x (0, omega arith, refl))

-- ---- those with a property

abbrev if_so : {A : Type 0} {P : Type 0} → Dec P → A → List A
if_so (yes p) x = x ∷ []
if_so (no n) x = []

if_so_is : {A : Type 0} {P : Type 0} (d : Dec P) (x y : A) → Contains (if_so d x) y → P × (y ≡ x)
if_so_is (yes p) x y h = (p, only x y h)
if_so_is (no n) x y h = absurd (nothing y h)

is_if_so : {A : Type 0} {P : Type 0} (d : Dec P) (x : A) → P → Contains (if_so d x) x
is_if_so (yes p) x q = itself x
is_if_so (no n) x q = absurd (n q)

abbrev pub keep : {A : Type 0} (P : A → Type 0) → ((x : A) → Dec (P x)) → List A → List A
keep P dec [] = []
keep P dec (x ∷ xs) = if_so (dec x) x ++ keep P dec xs

pub kept_is : {A : Type 0} (P : A → Type 0) (dec : (x : A) → Dec (P x)) (l : List A) (y : A) → Contains (keep P dec l) y → P y × Contains l y
kept_is P dec [] y h = absurd (nothing y h)
kept_is P dec (x ∷ xs) y h = ⊎_elim
    (λ new. let t = if_so_is (dec x) x y new in (subst P (sym t.1) t.0, (0, omega arith, sym t.1)))
    (λ old. let t = kept_is P dec xs y old in (t.0, (suc t.1.0, omega (arith, t.1.1), t.1.2)))
    (Contains-append_cases (if_so (dec x) x) (keep P dec xs) y h)

pub is_kept : {A : Type 0} (P : A → Type 0) (dec : (x : A) → Dec (P x)) (l : List A) (y : A) → P y → Contains l y → Contains (keep P dec l) y
is_kept P dec [] y p h = absurd (nothing y h)
is_kept P dec (x ∷ xs) y p (zero, lt, e) =
    let is : x ≡ y = e in
    Contains-append_left (if_so (dec x) x) (keep P dec xs) y (subst (λ z. Contains (if_so (dec x) x) z) is (is_if_so (dec x) x (subst P (sym is) p)))
is_kept P dec (x ∷ xs) y p (suc k, lt, e) = Contains-append_right (if_so (dec x) x) (keep P dec xs) y (is_kept P dec xs y p (k, omega (arith, lt), e))

-- ---- the probes of a word

abbrev ids : (class below : ℕ) → List (ℕ × ℕ)
ids class zero = []
ids class (suc n) = ids class n ++ (class, n) ∷ []

id_there : (class below id : ℕ) → id < below → Contains {X = ℕ × ℕ} (ids class below) (class, id)
id_there class zero id lt = absurd (omega (arith, lt))
id_there class (suc n) id lt = elim (ℕ_discrete id n) as (λ _. Contains {X = ℕ × ℕ} (ids class (suc n)) (class, id)) [
  | yes e ↦ Contains-append_right (ids class n) ((class, n) ∷ []) (class, id) (subst (λ m. Contains {X = ℕ × ℕ} ((class, n) ∷ []) (class, m)) (sym e) (itself {A = ℕ × ℕ} (class, n)))
  | no ne ↦ Contains-append_left (ids class n) ((class, n) ∷ []) (class, id) (id_there class n id (omega (arith, lt, ne)))
]

-- the probes of the classes below one
abbrev probes : (counts : List ℕ) (below : ℕ) → List (ℕ × ℕ)
probes counts zero = []
probes counts (suc c) = probes counts c ++ ids c (slice_index counts c)

probe_there : (counts : List ℕ) (below class id : ℕ) → class < below → id < slice_index counts class → Contains {X = ℕ × ℕ} (probes counts below) (class, id)
probe_there counts zero class id lt row = absurd (omega (arith, lt))
probe_there counts (suc c) class id lt row = elim (ℕ_discrete class c) as (λ _. Contains {X = ℕ × ℕ} (probes counts (suc c)) (class, id)) [
  | yes e ↦ Contains-append_right (probes counts c) (ids c (slice_index counts c)) (class, id)
      (subst (λ m. Contains {X = ℕ × ℕ} (ids m (slice_index counts m)) (class, id)) e (id_there class (slice_index counts class) id row))
  | no ne ↦ Contains-append_left (probes counts c) (ids c (slice_index counts c)) (class, id) (probe_there counts c class id (omega (arith, lt, ne)) row)
]

both : {A B : Type 0} → Dec A → Dec B → Dec (A × B)
both (yes a) (yes b) = yes (a, b)
both (yes a) (no n) = no (λ t. n t.1)
both (no n) b = no (λ t. n t.0)

pub is_in : (counts : List ℕ) (word : ℕ) (x : ℕ × ℕ) → Dec (IsIn counts word x.0 x.1)
is_in counts word x = both (both (both (dec_lt x.0 (length counts)) (dec_lt x.1 (slice_index counts x.0))) (dec_lt x.0 (2 ^ 32))) (ℕ_discrete (word_at counts x.0 x.1) word)

pub is_out : (counts : List ℕ) (word : ℕ) (x : ℕ × ℕ) → Dec (IsIn counts word x.0 x.1 → ⊥)
is_out counts word x = elim (is_in counts word x) as (λ _. Dec (IsIn counts word x.0 x.1 → ⊥)) [ yes p ↦ no (λ f. f p) | no n ↦ yes n ]

pub stands : (counts : List ℕ) (word n : ℕ) (x : ℕ × ℕ) → Dec (Stands counts word n x.0 x.1)
stands counts word n x = both (is_in counts word x) (ℕ_discrete (bit_at n (x.1 % 64)) 1)

-- the hits that stand in a word
abbrev pub found : (counts : List ℕ) (word n : ℕ) → List (ℕ × ℕ)
found counts word n = keep (λ (x : ℕ × ℕ). Stands counts word n x.0 x.1) (stands counts word n) (probes counts (length counts))

pub found_is : (counts : List ℕ) (word n class id : ℕ) → Contains (found counts word n) (class, id) → Stands counts word n class id
found_is counts word n class id h = (kept_is (λ (x : ℕ × ℕ). Stands counts word n x.0 x.1) (stands counts word n) (probes counts (length counts)) (class, id) h).0

pub is_found : (counts : List ℕ) (word n class id : ℕ) → Stands counts word n class id → Contains (found counts word n) (class, id)
is_found counts word n class id h = is_kept (λ (x : ℕ × ℕ). Stands counts word n x.0 x.1) (stands counts word n) (probes counts (length counts)) (class, id) h
    (probe_there counts (length counts) class id h.0.0.0.0 h.0.0.0.1)
