-- A pool takes classes or is full at one of them, and in one way.
use Rattle.std.proofs.Common.{◌≡◌, ◌⊎◌, inl, inr, ℕ, List, [], ◌∷◌, length, slice_index, Some, refl, sym, ◌∙◌, ap, subst, arith}
use Rattle.std.proofs.lemmas.Bool.{cases_lt}
use Rattle.jc_bytes.proofs.LeastLaws.{least_one}
use Rattle.jc_methods.specs.VerificationTypes.{Names}
use Rattle.jc_pool.specs.Adding.{HasClass, IsFirst}
use Rattle.jc_pool.specs.Lookup.{class_name_of}
use Rattle.jc_pool.specs.Pool.{PoolValue}
use Rattle.jc_pool.proofs.AddedLaws.{one_naming, some_naming}
use Rattle.jc_pool.specs.declared.index.Naming.TheVariants as naming
use Rattle.jc_frames.specs.FullFrames.{Places}
use Rattle.jc_frames.specs.FullTable.{TakesClass, TakesClasses, IsFullAt, ArePlacesIn}

one_taken : (old new other : PoolValue) (name : List ℕ) → TakesClass old name new → TakesClass old name other → new ≡ other
one_taken old new other name t u = (one_naming naming.Class old new other name t.place u.place t.class u.class).pool

pub one_taking : (old new other : PoolValue) (names : Names) → TakesClasses old names new → TakesClasses old names other → new ≡ other
one_taking old new other [] p q = p ∙ sym q
one_taking old new other (name ∷ names) p q =
    one_taking p.0 new other names p.2 (subst (λ (l : PoolValue). TakesClasses l names other) (one_taken old q.0 p.0 name q.1 p.1) q.2)

pub apart : (old new other : PoolValue) (names : Names) (count : ℕ) → TakesClasses old names new → IsFullAt old names other count → ⊥
apart old new other [] count p q = q
apart old new other (name ∷ names) count p (inl q) =
    let t = p.1 in
    let full = q.1 in
    let e = ap (λ (l : PoolValue). length l) (one_naming naming.Class old p.0 full.0 name t.place full.1 t.class full.2).pool in
    let fits = t.fits in
    let long = full.3 in
    let above = full.4 in
    absurd (omega (arith, e, fits, long, above))
apart old new other (name ∷ names) count p (inr q) =
    apart p.0 new other names count p.2 (subst (λ (l : PoolValue). IsFullAt l names other count) (one_taken old q.0 p.0 name q.1 p.1) q.2)

pub each_taking : (old : PoolValue) (names : Names) → ((new : PoolValue) × TakesClasses old names new) ⊎ ((new : PoolValue) × (count : ℕ) × IsFullAt old names new count)
each_taking old [] = inl (old, refl)
each_taking old (name ∷ names) = let some = some_naming naming.Class old name in elim (cases_lt 65535 (length some.0)) [
  | inl above ↦ inr (old, length some.0, inl (refl, (some.0, some.1, some.2, refl, above)))
  | inr fits ↦ let t : TakesClass old name some.0 = record { place = some.1; class = some.2; fits = fits } in elim (each_taking some.0 names) [
    | inl more ↦ inl (more.0, (some.0, t, more.1))
    | inr full ↦ inr (full.0, full.1, inr (some.0, t, full.2))
  ]
]

-- ---- first places

found_place : (pool : PoolValue) (name : List ℕ) (place : ℕ) → IsFirst (class_name_of pool) name place → (some_naming naming.Class pool name).1 ≡ place
found_place pool name place first = by (some_naming naming.Class pool name)
  where
    by : (some : (new : PoolValue) × (at : ℕ) × HasClass pool name new at) → some.1 ≡ place
    by some = elim some.2 [
      | inl has ↦ least_one (λ at. class_name_of pool at ≡ Some name) some.1 place has.0 first
      | inr put ↦ absurd (put.0 place first.there)
    ]

pub some_places : (pool : PoolValue) (starts : List ℕ) → (p : Places) × ArePlacesIn pool starts p
some_places pool starts = (
  record { class = λ name. (some_naming naming.Class pool name).1; start = λ at. slice_index starts at },
  record { class = λ name place first. found_place pool name place first; start = λ at. refl },
)
