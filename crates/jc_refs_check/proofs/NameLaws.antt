-- Names of classes by their numbers, and what is known of each.
use Rattle.std.proofs.Common.{◌≡◌, ℕ, zero, suc, ◌+◌, ◌<◌, ◌≤◌, Bool, true, false, ◌||◌, List, [], ◌∷◌, ◌++◌, length, map, take, get_or, Some, None, refl, sym, ◌∙◌, ap, ap₂, arith, if◌then◌else◌}
use Rattle.std.specs.List.{list_any, slice_get}
use Rattle.std.specs.Str.{bytes_eq}
use Rattle.std.proofs.lemmas.List.{take_more, map-append, length-map}
use Rattle.std.proofs.lemmas.Option.{slice_get-get_or}
use Rattle.jc_bytes.specs.Names.{with_name, AreNames}
use Rattle.jc_methods.specs.VerificationTypes.{Names}
use Rattle.jc_methods.proofs.MetNamesLaws.{one_number}
use Rattle.jc_refs_check.specs.declared.known.Known.{Known}
use Rattle.jc_refs_check.specs.declared.known.Known.TheVariants as known
use Rattle.jc_refs_check.specs.Suits.{object_class, is_throwable_below, class_suits}
use Rattle.jc_refs_check.specs.Known.{known_by}
use Rattle.jc_refs_check.specs.Classes.{name_at}
use Rattle.jc_refs_check.proofs.ThrownLaws.{bytes_are}

-- ---- names that are copied

any_at : (p : List ℕ → Bool) (xs : Names) → list_any p xs ≡ true → (i : ℕ) × (x : List ℕ) × (slice_get xs i ≡ Some x) × (p x ≡ true)
any_at p [] e = absurd cc
any_at p (x ∷ xs) e = by (p x) refl e (any_at p xs)
  where
    by : (b : Bool) → p x ≡ b → (b || list_any p xs) ≡ true → (list_any p xs ≡ true → (i : ℕ) × (y : List ℕ) × (slice_get xs i ≡ Some y) × (p y ≡ true))
        → (i : ℕ) × (y : List ℕ) × (slice_get (x ∷ xs) i ≡ Some y) × (p y ≡ true)
    by true q g more = (0, x, refl, q)
    by false q g more = let m = more g in (suc m.0, m.1, m.2, m.3)

taken_at : (n : ℕ) (xs : Names) (i : ℕ) (x : List ℕ) → slice_get (take n xs) i ≡ Some x → (i < n) × (slice_get xs i ≡ Some x)
taken_at zero xs i x e = absurd cc
taken_at (suc n) [] i x e = absurd cc
taken_at (suc n) (y ∷ xs) zero x e = (omega arith, e)
taken_at (suc n) (y ∷ xs) (suc i) x e = let r = taken_at n xs i x e in (let l = r.0 in omega (arith, l), r.1)

new_name : (names : Names) (n : ℕ) (text : List ℕ) → AreNames names → slice_get names n ≡ Some text → list_any (bytes_eq text) (take n names) ≡ false
new_name names n text are there = by (list_any (bytes_eq text) (take n names)) refl
  where
    by : (b : Bool) → list_any (bytes_eq text) (take n names) ≡ b → b ≡ false
    by false q = refl
    by true q =
        let m = any_at (bytes_eq text) (take n names) q in
        let t = taken_at n names m.0 m.1 m.2 in
        let low = t.0 in
        let same : m.0 ≡ n = one_number names text m.0 n are (t.1 ∙ ap Some (sym (bytes_are text m.1 m.3))) there in
        absurd (omega (arith, low, same))

-- the next name goes last
pub name_copied : (names : Names) (n : ℕ) (text : List ℕ) → AreNames names → slice_get names n ≡ Some text → with_name (take n names) text ≡ take n names ++ text ∷ []
name_copied names n text are there = ap (λ (b : Bool). if b then take n names else take n names ++ text ∷ []) (new_name names n text are there)

-- ---- what is known

nothing_known : known_by [] ≡ known.Other
unfolding known_by
nothing_known = refl

pub known_read : (names : Names) (n : ℕ) (k : Known) → slice_get (map known_by names) n ≡ Some k → k ≡ known_by (name_at names n)
known_read [] n k e = absurd cc
known_read (x ∷ names) zero k e = cc
known_read (x ∷ names) (suc n) k e = known_read names n k e

pub known_past : (names : Names) (n : ℕ) → slice_get (map known_by names) n ≡ None → known.Other ≡ known_by (name_at names n)
known_past [] n e = sym nothing_known
known_past (x ∷ names) zero e = absurd cc
known_past (x ∷ names) (suc n) e = known_past names n e

-- ---- names with different numbers

pub other_names : (names : Names) (n m : ℕ) → AreNames names → n < length names → m < length names → (n ≡ m → ⊥) → bytes_eq (name_at names n) (name_at names m) ≡ false
other_names names n m are low high apart = by (bytes_eq (name_at names n) (name_at names m)) refl
  where
    by : (b : Bool) → bytes_eq (name_at names n) (name_at names m) ≡ b → b ≡ false
    by false q = refl
    by true q = absurd (apart (one_number names (name_at names m) n m are
        (slice_get-get_or names n [] low ∙ ap Some (bytes_are (name_at names n) (name_at names m) q)) (slice_get-get_or names m [] high)))

-- classes with different numbers suit by what is known of them
pub suits_apart : (name other : List ℕ) (r : Bool) → bytes_eq name other ≡ false → r ≡ (bytes_eq other object_class || is_throwable_below name other) → r ≡ class_suits name other
unfolding class_suits
suits_apart name other r apart is = is ∙ ap (λ (b : Bool). b || (bytes_eq other object_class || is_throwable_below name other)) (sym apart)

-- ---- one name more

taken_more : (xs : Names) (k : ℕ) (x : List ℕ) → slice_get xs k ≡ Some x → take (k + 1) xs ≡ take k xs ++ x ∷ []
taken_more xs k x e = take_more xs k x (within xs k e) ∙ ap (λ (y : List ℕ). take k xs ++ y ∷ []) (read xs k e)
  where
    within : (xs : Names) (k : ℕ) → slice_get xs k ≡ Some x → k < length xs
    within [] k e = absurd cc
    within (y ∷ xs) zero e = omega arith
    within (y ∷ xs) (suc k) e = let r = within xs k e in omega (arith, r)

    read : (xs : Names) (k : ℕ) → slice_get xs k ≡ Some x → get_or xs k x ≡ x
    read [] k e = refl
    read (y ∷ xs) zero e = cc
    read (y ∷ xs) (suc k) e = read xs k e

pub copied_on : (names : Names) (n : ℕ) (copy new : Names) (text : List ℕ) → AreNames names → copy ≡ take n names → slice_get names n ≡ Some text
    → new ≡ with_name copy text → new ≡ take (n + 1) names
copied_on names n copy new text are so_far there is =
    is ∙ ap (λ (l : Names). with_name l text) so_far ∙ name_copied names n text are there ∙ sym (taken_more names n text there)

-- what one name more tells
pub known_on : (names : Names) (n : ℕ) (items new : List Known) (k : Known) (text : List ℕ) → slice_get names n ≡ Some text → items ≡ map known_by (take n names)
    → k ≡ known_by text → new ≡ items ++ k ∷ [] → new ≡ map known_by (take (n + 1) names)
known_on names n items new k text there so_far tells is =
    is ∙ ap₂ (λ (l : List Known) (j : Known). l ++ j ∷ []) so_far tells
    ∙ sym (map-append known_by (take n names) (text ∷ [])) ∙ ap (map known_by) (sym (taken_more names n text there))

pub known_beyond : (names : Names) (items read : List Known) (n : ℕ) → items ≡ map known_by names → read ≡ items → length read ≤ n → known.Other ≡ known_by (name_at names n)
known_beyond names items read n tells is past = out names n (let long = length-map names known_by in let same = ap length (is ∙ tells) in omega (arith, long, same, past))
  where
    out : (names : Names) (n : ℕ) → length names ≤ n → known.Other ≡ known_by (name_at names n)
    out [] n le = sym nothing_known
    out (x ∷ names) zero le = absurd (omega (arith, le))
    out (x ∷ names) (suc n) le = out names n (omega (arith, le))
