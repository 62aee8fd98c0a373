-- Bodies of one class that stand in the order of their methods, in two lists.
use Rattle.std.proofs.Common.{◌≡◌, ℕ, zero, suc, ◌<◌, ◌≤◌, List, [], ◌∷◌, Some, slice_get, refl, sym, ap, subst, arith}
use Rattle.jc_bytes.proofs.OptionLaws.{none_some, some_is}
use Rattle.jc_methods.specs.VerificationTypes.{Names}
use Rattle.jc_methods.specs.declared.body.Body.{Body}
use Rattle.jc_emit.specs.TwinBodies.{IsSameBody, AreSameBodies}

-- the bodies stand in the order of their methods
abbrev pub AreRising : List Body → Type 0
AreRising xs = (i j : ℕ) (a b : Body) → i < j → slice_get xs i ≡ Some a → slice_get xs j ≡ Some b → a.method < b.method

-- the method of each body of the one list has a body in the other
pub record IsThere (ys : List Body) (number : ℕ) : Type 0 where
  pub index : ℕ
  pub body : Body
  pub stands : slice_get ys index ≡ Some body
  pub number_is : body.method ≡ number

abbrev pub AreThere : List Body → List Body → Type 0
AreThere xs ys = (i : ℕ) (x : Body) → slice_get xs i ≡ Some x → IsThere ys x.method

pub record ArePartners (xs ys : List Body) : Type 0 where
  pub rising : AreRising xs
  pub rising_too : AreRising ys
  pub there : AreThere xs ys
  pub back : AreThere ys xs

pub turned_partners : (xs ys : List Body) → ArePartners xs ys → ArePartners ys xs
turned_partners xs ys h = record { rising = h.rising_too; rising_too = h.rising; there = h.back; back = h.there }

rising_tail : (x : Body) (xs : List Body) → AreRising (x ∷ xs) → AreRising xs
rising_tail x xs rising = λ i j a b less at there. rising (suc i) (suc j) a b (omega (arith, less)) at there

-- the first body's method is that of none behind it
first_least : (x : Body) (xs : List Body) → AreRising (x ∷ xs) → (i : ℕ) (a : Body) → slice_get (x ∷ xs) i ≡ Some a → x.method ≤ a.method
first_least x xs rising zero a at = let e = ap (λ (b : Body). b.method) (some_is at) in omega (arith, e)
first_least x xs rising (suc i) a at = let less = rising 0 (suc i) x a (omega arith) refl at in omega (arith, less)

first_method : (x y : Body) (xs ys : List Body) → ArePartners (x ∷ xs) (y ∷ ys) → y.method ≤ x.method
first_method x y xs ys h =
    let t = h.there 0 x refl in
    let least = first_least y ys h.rising_too t.index t.body t.stands in
    let same = t.number_is in
    omega (arith, least, same)

first_same : (x y : Body) (xs ys : List Body) → ArePartners (x ∷ xs) (y ∷ ys) → x.method ≡ y.method
first_same x y xs ys h =
    let a = first_method x y xs ys h in
    let b = first_method y x ys xs (turned_partners (x ∷ xs) (y ∷ ys) h) in
    omega (arith, a, b)

-- a partner of a body behind the first one stands behind the first one
behind : (x y : Body) (xs ys : List Body) → AreRising (x ∷ xs) → x.method ≡ y.method → AreThere (x ∷ xs) (y ∷ ys) → AreThere xs ys
behind x y xs ys rising same there i a at = by (there (suc i) a at)
  where
    less : x.method < a.method
    less = rising 0 (suc i) x a (omega arith) refl at

    at_index : (n : ℕ) (b : Body) → slice_get (y ∷ ys) n ≡ Some b → b.method ≡ a.method → IsThere ys a.method
    at_index zero b stands number = let e = ap (λ (z : Body). z.method) (some_is stands) in let low = less in absurd (omega (arith, e, number, same, low))
    at_index (suc n) b stands number = record { index = n; body = b; stands = stands; number_is = number }

    by : IsThere (y ∷ ys) a.method → IsThere ys a.method
    by t = at_index t.index t.body t.stands t.number_is

tails : (x y : Body) (xs ys : List Body) → ArePartners (x ∷ xs) (y ∷ ys) → ArePartners xs ys
tails x y xs ys h =
    let same = first_same x y xs ys h in
    record {
      rising = rising_tail x xs h.rising;
      rising_too = rising_tail y ys h.rising_too;
      there = behind x y xs ys h.rising same h.there;
      back = behind y x ys xs h.rising_too (sym same) h.back;
    }

no_partner : (x : Body) (xs : List Body) → ArePartners (x ∷ xs) [] → ⊥
no_partner x xs h = let t = h.there 0 x refl in none_some t.stands

module _ (names others : Names) where
  -- partners are the same body
  abbrev pub AreSameWhere : List Body → List Body → Type 0
  AreSameWhere xs ys = (i j : ℕ) (x y : Body) → slice_get xs i ≡ Some x → slice_get ys j ≡ Some y → x.method ≡ y.method → IsSameBody names others x y

  pub paired : (xs ys : List Body) → ArePartners xs ys → AreSameWhere xs ys → AreSameBodies names others xs ys
  paired [] [] h same = tt
  paired [] (y ∷ ys) h same = absurd (no_partner y ys (turned_partners [] (y ∷ ys) h))
  paired (x ∷ xs) [] h same = absurd (no_partner x xs h)
  paired (x ∷ xs) (y ∷ ys) h same = (
    same 0 0 x y refl refl (first_same x y xs ys h),
    paired xs ys (tails x y xs ys h) (λ i j a b at there number. same (suc i) (suc j) a b at there number),
  )

  -- ---- the first body of which a test holds

  pub same_at : (xs ys : List Body) → AreSameBodies names others xs ys → (i : ℕ) (x : Body) → slice_get xs i ≡ Some x
      → (y : Body) × (slice_get ys i ≡ Some y) × IsSameBody names others x y
  same_at [] [] same i x at = absurd (none_some at)
  same_at [] (y ∷ ys) same i x at = absurd same
  same_at (x ∷ xs) [] same i z at = absurd same
  same_at (x ∷ xs) (y ∷ ys) same zero z at = (y, refl, subst (λ (b : Body). IsSameBody names others b y) (some_is at) same.0)
  same_at (x ∷ xs) (y ∷ ys) same (suc i) z at = same_at xs ys same.1 i z at
