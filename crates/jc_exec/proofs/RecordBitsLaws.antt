-- The bits of two records of one id.
use Rattle.std.proofs.Common.{◌≡◌, Bool, true, false, ◌||◌, List, [], ◌∷◌, length, refl, sym, ◌∙◌, arith}
use Rattle.std.proofs.lemmas.Bool.{false≢true}
use Rattle.jc_exec.specs.declared.hits.ClassHits.{ClassHits}
use Rattle.jc_exec.specs.Store.{IsSmall}
use Rattle.jc_exec.specs.Union.{Agrees, agree, either_bits, either_hits}
use Rattle.jc_exec.proofs.MergingLaws.{length_either, agree_agrees, agrees_agree}

or_swap : (a b : Bool) → (a || b) ≡ (b || a)
or_swap true true = refl
or_swap true false = refl
or_swap false true = refl
or_swap false false = refl

either_swap : (xs ys : List Bool) → length xs ≡ length ys → either_bits xs ys ≡ either_bits ys xs
either_swap [] [] long = refl
either_swap [] (y ∷ ys) long = absurd (omega (arith, long))
either_swap (x ∷ xs) [] long = absurd (omega (arith, long))
either_swap (x ∷ xs) (y ∷ ys) long = λ i. or_swap x y i ∷ either_swap xs ys (omega (arith, long)) i

-- it doesn't matter which of the two takes the bits of the other
pub hits_swap : (c r : ClassHits) → agree c r ≡ true → c.id ≡ r.id → either_hits r c ≡ either_hits c r
hits_swap c r agrees id =
    let a = agree_agrees c r agrees in
    let bits = either_swap r.bits c.bits a.count in
    λ i. record { id = sym id i; name = a.name i; bits = bits i }

pub small_either : (c r : ClassHits) → IsSmall c → agree c r ≡ true → IsSmall (either_hits c r)
small_either c r small agrees =
    let a = agree_agrees c r agrees in
    let long = length_either c.bits r.bits (sym a.count) in
    record { id = small.id; name = small.name; bits = omega (arith, small.bits, long) }

pub agree_apart : (c r : ClassHits) → agree c r ≡ false → Agrees c r → ⊥
agree_apart c r apart a = false≢true (sym apart ∙ agrees_agree c r (record { name = sym a.name; count = sym a.count }))

pub apart_agree : (c r : ClassHits) → (Agrees c r → ⊥) → agree c r ≡ false
apart_agree c r differ = by (agree c r) refl
  where
    by : (b : Bool) → agree c r ≡ b → b ≡ false
    by true is = absurd (let a = agree_agrees c r is in differ (record { name = sym a.name; count = sym a.count }))
    by false is = refl
