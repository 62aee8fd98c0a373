-- The methods whose instrumented code is made have one Code attribute each.
use Rattle.std.proofs.Common.{◌≡◌, ℕ, suc, ◌<◌, List, [], ◌∷◌, Some, slice_get, refl, sym, ◌∙◌, subst, arith}
use Rattle.std.specs.List.{AllByRecursion}
use Rattle.jc_methods.specs.VerificationTypes.{Names}
use Rattle.jc_methods.specs.declared.body.Body.{Body}
use Rattle.jc_bytes.proofs.ListLaws.{all_at}
use Rattle.jc_pool.specs.Adding.{Extends}
use Rattle.jc_pool.specs.Pool.{PoolValue}
use Rattle.jc_pool.proofs.AddedLaws.{utf8_kept}
use Rattle.jc_class.specs.Writable.{IsClassFile}
use Rattle.jc_class.specs.declared.class_file.Attribute.{Attribute}
use Rattle.jc_class.specs.declared.class_file.ClassFile.{ClassFile}
use Rattle.jc_body.specs.BodyOf.{BodyOf}
use Rattle.jc_plan.specs.Probed.{first_id}
use Rattle.jc_instrument.specs.Bodies.{AreBodies}
use Rattle.jc_instrument.specs.Members.{AreCoded, AreNamedIn, IsCoded}
use Rattle.jc_instrument.specs.Ready.{ArePlanned, method_of}
use Rattle.jc_instrument.specs.declared.constants.ProbeConstants.{ProbeConstants}
use Rattle.jc_instrument.specs.declared.ready.PlannedBody.{PlannedBody}
use Rattle.jc_instrument.proofs.PlannedLaws.{planned_method}
use Rattle.jc_instrument.proofs.TwinMethodLaws.{IsOld, same_code}

module _ (names : Names) (constants : ProbeConstants) (c : ClassFile) (new : PoolValue) (extends : Extends c.pool new) (is : IsClassFile c) where
  -- what is named is named in the grown pool too
  all_named : (l : List Attribute) → AreNamedIn c.pool l → AreNamedIn new l
  all_named [] named = tt
  all_named (a ∷ l) named = (
    record { name = (named.0.name.0, utf8_kept c.pool new named.0.name.0 a.name extends named.0.name.1); size = named.0.size },
    all_named l named.1,
  )

  one_coded : (b : Body) → BodyOf names c b.method b → IsCoded new c.methods b.method
  one_coded b body =
      let old = all_at (IsOld c.pool new extends) c.methods b.method body.method is.methods.each body.at in
      record {
        method = body.method;
        at = body.at;
        one = record {
          bytes = body.is.is.items.bytes;
          single = same_code c.pool new extends body.method old.attributes.each ∙ body.is.is.items.code.single;
        };
        named = all_named body.method.attributes old.attributes.each;
      }

  all_later : (number : ℕ) (planned : List PlannedBody) → ((j : ℕ) (p : PlannedBody) → slice_get planned j ≡ Some p → number < method_of p)
      → AllByRecursion (λ q. number < method_of q) planned
  all_later number [] later = tt
  all_later number (p ∷ planned) later = (later 0 p refl, all_later number planned (λ j q at. later (suc j) q at))

  some_coded : (planned : List PlannedBody) → ((k : ℕ) (p : PlannedBody) → slice_get planned k ≡ Some p → IsCoded new c.methods (method_of p))
      → ((i j : ℕ) (p q : PlannedBody) → i < j → slice_get planned i ≡ Some p → slice_get planned j ≡ Some q → method_of p < method_of q)
      → AreCoded new c.methods planned
  some_coded [] each rising = tt
  some_coded (p ∷ planned) each rising = (
    each 0 p refl,
    all_later (method_of p) planned (λ j q at. rising 0 (suc j) p q (omega arith) refl at),
    some_coded planned (λ k q at. each (suc k) q at)
        (λ i j q r less x y. rising (suc i) (suc j) q r (let more : suc i < suc j = omega (arith, less) in more) x y),
  )

  module _ (bodies : List Body) (planned : List PlannedBody) (are : AreBodies names c bodies) (so : ArePlanned names constants bodies planned) where
    number_is : (i : ℕ) (p : PlannedBody) (at : slice_get planned i ≡ Some p) → method_of p ≡ (so.each i p at).body.method
    number_is i p at = let one = so.each i p at in planned_method names constants one.body (first_id bodies i) p one.is

    pub are_coded : AreCoded new c.methods planned
    are_coded =
        some_coded planned
        (λ i p at.
        let one = so.each i p at in
        subst (IsCoded new c.methods) (sym (number_is i p at)) (one_coded one.body (are.each i one.body one.stands)))
        (λ i j p q less at there.
        let one = so.each i p at in
        let two = so.each j q there in
        let rises = are.rising i j one.body two.body less one.stands two.stands in
        let a = number_is i p at in
        let b = number_is j q there in
        omega (arith, rises, a, b))
