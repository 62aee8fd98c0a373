-- A class file whose methods have no fault has bodies, under one list of names.
use Rattle.std.proofs.Common.{◌≡◌, ◌⊎◌, inl, inr, ℕ, zero, suc, ◌+◌, ◌≤◌, List, [], ◌∷◌, ◌++◌, length, take, get_or, Some, slice_get, refl, ◌∙◌, ap, subst, arith}
use Rattle.std.specs.Prelude.{All}
use Rattle.std.specs.List.{sum_by}
use Rattle.std.proofs.lemmas.List.{take_more}
use Rattle.std.proofs.lemmas.List.Sums.{sum_by-cons, sum_by-append, sum_by-take-le}
use Rattle.std.proofs.lemmas.Option.{slice_get_within, slice_get-get_or, get_or_from_slice_get}
use Rattle.jc_methods.specs.VerificationTypes.{Names}
use Rattle.jc_bytes.specs.Reader.{most_read}
use Rattle.jc_methods.specs.WellMade.{IsWellMade, insns_and_arms}
use Rattle.jc_methods.specs.declared.body.Body.{Body}
use Rattle.jc_bytes.specs.declared.refusal.Refusal.{Refusal}
use Rattle.jc_bytes.specs.declared.refusal.RefusalKind.TheVariants as kinds
use Rattle.jc_class.specs.Writable.{IsClassFile}
use Rattle.jc_class.specs.declared.class_file.ClassFile.{ClassFile}
use Rattle.jc_class.specs.declared.class_file.Member.{Member}
use Rattle.jc_body.specs.BodyOf.{BodyOf, Bodiless, FaultOf}
use Rattle.jc_body.proofs.EachMethodLaws.{Answer, each_answer}
use Rattle.jc_kinds.specs.Checked.{Checked, FirstMissing, FirstClash}
use Rattle.jc_kinds.proofs.CheckLaws.{each_verdict}
use Rattle.jc_plan.specs.Analysed.{all_insns_and_arms}
use Rattle.jc_instrument.specs.Bodies.{AreBodiesBelow, AreBodies}
use Rattle.jc_instrument.specs.Causes.{NoCause, of_method}
use Rattle.jc_instrument.specs.Reasons.{IsFaulty, OfBody, code_causes}
use Rattle.jc_instrument.proofs.BodySizesLaws.{insns_few, is_well_made}
use Rattle.jc_instrument.proofs.CausesDecidedLaws.{subroutine_at, bad_code_at, faulty_below, missing_at, missing_below, clash_at, clash_below, some_code}
use Rattle.jc_instrument.proofs.DecidedLaws.{nowhere}
use Rattle.jc_instrument.proofs.ListedLaws.{no_bodies, without_body, with_body, grown_bodies}
use Rattle.jc_instrument.proofs.PoolTextLaws.{IsReadPool}
use Rattle.jc_instrument.proofs.ReadingLaws.{fault_cases}
use Rattle.jc_instrument.proofs.RenumberedLaws.{raised_frames, renumbered}
use Rattle.jc_instrument.proofs.TextSizesLaws.{item_size, method_size}

-- one item more
sum_more : {X : Type 0} (f : X → ℕ) (xs : List X) (i : ℕ) (x : X) → slice_get xs i ≡ Some x
    → sum_by f (take (i + 1) xs) ≡ sum_by f (take i xs) + f x
sum_more f xs i x at =
    let more = ap (sum_by f) (take_more xs i x (slice_get_within xs i x at)) ∙ sum_by-append f (take i xs) (get_or xs i x ∷ []) in
    let one = sum_by-cons f (get_or xs i x) [] in
    let is = ap f (get_or_from_slice_get xs i x x at) in
    omega (arith, more, one, is)

-- the bodies of the methods whose numbers are below n; together they have no more instructions and arms than the
-- attributes of these methods have bytes
record SomeBodies (c : ClassFile) (n : ℕ) : Type 0 where
  names : Names
  bodies : List Body
  are : AreBodiesBelow names c n bodies
  small : all_insns_and_arms bodies ≤ sum_by method_size (take n c.methods)

-- the bodies of all methods, which are well made and pass the kind check
pub record AllBodies (c : ClassFile) : Type 0 where
  pub names : Names
  pub bodies : List Body
  pub are : AreBodies names c bodies
  pub small : all_insns_and_arms bodies ≤ sum_by method_size c.methods
  pub well_made : All IsWellMade bodies
  pub checked : All (Checked names) bodies

module _ (c : ClassFile) (is : IsClassFile c) (read : IsReadPool c.pool) (most : sum_by method_size c.methods ≤ most_read)
    (none : NoCause (code_causes c)) where
  no_fault : (number : ℕ) (r : Refusal) → FaultOf c number r → ⊥
  no_fault number r f = by (fault_cases c number r f)
    where
      by : ((r ≡ of_method kinds.Subroutine number r.place) × IsFaulty c kinds.Subroutine number r.place)
          ⊎ ((r ≡ of_method kinds.BadCode number r.place) × IsFaulty c kinds.BadCode number r.place) → ⊥
      by (inl here) = nowhere kinds.Subroutine (IsFaulty c kinds.Subroutine) (length c.methods) (subroutine_at c is)
          (faulty_below c is kinds.Subroutine) none.0 number r.place here.1
      by (inr here) = nowhere kinds.BadCode (IsFaulty c kinds.BadCode) (length c.methods) (bad_code_at c is)
          (faulty_below c is kinds.BadCode) none.1.0 number r.place here.1

  few_bytes : (number : ℕ) (method : Member) → slice_get c.methods number ≡ Some method → method_size method ≤ most_read
  few_bytes number method at = let one = item_size method_size c.methods number method at in omega (arith, one, most)

  body_few : (names : Names) (number : ℕ) (b : Body) (body : BodyOf names c number b) → insns_and_arms b.code ≤ method_size body.method
  body_few names number b body = insns_few names c number body.method b read (few_bytes number body.method body.at) body.is

  -- ---- one method more

  module _ (n : ℕ) (before : SomeBodies c n) where
    without_code : Bodiless c n → SomeBodies c (n + 1)
    without_code bodiless = record {
      names = before.names;
      bodies = before.bodies;
      are = without_body before.names c n before.bodies before.are bodiless;
      small =
          let more = sum_more method_size c.methods n bodiless.method bodiless.at in
          let few = before.small in
          omega (arith, more, few);
    }

    module _ (others : Names) (b : Body) (body : BodyOf others c n b) where
      abbrev all_names : Names
      all_names = before.names ++ others

      abbrev own : Body
      own = record b { frames = raised_frames (length before.names) b.frames }

      with_code : SomeBodies c (n + 1)
      with_code = record {
        names = all_names;
        bodies = before.bodies ++ own ∷ [];
        are = with_body all_names c n before.bodies (grown_bodies before.names all_names c n before.bodies (others, refl) before.are) own
            (renumbered before.names others c n b body);
        small =
            let more = sum_more method_size c.methods n body.method body.at in
            let few = before.small in
            let both = sum_by-append (λ (x : Body). insns_and_arms x.code) before.bodies (own ∷ []) in
            let one = sum_by-cons (λ (x : Body). insns_and_arms x.code) own [] in
            let own_few = body_few others n b body in
            omega (arith, more, few, both, one, own_few);
      }

    next : Answer c n → SomeBodies c (n + 1)
    next (inl bodiless) = without_code bodiless
    next (inr (inl found)) = with_code found.0 found.1 found.3
    next (inr (inr fault)) = absurd (no_fault n fault.0 fault.1)

  some_bodies : (n : ℕ) → n ≤ length c.methods → SomeBodies c n
  some_bodies zero inside = record { names = []; bodies = []; are = no_bodies [] c [] refl; small = omega arith }
  some_bodies (suc n) inside =
      let more = next n (some_bodies n (omega (arith, inside))) (each_answer c n is (omega (arith, inside))) in
      subst (SomeBodies c) (let e : n + 1 ≡ suc n = omega arith in e) more

  -- ---- all of them

  module _ (names : Names) (bodies : List Body) (are : AreBodies names c bodies) where
    pub made_well : (i : ℕ) (b : Body) → slice_get bodies i ≡ Some b → IsWellMade b
    made_well i b stands =
        let body = are.each i b stands in
        is_well_made names c b.method body.method b read (few_bytes b.method body.method body.at) body.is

    pub passes : (i : ℕ) (b : Body) → slice_get bodies i ≡ Some b → Checked names b
    passes i b stands = by (are.each i b stands) (each_verdict names b (some_code names c b.method b (are.each i b stands)))
      where
        by : BodyOf names c b.method b
            → Checked names b ⊎ (((place : ℕ) × FirstMissing b place) ⊎ ((place : ℕ) × FirstClash names b place)) → Checked names b
        by body (inl checked) = checked
        by body (inr (inl missing)) = absurd
            (nowhere kinds.FrameMissing (OfBody c (λ _ x place. FirstMissing x place)) (length c.methods) (missing_at c is)
            (missing_below c is) none.1.1.0 b.method missing.0
            (record { names = names; body = b; is = body; holds = missing.1 }))
        by body (inr (inr clash)) = absurd
            (nowhere kinds.FrameClash (OfBody c FirstClash) (length c.methods) (clash_at c is)
            (clash_below c is) none.1.1.1.0 b.method clash.0
            (record { names = names; body = b; is = body; holds = clash.1 }))

  pub all_bodies : AllBodies c
  all_bodies =
      let some = some_bodies (length c.methods) (omega arith) in
      let small = some.small in
      let part = sum_by-take-le method_size c.methods (length c.methods) in
      record {
        names = some.names;
        bodies = some.bodies;
        are = some.are;
        small = omega (arith, small, part);
        well_made = λ k d less. made_well some.names some.bodies some.are k (get_or some.bodies k d)
            (slice_get-get_or some.bodies k d less);
        checked = λ k d less. passes some.names some.bodies some.are k (get_or some.bodies k d) (slice_get-get_or some.bodies k d less);
      }
