-- The works of a class under two lists of names: the same is emitted, and the same frames are written.
use Rattle.std.proofs.Common.{◌≡◌, ℕ, suc, List, [], ◌∷◌, ◌++◌, length, map, option_map, slice_get, Some, refl, sym, ◌∙◌, ap, ap₂, subst, arith}
use Rattle.std.specs.List.{AllZip}
use Rattle.std.proofs.lemmas.List.{length-map}
use Rattle.std.proofs.lemmas.List.Concat.{flat_map-cons}
use Rattle.std.proofs.lemmas.Option.{same_Some, slice_get-map}
use Rattle.jc_methods.specs.VerificationTypes.{Names, TypeStateAt}
use Rattle.jc_methods.specs.declared.body.Body.{Body}
use Rattle.jc_class.specs.declared.class_file.ClassFile.{ClassFile}
use Rattle.jc_body.specs.BodyOf.{BodyOf}
use Rattle.jc_plan.specs.Probed.{first_id}
use Rattle.jc_instrument_code.specs.TwinCode.{written_frames}
use Rattle.jc_instrument_reread.specs.WrittenCode.{ready_emission}
use Rattle.jc_instrument.specs.Constants.{given_with}
use Rattle.jc_instrument.specs.SameAnalysis.{without_frames}
use Rattle.jc_instrument.specs.declared.constants.ProbeConstants.{ProbeConstants}
use Rattle.jc_instrument.specs.BodiesWithStates.{BodyWithStates, AreBodiesWithStates, all_frames, bodies_of, emitted_of}
use Rattle.jc_instrument.proofs.ListedLaws.{body_at}
use Rattle.jc_instrument.proofs.OneBodyLaws.{same_body}
use Rattle.jc_instrument.proofs.SameAnalysisLaws.{same_below, same_first}
use Rattle.jc_instrument_reread.proofs.SameBodyLaws.{AreSame}
use Rattle.jc_instrument.proofs.SameEmissionLaws.{IsSameEmission, same_emission, same_written}

-- the works are of one method, and what is emitted is the same
pub record IsSameWork (constants : ProbeConstants) (names others : Names) (array other : ℕ) (w x : BodyWithStates) : Type 0 where
  pub method : w.body.method ≡ x.body.method
  pub emission : IsSameEmission names others (emitted_of constants array w) (emitted_of constants other x)

-- lists of one length, in which the items at each place are so
pub zip_of_places : {X Y : Type 0} (R : X → Y → Type 0) (xs : List X) (ys : List Y) → length xs ≡ length ys
    → ((i : ℕ) (x : X) (y : Y) → slice_get xs i ≡ Some x → slice_get ys i ≡ Some y → R x y) → AllZip R xs ys
zip_of_places R [] [] count each = tt
zip_of_places R [] (y ∷ ys) count each = absurd (omega (arith, count))
zip_of_places R (x ∷ xs) [] count each = absurd (omega (arith, count))
zip_of_places R (x ∷ xs) (y ∷ ys) count each = (
  each 0 x y refl refl,
  zip_of_places R xs ys (omega (arith, count)) (λ i u v p q. each (suc i) u v p q),
)

bare_at : (works : List BodyWithStates) (i : ℕ) (w : BodyWithStates) → slice_get works i ≡ Some w
    → slice_get (map without_frames (bodies_of works)) i ≡ Some (without_frames w.body)
bare_at works i w stands = slice_get-map without_frames (bodies_of works) i ∙ ap (option_map without_frames) (body_at works i w stands)

bare_count : (works : List BodyWithStates) → length (map without_frames (bodies_of works)) ≡ length works
bare_count works = length-map (bodies_of works) without_frames ∙ length-map works (λ (v : BodyWithStates). v.body)

module _ (constants : ProbeConstants) (names others : Names) (array other : ℕ) (c : ClassFile) (works more : List BodyWithStates) (are : AreBodiesWithStates names array c works)
    (too : AreBodiesWithStates others other c more) where
  bodies_same : map without_frames (bodies_of works) ≡ map without_frames (bodies_of more)
  bodies_same = same_below names others c (length c.methods) (bodies_of works) (bodies_of more) are.bodies too.bodies

  firsts_same : (i : ℕ) → first_id (bodies_of works) i ≡ first_id (bodies_of more) i
  firsts_same i =
      same_first (bodies_of works) i
      ∙ ap (λ (bodies : List Body). first_id bodies i) bodies_same
      ∙ sym (same_first (bodies_of more) i)

  module _ (i : ℕ) (w x : BodyWithStates) (stands : slice_get works i ≡ Some w) (stands_too : slice_get more i ≡ Some x) where
    number_same : w.body.method ≡ x.body.method
    number_same =
        let bare = sym (bare_at works i w stands) ∙ ap (λ (bodies : List Body). slice_get bodies i) bodies_same ∙ bare_at more i x stands_too in
        ap (λ (b : Body). b.method) (same_Some (without_frames w.body) (without_frames x.body) bare)

    body_same : AreSame names others w.body x.body
    body_same =
        same_body names others c x.body.method w.body x.body
        (subst (λ (number : ℕ). BodyOf names c number w.body) number_same (are.bodies.each i w.body (body_at works i w stands)))
        (too.bodies.each i x.body (body_at more i x stands_too))

    first_same : w.first ≡ x.first
    first_same = (are.each i w stands).first ∙ firsts_same i ∙ sym (too.each i x stands_too).first

    work_same : IsSameWork constants names others array other w x
    work_same = record {
      method = number_same;
      emission = subst (λ (first : ℕ). IsSameEmission names others (ready_emission w.body first w.states (given_with constants array) constants.giver) (emitted_of constants other x)) (sym first_same)
          (same_emission constants names others w.body x.body body_same x.first w.states x.states array other are.array_is too.array_is
          (are.each i w stands).states (too.each i x stands_too).states);
    }

  pub same_works : AllZip (IsSameWork constants names others array other) works more
  same_works =
      zip_of_places (IsSameWork constants names others array other) works more
      (sym (bare_count works) ∙ ap length bodies_same ∙ bare_count more) work_same

all_written : (constants : ProbeConstants) (names others : Names) (array other : ℕ) (works more : List BodyWithStates) → AllZip (IsSameWork constants names others array other) works more
    → all_frames names constants array works ≡ all_frames others constants other more
all_written constants names others array other [] [] same = refl
all_written constants names others array other [] (x ∷ more) same = absurd same
all_written constants names others array other (w ∷ works) [] same = absurd same
all_written constants names others array other (w ∷ works) (x ∷ more) same =
    flat_map-cons (λ (v : BodyWithStates). written_frames names (emitted_of constants array v)) w works
    ∙ ap₂ (λ (first : List TypeStateAt) (rest : List TypeStateAt). first ++ rest)
    (same_written names others (emitted_of constants array w) (emitted_of constants other x) same.0.emission)
    (all_written constants names others array other works more same.1)
    ∙ sym (flat_map-cons (λ (v : BodyWithStates). written_frames others (emitted_of constants other v)) x more)

pub same_frames : (constants : ProbeConstants) (names others : Names) (array other : ℕ) (c : ClassFile) (works more : List BodyWithStates) → AreBodiesWithStates names array c works
    → AreBodiesWithStates others other c more → all_frames names constants array works ≡ all_frames others constants other more
same_frames constants names others array other c works more are too =
    all_written constants names others array other works more (same_works constants names others array other c works more are too)
