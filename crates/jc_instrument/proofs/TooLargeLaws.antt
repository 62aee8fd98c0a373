-- Code that is too large, as a cause of the class.
use Rattle.std.proofs.Common.{◌≡◌, ◌⊎◌, inl, inr, ℕ, ◌<◌, Bool, true, false, List, length, map, Some, slice_get, refl, sym, ◌∙◌, ap, ap₂, arith}
use Rattle.std.proofs.lemmas.Bool.{cases_order}
use Rattle.std.proofs.lemmas.Option.{same_Some, slice_get_within}
use Rattle.jc_methods.specs.declared.body.Body.{Body}
use Rattle.jc_bytes.specs.declared.refusal.Refusal.{Refusal}
use Rattle.jc_bytes.specs.declared.refusal.RefusalKind.TheVariants as kinds
use Rattle.jc_class.specs.declared.class_file.ClassFile.{ClassFile}
use Rattle.jc_plan.specs.Analysed.{all_probes}
use Rattle.jc_plan.specs.Probed.{first_id}
use Rattle.jc_layout.specs.Layout.{chosen_length}
use Rattle.jc_instrument.specs.Bodies.{AreBodiesUnless, AreBodiesOf}
use Rattle.jc_instrument.specs.Causes.{Never}
use Rattle.jc_instrument.specs.Constants.{AreConstants, probed_code}
use Rattle.jc_instrument.specs.LeftAlone.{is_left_alone}
use Rattle.jc_instrument.specs.Probing.{AreShortBelow, IsFirstTooLong}
use Rattle.jc_instrument.specs.RoomCauses.{IsTooLarge, HasTooLargeCode}
use Rattle.jc_instrument.specs.SameAnalysis.{without_frames}
use Rattle.jc_instrument.specs.declared.constants.ProbeConstants.{ProbeConstants}
use Rattle.jc_instrument.proofs.CauseLaws.{never_in_method}
use Rattle.jc_instrument.proofs.RoomCauseLaws.{body_there, none_at, same_constants}
use Rattle.jc_instrument.proofs.SameAnalysisLaws.{same_bodies, same_first}
use Rattle.jc_instrument.proofs.SameItemsLaws.{same_code}

abbrev size_at : ProbeConstants → List Body → ℕ → Body → ℕ
size_at constants bodies i b = chosen_length (probed_code constants b (first_id bodies i))

same_size : (constants : ProbeConstants) (xs ys : List Body) → map without_frames xs ≡ map without_frames ys → (i : ℕ) (x y : Body)
    → without_frames x ≡ without_frames y → size_at constants xs i x ≡ size_at constants ys i y
same_size constants xs ys bodies i x y bare =
    let first = same_first xs i ∙ ap (λ (l : List Body). first_id l i) bodies ∙ sym (same_first ys i) in
    ap chosen_length
    (same_code constants x (first_id xs i) ∙ ap₂ (probed_code constants) bare first ∙ sym (same_code constants y (first_id ys i)))

module _ (c : ClassFile) (bodies : List Body) (are : AreBodiesOf c bodies) (bootstrap : ℕ) (constants : ProbeConstants)
    (loads : AreConstants c (all_probes bodies) bootstrap constants) where
  index_less : (i j : ℕ) (x y : Body) → slice_get bodies i ≡ Some x → slice_get bodies j ≡ Some y → x.method < y.method → i < j
  index_less i j x y p q less = by (is_left_alone c) are.are
    where
      by : (t : Bool) → AreBodiesUnless t are.names c bodies → i < j
      by true none = absurd (none_at i x (sym (ap (λ (l : List Body). slice_get l i) none) ∙ p))
      by false each = order (cases_order i j)
        where
          order : (i ≡ j) ⊎ ((i < j) ⊎ (j < i)) → i < j
          order (inl same) =
              let one = ap (λ (b : Body). b.method) (same_Some x y (sym p ∙ ap (slice_get bodies) same ∙ q)) in
              absurd (omega (arith, one, less))
          order (inr (inl before)) = before
          order (inr (inr behind)) = let more = each.rising j i y x behind q p in absurd (omega (arith, more, less))

  -- the same code among these bodies
  record IsThere (number place : ℕ) : Type 0 where
    index : ℕ
    body : Body
    stands : slice_get bodies index ≡ Some body
    number_is : body.method ≡ number
    size : place ≡ size_at constants bodies index body

  is_there : (number place : ℕ) → IsTooLarge c number place → IsThere number place
  is_there number place t =
      let same = same_bodies c t.bodies bodies t.are are in
      let y = body_there t.bodies bodies same t.index t.body t.stands in
      record {
        index = t.index;
        body = y.0;
        stands = y.1;
        number_is = ap (λ (b : Body). b.method) (sym y.2) ∙ t.number_is;
        size = t.size
            ∙ ap (λ (k : ProbeConstants). size_at k t.bodies t.index t.body) (same_constants c t.bodies bodies same t.bootstrap bootstrap t.constants constants t.loads loads)
            ∙ same_size constants t.bodies bodies same t.index t.body y.0 y.2;
      }

  pub too_large_found : (r : Refusal) → IsFirstTooLong constants bodies r → HasTooLargeCode c r
  too_large_found r f = record {
    number = f.body.method;
    place = size_at constants bodies f.index f.body;
    refusal = f.large.refusal;
    holds = record {
      bodies = bodies;
      are = are;
      bootstrap = bootstrap;
      constants = constants;
      loads = loads;
      index = f.index;
      body = f.body;
      stands = f.stands;
      number_is = refl;
      size = refl;
      large = f.large.large;
    };
    none_before = λ before at less t.
        let there = is_there before at t in
        let number = there.number_is in
        let earlier = index_less there.index f.index there.body f.body there.stands f.stands (omega (arith, less, number)) in
        let short = f.before there.index there.body earlier there.stands in
        let size = there.size in
        let large = t.large in
        omega (arith, short, size, large);
  }

  pub none_too_large : AreShortBelow constants bodies (length bodies) → Never (HasTooLargeCode c)
  none_too_large all = never_in_method kinds.CodeTooLarge (IsTooLarge c) (λ number place t.
      let there = is_there number place t in
      let short = all there.index there.body (slice_get_within bodies there.index there.body there.stands) there.stands in
      let size = there.size in
      let large = t.large in
      omega (arith, short, size, large))
