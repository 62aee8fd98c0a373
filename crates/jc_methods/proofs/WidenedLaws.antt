-- The wide form of code has an image of each instruction at its place.
use Rattle.std.proofs.Common.{◌≡◌, ◌≢◌, ℕ, zero, suc, ◌+◌, ◌<◌, Bool, true, false, List, [], ◌∷◌, ◌++◌, length, Some, slice_get, refl, ◌∙◌, ap, ap₂, subst, arith, zero-add, length-append, map}
use Rattle.std.proofs.lemmas.List.{map-id}
use Rattle.jc_methods.specs.declared.insn.Insn.{Insn}
use Rattle.jc_methods.specs.declared.insn.Insn.TheVariants as insns
use Rattle.jc_methods.specs.declared.insn.Arm.{Arm}
use Rattle.jc_methods.specs.declared.insn.Flow.{Flow}
use Rattle.jc_methods.specs.declared.insn.Flow.TheVariants as flows
use Rattle.jc_methods.specs.Flow.{flow_of}
use Rattle.jc_methods.specs.Insn.{with_places, arm_with_place}
use Rattle.jc_methods.specs.Widened.{WideSet, none_wide, all_wide, inverted, widths_by, wide_place_from, wide_place, widened_by, widened_from, widened, IsWideTest, HasImage}

-- ---- lists

in_front : {X : Type 0} (xs ys : List X) (k : ℕ) → k < length xs → slice_get (xs ++ ys) k ≡ slice_get xs k
in_front [] ys k below = absurd (omega (arith, below))
in_front (x ∷ xs) ys zero below = refl
in_front (x ∷ xs) ys (suc k) below = in_front xs ys k (omega (arith, below))

behind : {X : Type 0} (xs ys : List X) (k : ℕ) → slice_get (xs ++ ys) (length xs + k) ≡ slice_get ys k
behind [] ys k = ap (slice_get ys) (zero-add k)
behind (x ∷ xs) ys k = let e : length (x ∷ xs) + k ≡ suc (length xs + k) = omega arith in ap (slice_get (x ∷ xs ++ ys)) e ∙ behind xs ys k

-- ---- places

module _ (wide : WideSet) where
  first_from : (n : ℕ) (code : List Insn) → wide_place_from wide n code 0 ≡ 0
  first_from n [] = refl
  first_from n (x ∷ code) = refl

  pub first_place : (code : List Insn) → wide_place wide code 0 ≡ 0
  first_place code = first_from 0 code

  next_from : (n : ℕ) (code : List Insn) (place : ℕ) (insn : Insn) → slice_get code place ≡ Some insn
      → wide_place_from wide n code (place + 1) ≡ wide_place_from wide n code place + widths_by (flow_of insn) (wide (n + place))
  next_from n [] place insn is = absurd cc
  next_from n (x ∷ code) zero insn is =
      let same : x ≡ insn = cc in
      let here : n ≡ n + 0 = omega arith in
      let e = ap₂ (λ (i : Insn) (k : ℕ). widths_by (flow_of i) (wide k)) same here in
      omega (arith, first_from (suc n) code, e)
  next_from n (x ∷ code) (suc place) insn is =
      let e : suc place + 1 ≡ suc (place + 1) = omega arith in
      let here : suc n + place ≡ n + suc place = omega arith in
      ap (wide_place_from wide n (x ∷ code)) e
      ∙ omega (arith, next_from (suc n) code place insn is, ap (λ (k : ℕ). widths_by (flow_of insn) (wide k)) here)

  pub next_place : (code : List Insn) (place : ℕ) (insn : Insn) → slice_get code place ≡ Some insn
      → wide_place wide code (place + 1) ≡ wide_place wide code place + widths_by (flow_of insn) (wide place)
  next_place code place insn is =
      next_from 0 code place insn is ∙ ap (λ (k : ℕ). wide_place wide code place + widths_by (flow_of insn) (wide k)) (zero-add place)

  -- ---- images

  length_by : (places : ℕ → ℕ) (here : ℕ) (insn : Insn) (flow : Flow) (w : Bool) → length (widened_by places here insn flow w) ≡ widths_by flow w
  length_by places here insn flows.Branches true = refl
  length_by places here insn flow w = refl

  length_from : (places : ℕ → ℕ) (n here : ℕ) (code : List Insn)
      → length (widened_from places wide n here code) ≡ wide_place_from wide n code (length code)
  length_from places n here [] = refl
  length_from places n here (x ∷ code) =
      let part = widened_by places here x (flow_of x) (wide n) in
      let w = widths_by (flow_of x) (wide n) in
      let rest = widened_from places wide (suc n) (here + w) code in
      omega (arith, length-append part rest, length_by places here x (flow_of x) (wide n), length_from places (suc n) (here + w) code)

  pub wide_length : (code : List Insn) → length (widened wide code) ≡ wide_place wide code (length code)
  unfolding widened
  wide_length code = length_from (wide_place wide code) 0 0 code

  image_at : (places : ℕ → ℕ) (n here : ℕ) (code : List Insn) (place : ℕ) (insn : Insn) (j : ℕ) → slice_get code place ≡ Some insn
      → j < widths_by (flow_of insn) (wide (n + place))
      → slice_get (widened_from places wide n here code) (wide_place_from wide n code place + j)
      ≡ slice_get (widened_by places (here + wide_place_from wide n code place) insn (flow_of insn) (wide (n + place))) j
  image_at places n here [] place insn j is below = absurd cc
  image_at places n here (x ∷ code) zero insn j is below =
      let same : x ≡ insn = cc in
      let own : n ≡ n + 0 = omega arith in
      subst (λ (k : ℕ). j < widths_by (flow_of insn) (wide k) → slice_get (widened_from places wide n here (x ∷ code)) (0 + j)
      ≡ slice_get (widened_by places (here + 0) insn (flow_of insn) (wide k)) j) own
      (subst (λ (i : Insn). j < widths_by (flow_of i) (wide n) → slice_get (widened_from places wide n here (x ∷ code)) (0 + j)
      ≡ slice_get (widened_by places (here + 0) i (flow_of i) (wide n)) j) same first) below
    where
      first : j < widths_by (flow_of x) (wide n)
          → slice_get (widened_from places wide n here (x ∷ code)) (0 + j) ≡ slice_get (widened_by places (here + 0) x (flow_of x) (wide n)) j
      first lt =
          let e : here ≡ here + 0 = omega arith in
          ap (slice_get (widened_from places wide n here (x ∷ code))) (zero-add j)
          ∙ in_front (widened_by places here x (flow_of x) (wide n)) (widened_from places wide (suc n) (here + widths_by (flow_of x) (wide n)) code) j
          (omega (arith, length_by places here x (flow_of x) (wide n), lt))
          ∙ ap (λ (h : ℕ). slice_get (widened_by places h x (flow_of x) (wide n)) j) e
  image_at places n here (x ∷ code) (suc place) insn j is below =
      let w = widths_by (flow_of x) (wide n) in
      let part = widened_by places here x (flow_of x) (wide n) in
      let rest = widened_from places wide (suc n) (here + w) code in
      let position : w + wide_place_from wide (suc n) code place + j ≡ length part + (wide_place_from wide (suc n) code place + j) =
      omega (arith, length_by places here x (flow_of x) (wide n)) in
      let there : here + w + wide_place_from wide (suc n) code place ≡ here + (w + wide_place_from wide (suc n) code place) = omega arith in
      let up : suc n + place ≡ n + suc place = omega arith in
      let lower = subst (λ (k : ℕ). j < widths_by (flow_of insn) (wide k)) (omega (arith, up)) below in
      ap (slice_get (part ++ rest)) position
      ∙ behind part rest (wide_place_from wide (suc n) code place + j)
      ∙ image_at places (suc n) (here + w) code place insn j is lower
      ∙ ap₂ (λ (h k : ℕ). slice_get (widened_by places h insn (flow_of insn) (wide k)) j) there up

  one_at_least : (flow : Flow) (w : Bool) → 0 < widths_by flow w
  one_at_least flows.Branches true = omega arith
  one_at_least flow w = omega arith

  first_same : (places : ℕ → ℕ) (here : ℕ) (insn : Insn) (flow : Flow) (w : Bool) → ((flow ≡ flows.Branches) × (w ≡ true) → ⊥)
      → slice_get (widened_by places here insn flow w) 0 ≡ Some (with_places places insn)
  first_same places here insn flows.Branches true other = absurd (other (refl, refl))
  first_same places here insn flow w other = refl

  pub has_image : (code : List Insn) (place : ℕ) (insn : Insn) → slice_get code place ≡ Some insn → HasImage wide code place insn
  unfolding widened
  has_image code place insn is =
      let here = wide_place wide code place in
      let own : 0 + place ≡ place = zero-add place in
      let zero_on : here ≡ here + 0 = omega arith in
      let parts = λ (w : Bool) (j : ℕ). slice_get (widened_by (wide_place wide code) (0 + here) insn (flow_of insn) w) j in
      let first : slice_get (widened wide code) here ≡ parts (wide place) 0 =
      ap (slice_get (widened_from (wide_place wide code) wide 0 0 code)) zero_on
      ∙ image_at (wide_place wide code) 0 0 code place insn 0 is (one_at_least (flow_of insn) (wide (0 + place)))
      ∙ ap (λ (k : ℕ). parts (wide k) 0) own in
      record {
        same = λ other.
            first
            ∙ first_same (wide_place wide code) (0 + here) insn (flow_of insn) (wide place) (λ t. other (record { tests = t.0; is_wide = t.1 }));
        inverse = λ t.
            first
            ∙ ap₂ (λ (f : Flow) (w : Bool). slice_get (widened_by (wide_place wide code) (0 + here) insn f w) 0) t.tests t.is_wide
            ∙ ap (λ (h : ℕ). Some (inverted (h + 2) insn)) (zero-add here);
        jump = λ t.
            let two : widths_by (flow_of insn) (wide (0 + place)) ≡ 2 =
            ap₂ (λ (f : Flow) (k : ℕ). widths_by f (wide k)) t.tests own ∙ ap (widths_by flows.Branches) t.is_wide in
            image_at (wide_place wide code) 0 0 code place insn 1 is (omega (arith, two))
            ∙ ap (λ (k : ℕ). parts (wide k) 1) own
            ∙ ap₂ (λ (f : Flow) (w : Bool). slice_get (widened_by (wide_place wide code) (0 + here) insn f w) 1) t.tests t.is_wide;
      }

-- ---- where no jump is wide

one_wide : (flow : Flow) → widths_by flow false ≡ 1
one_wide flows.Branches = refl
one_wide flow = refl

pub places_stay : (n : ℕ) (code : List Insn) (place : ℕ) → wide_place_from none_wide n code place ≡ place
places_stay n [] place = refl
places_stay n (x ∷ code) zero = refl
places_stay n (x ∷ code) (suc place) = omega (arith, one_wide (flow_of x), places_stay (suc n) code place)

same_arms : (arms : List Arm) → map (arm_with_place (λ to. to)) arms ≡ arms
same_arms [] = refl
same_arms (a ∷ arms) = ap (λ l. a ∷ l) (same_arms arms)

same_places : (insn : Insn) → with_places (λ to. to) insn ≡ insn
same_places (insns.Table low default arms) = ap (insns.Table low default) (map-id arms)
same_places (insns.Lookup default arms) = ap (insns.Lookup default) (same_arms arms)
same_places insn = refl

part_stays : (places : ℕ → ℕ) (here : ℕ) (insn : Insn) (flow : Flow) → widened_by places here insn flow false ≡ with_places places insn ∷ []
part_stays places here insn flows.Branches = refl
part_stays places here insn flow = refl

code_stays : (n here : ℕ) (code : List Insn) → widened_from (λ to. to) none_wide n here code ≡ code
code_stays n here [] = refl
code_stays n here (x ∷ code) =
    ap₂ (λ (l m : List Insn). l ++ m) (part_stays (λ to. to) here x (flow_of x) ∙ ap (λ i. i ∷ []) (same_places x))
    (code_stays (suc n) (here + widths_by (flow_of x) false) code)

pub none_widened : (code : List Insn) → widened none_wide code ≡ code
unfolding widened
none_widened code =
    let stay : wide_place none_wide code ≡ (λ to. to) = λ k place. places_stay 0 code place k in
    ap (λ (places : ℕ → ℕ). widened_from places none_wide 0 0 code) stay ∙ code_stays 0 0 code

-- ---- where each jump is wide

-- the numbers of the instructions say nothing then
each_number : (n m : ℕ) (code : List Insn) (place : ℕ) → wide_place_from all_wide n code place ≡ wide_place_from all_wide m code place
each_number n m [] place = refl
each_number n m (x ∷ code) zero = refl
each_number n m (x ∷ code) (suc place) = ap (λ (k : ℕ). widths_by (flow_of x) true + k) (each_number (suc n) (suc m) code place)

pub any_number : (n : ℕ) (code : List Insn) (place : ℕ) → wide_place_from all_wide n code place ≡ wide_place all_wide code place
any_number n code place = each_number n 0 code place

each_from : (places : ℕ → ℕ) (n m here : ℕ) (code : List Insn) → widened_from places all_wide n here code ≡ widened_from places all_wide m here code
each_from places n m here [] = refl
each_from places n m here (x ∷ code) =
    ap (λ (l : List Insn). widened_by places here x (flow_of x) true ++ l) (each_from places (suc n) (suc m) (here + widths_by (flow_of x) true) code)

pub any_from : (places : ℕ → ℕ) (n here : ℕ) (code : List Insn)
    → widened_from places all_wide n here code ≡ widened_from places all_wide 0 here code
any_from places n here code = each_from places n 0 here code
