-- The twin that is built has its parts in their places.
use Rattle.std.proofs.Common.{◌≡◌, ℕ, zero, suc, ◌+◌, ◌<◌, ◌≤◌, Bool, true, false, List, [], ◌∷◌, ◌++◌, map, length, Option, Some, None, refl, sym, ap, ◌∙◌, subst, ⊎_elim, arith, length-append, append_assoc, append-nil}
use Rattle.std.specs.Prelude.{slice_get}
use Rattle.std.proofs.lemmas.List.{map-append, length-map}
use Rattle.std.proofs.lemmas.Bool.{cases_lt}
use Rattle.jc_bytes.specs.PlainLists.{pieces, total}
use Rattle.jc_methods.specs.Flow.{flow_of, jump_target}
use Rattle.jc_methods.specs.Insn.{with_places}
use Rattle.jc_methods.specs.declared.insn.Insn.{Insn}
use Rattle.jc_methods.specs.declared.insn.Flow.{Flow}
use Rattle.jc_methods.specs.declared.body.Body.{Body}
use Rattle.jc_plan.specs.declared.branch.Branch.{Branch}
use Rattle.jc_plan.specs.Probed.{probe_of}
use Rattle.jc_plan.specs.Plan.{lead_probe}
use Rattle.jc_emit.specs.Sizes.{TwinForm, is_wide, insn_at, early_probe, late_by, late_probe, arms_by, arms_at, probe_size, hop_size, arm_sizes, wide_by, behind_size}
use Rattle.jc_methods.specs.declared.probe_members.Fetch.{Fetch}
use Rattle.jc_methods.specs.declared.probe_members.Fetch.TheVariants as fetches
use Rattle.jc_emit.specs.Marks.{prelude_size, image_place}
use Rattle.jc_methods.specs.Widened.{inverted}
use Rattle.jc_emit.specs.TwinCode.{to_of}
use Rattle.jc_emit.specs.Items.{Item, start, own_of, prelude, lead_part, early_part, hop_part, arm_parts, test_part, segment_size, lead_of, land_of, image_of, tests_part, image_part, segment, twin_items}
use Rattle.jc_emit.proofs.PiecesLaws.{HasAt, has_piece, length-pieces}
use Rattle.jc_emit.proofs.ImagesLaws.{trues, trues-append, image_in_front, image_behind}
use Rattle.jc_methods.specs.declared.insn.Flow.TheVariants as flows

-- ---- sizes

pub length-lead : (o : Option ℕ) (i : ℕ) → length (lead_part o i) ≡ probe_size o
length-lead None i = refl
length-lead (Some id) i = refl

pub length-early : (o : Option ℕ) (i : ℕ) → length (early_part o i) ≡ probe_size o
length-early None i = refl
length-early (Some id) i = refl

pub length-hop : (land : ℕ → ℕ) (o : Option ℕ) (to : ℕ) → length (hop_part land o to) ≡ hop_size o
length-hop land None to = refl
length-hop land (Some id) to = refl

pub length-arms : (land : ℕ → ℕ) (ids : Branch → Option ℕ) (xs : List Branch) → length (arm_parts land ids xs) ≡ arm_sizes ids xs
length-arms land ids [] = refl
length-arms land ids (x ∷ xs) =
    omega (arith, length-append (hop_part land (ids x) (to_of x)) (arm_parts land ids xs), length-hop land (ids x) (to_of x), length-arms land ids xs)

pub length-test : (wide : Bool) (q : ℕ) (insn : Insn) (i on : ℕ) (due : Option ℕ)
    → length (test_part wide q insn i on due) ≡ 1 + wide_by flows.Branches wide
length-test false q insn i on due = refl
length-test true q insn i on due = refl

-- ---- the prelude

pub length_prelude : (fetch : Fetch) → length (prelude fetch) ≡ prelude_size fetch
length_prelude fetches.Member = refl
length_prelude fetches.Constant = refl

pub some_prelude : (fetch : Fetch) → 2 ≤ prelude_size fetch
some_prelude fetches.Member = omega arith
some_prelude fetches.Constant = omega arith

plain_prelude : (fetch : Fetch) → trues (map own_of (prelude fetch)) ≡ 0
plain_prelude fetches.Member = refl
plain_prelude fetches.Constant = refl

prelude_in_front : (fetch : Fetch) (rest : List Item) → HasAt (prelude fetch ++ rest) 0 (prelude fetch)
prelude_in_front fetches.Member rest = (refl, (refl, tt))
prelude_in_front fetches.Constant rest = (refl, (refl, (refl, tt)))

-- ---- parts

-- no item of these is own
pub plain_lead : (o : Option ℕ) (i : ℕ) → trues (map own_of (lead_part o i)) ≡ 0
plain_lead None i = refl
plain_lead (Some id) i = refl

pub plain_early : (o : Option ℕ) (i : ℕ) → trues (map own_of (early_part o i)) ≡ 0
plain_early None i = refl
plain_early (Some id) i = refl

pub plain_hop : (land : ℕ → ℕ) (o : Option ℕ) (to : ℕ) → trues (map own_of (hop_part land o to)) ≡ 0
plain_hop land None to = refl
plain_hop land (Some id) to = refl

pub trues_both : (xs ys : List Item) → trues (map own_of (xs ++ ys)) ≡ trues (map own_of xs) + trues (map own_of ys)
trues_both xs ys = ap trues (map-append own_of xs ys) ∙ trues-append (map own_of xs) (map own_of ys)

pub plain_arms : (land : ℕ → ℕ) (ids : Branch → Option ℕ) (xs : List Branch) → trues (map own_of (arm_parts land ids xs)) ≡ 0
plain_arms land ids [] = refl
plain_arms land ids (x ∷ xs) =
    trues_both (hop_part land (ids x) (to_of x)) (arm_parts land ids xs)
    ∙ omega (arith, plain_hop land (ids x) (to_of x), plain_arms land ids xs)

module _ (b : Body) (first : ℕ) (form : TwinForm) where
  abbrev old : ℕ → Insn
  old i = insn_at b.code i

  abbrev behind : ℕ → ℕ
  behind i = behind_size b first form i

  abbrev seg : ℕ → List Item
  seg i = segment b first form i

  abbrev main : ℕ → Flow → List Item
  main i flow = image_part b first form i (old i) flow

  abbrev size : ℕ → ℕ
  size i = segment_size b first form i

  -- what an instruction of this flow has behind its image
  abbrev behind_by : ℕ → Flow → ℕ
  behind_by i flow =
      wide_by flow (is_wide form i) + hop_size (late_by (probe_of b first) i (old i) flow) + arm_sizes (probe_of b first) (arms_by i (old i) flow)

  pub size_is : (i : ℕ) (flow : Flow) → flow_of (old i) ≡ flow → behind i ≡ behind_by i flow
  size_is i flow e = ap (behind_by i) e

  pub size_tests : (i : ℕ) → flow_of (old i) ≡ flows.Branches → behind i ≡ wide_by flows.Branches (is_wide form i) + hop_size (late_probe b first i) + 0
  size_tests i e = ap (λ f. wide_by f (is_wide form i) + hop_size (late_probe b first i) + arm_sizes (probe_of b first) (arms_by i (old i) f)) e

  pub size_switches : (i : ℕ) → flow_of (old i) ≡ flows.Switches → behind i ≡ 0 + 0 + arm_sizes (probe_of b first) (arms_at b.code i)
  size_switches i e =
      ap (λ f. wide_by f (is_wide form i) + hop_size (late_by (probe_of b first) i (old i) f) + arm_sizes (probe_of b first) (arms_at b.code i)) e

  length-tests : (i : ℕ) (insn : Insn) (o : Option ℕ)
      → length (tests_part b first form i insn o) ≡ 1 + (wide_by flows.Branches (is_wide form i) + hop_size o + 0)
  length-tests i insn None =
      omega (arith, length-test (is_wide form i) (image_of b first form i) (with_places (land_of b first form) insn) i (jump_target insn) None)
  length-tests i insn (Some id) =
      let front = test_part (is_wide form i) (image_of b first form i) (inverted (lead_of b first form (i + 1)) insn) i (i + 1) (lead_probe b first (i + 1)) in
      let more = length-append front (hop_part (land_of b first form) (Some id) (jump_target insn)) in
      let one = length-test (is_wide form i) (image_of b first form i) (inverted (lead_of b first form (i + 1)) insn) i (i + 1) (lead_probe b first (i + 1)) in
      omega (arith, more, one)

  length-main : (i : ℕ) (flow : Flow) → flow_of (old i) ≡ flow → length (main i flow) ≡ 1 + behind i
  length-main i flows.GoesOn e = ap (λ k. 1 + k) (sym (size_is i flows.GoesOn e))
  length-main i flows.Branches e = length-tests i (old i) (late_probe b first i) ∙ ap (λ k. 1 + k) (sym (size_tests i e))
  length-main i flows.Jumps e = ap (λ k. 1 + k) (sym (size_is i flows.Jumps e))
  length-main i flows.Switches e =
      let l = length-arms (land_of b first form) (probe_of b first) (arms_at b.code i) in
      omega (arith, l, size_switches i e)
  length-main i flows.Returns e = ap (λ k. 1 + k) (sym (size_is i flows.Returns e))
  length-main i flows.Throws e = ap (λ k. 1 + k) (sym (size_is i flows.Throws e))

  pub sized : (i : ℕ) → length (seg i) ≡ size i
  sized i =
      omega (
        arith,
        length-append (lead_part (lead_probe b first i) i) (early_part (early_probe b first i) i ++ main i (flow_of (old i))),
        length-append (early_part (early_probe b first i) i) (main i (flow_of (old i))),
        length-lead (lead_probe b first i) i,
        length-early (early_probe b first i) i,
        length-main i (flow_of (old i)) refl,
      )

  -- ---- one image in each segment

  own_test : (w : Bool) (q : ℕ) (insn : Insn) (i on : ℕ) (due : Option ℕ) → trues (map own_of (test_part w q insn i on due)) ≡ 1
  own_test false q insn i on due = refl
  own_test true q insn i on due = refl

  own_tests : (i : ℕ) (insn : Insn) (o : Option ℕ) → trues (map own_of (tests_part b first form i insn o)) ≡ 1
  own_tests i insn None = own_test (is_wide form i) (image_of b first form i) (with_places (land_of b first form) insn) i (jump_target insn) None
  own_tests i insn (Some id) =
      let front = test_part (is_wide form i) (image_of b first form i) (inverted (lead_of b first form (i + 1)) insn) i (i + 1) (lead_probe b first (i + 1)) in
      let one = own_test (is_wide form i) (image_of b first form i) (inverted (lead_of b first form (i + 1)) insn) i (i + 1) (lead_probe b first (i + 1)) in
      let both = trues_both front (hop_part (land_of b first form) (Some id) (jump_target insn)) in
      let none = plain_hop (land_of b first form) (Some id) (jump_target insn) in
      omega (arith, both, one, none)

  own_main : (i : ℕ) (flow : Flow) → trues (map own_of (main i flow)) ≡ 1
  own_main i flows.GoesOn = refl
  own_main i flows.Branches = own_tests i (old i) (late_probe b first i)
  own_main i flows.Jumps = refl
  own_main i flows.Switches = ap suc (plain_arms (land_of b first form) (probe_of b first) (arms_at b.code i))
  own_main i flows.Returns = refl
  own_main i flows.Throws = refl

  one_image : (i : ℕ) → trues (map own_of (seg i)) ≡ 1
  one_image i =
      omega (
        arith,
        trues_both (lead_part (lead_probe b first i) i) (early_part (early_probe b first i) i ++ main i (flow_of (old i))),
        trues_both (early_part (early_probe b first i) i) (main i (flow_of (old i))),
        plain_lead (lead_probe b first i) i,
        plain_early (early_probe b first i) i,
        own_main i (flow_of (old i)),
      )

  first_test : (w : Bool) (q : ℕ) (insn : Insn) (i on : ℕ) (due : Option ℕ) (rest : List Item)
      → image_place (map own_of (test_part w q insn i on due ++ rest)) 0 ≡ 0
  first_test false q insn i on due rest = refl
  first_test true q insn i on due rest = refl

  first_tests : (i : ℕ) (insn : Insn) (o : Option ℕ) → image_place (map own_of (tests_part b first form i insn o)) 0 ≡ 0
  first_tests i insn None =
      let part = test_part (is_wide form i) (image_of b first form i) (with_places (land_of b first form) insn) i (jump_target insn) None in
      ap (λ l. image_place (map own_of l) 0) (sym (append-nil part))
      ∙ first_test (is_wide form i) (image_of b first form i) (with_places (land_of b first form) insn) i (jump_target insn) None ([])
  first_tests i insn (Some id) =
      first_test (is_wide form i) (image_of b first form i) (inverted (lead_of b first form (i + 1)) insn) i (i + 1) (lead_probe b first (i + 1))
      (hop_part (land_of b first form) (Some id) (jump_target insn))

  first_main : (i : ℕ) (flow : Flow) → image_place (map own_of (main i flow)) 0 ≡ 0
  first_main i flows.GoesOn = refl
  first_main i flows.Branches = first_tests i (old i) (late_probe b first i)
  first_main i flows.Jumps = refl
  first_main i flows.Switches = refl
  first_main i flows.Returns = refl
  first_main i flows.Throws = refl

  -- items in front of which none is own
  behind_plain : (xs ys : List Item) (n : ℕ) → trues (map own_of xs) ≡ 0 → length xs ≡ n
      → image_place (map own_of (xs ++ ys)) 0 ≡ n + image_place (map own_of ys) 0
  behind_plain xs ys n none long =
      ap (λ l. image_place l 0) (map-append own_of xs ys)
      ∙ image_behind (map own_of xs) (map own_of ys) 0 0 (omega (arith, none))
      ∙ ap (λ k. k + image_place (map own_of ys) 0) (length-map xs own_of ∙ long)

  image_within : (i : ℕ)
      → image_place (map own_of (seg i)) 0 ≡ probe_size (lead_probe b first i) + (probe_size (early_probe b first i) + 0)
  image_within i =
      behind_plain (lead_part (lead_probe b first i) i)
      (early_part (early_probe b first i) i ++ main i (flow_of (old i))) _ (plain_lead (lead_probe b first i) i) (length-lead (lead_probe b first i) i)
      ∙ ap (λ k. probe_size (lead_probe b first i) + k)
      (behind_plain (early_part (early_probe b first i) i) (main i (flow_of (old i))) _ (plain_early (early_probe b first i) i) (length-early (early_probe b first i) i)
      ∙ ap (λ k. probe_size (early_probe b first i) + k) (first_main i (flow_of (old i))))

  -- ---- all segments

  abbrev lead : ℕ → ℕ
  lead i = lead_of b first form i

  abbrev built : ℕ → List Item
  built n = prelude form.fetch ++ pieces seg n

  own_built : (n : ℕ) → trues (map own_of (built n)) ≡ n
  own_built zero = ap (λ l. trues (map own_of l)) (append-nil (prelude form.fetch)) ∙ plain_prelude form.fetch
  own_built (suc n) =
      ap (λ l. trues (map own_of l)) (sym (append_assoc (prelude form.fetch) (pieces seg n) (seg n)))
      ∙ trues_both (built n) (seg n) ∙ omega (arith, own_built n, one_image n)

  length-built : (n : ℕ) → length (built n) ≡ lead n
  length-built n =
      omega (arith, length-append (prelude form.fetch) (pieces seg n), length_prelude form.fetch, length-pieces ([]) seg size sized n)

  image_built : (n i : ℕ) → i < n → image_place (map own_of (built n)) i ≡ image_of b first form i
  image_built zero i lt = absurd (omega arith)
  image_built (suc n) i lt =
      let split : map own_of (built (suc n)) ≡ map own_of (built n) ++ map own_of (seg n) =
      ap (map own_of) (sym (append_assoc (prelude form.fetch) (pieces seg n) (seg n))) ∙ map-append own_of (built n) (seg n) in
      ap (λ l. image_place l i) split
      ∙ ⊎_elim
      (λ below. image_in_front (map own_of (built n)) (map own_of (seg n)) i (omega (arith, own_built n)) ∙ image_built n i below)
      (λ above.
      let same : i ≡ n = omega arith in
      image_behind (map own_of (built n)) (map own_of (seg n)) i 0 (omega (arith, own_built n))
      ∙ ap (λ k. k + image_place (map own_of (seg n)) 0) (length-map (built n) own_of ∙ length-built n)
      ∙ ap (λ k. lead n + k) (image_within n)
      ∙ omega arith
      ∙ ap (image_of b first form) (sym same))
      (cases_lt i n)

  -- the piece of i stands at its lead place
  pub has_segment : (i : ℕ) → i < length b.code → HasAt (built (length b.code)) (lead i) (seg i)
  has_segment i lt =
      subst (λ k. HasAt (built (length b.code)) (k + total size i) (seg i)) (length_prelude form.fetch)
      (has_piece (prelude form.fetch) seg size sized (length b.code) i lt)

pub image_is : (b : Body) (first : ℕ) (form : TwinForm) (i : ℕ) → i < length b.code
    → image_place (map own_of (twin_items b first form)) i ≡ image_of b first form i
unfolding twin_items
image_is b first form i lt = image_built b first form (length b.code) i lt

pub own_twin : (b : Body) (first : ℕ) (form : TwinForm) → trues (map own_of (twin_items b first form)) ≡ length b.code
unfolding twin_items
own_twin b first form = own_built b first form (length b.code)

pub length_twin : (b : Body) (first : ℕ) (form : TwinForm) → length (twin_items b first form) ≡ lead_of b first form (length b.code)
unfolding twin_items
length_twin b first form = length-built b first form (length b.code)

pub segment_at : (b : Body) (first : ℕ) (form : TwinForm) (i : ℕ) → i < length b.code
    → HasAt (twin_items b first form) (lead_of b first form i) (segment b first form i)
unfolding twin_items
segment_at b first form i lt = has_segment b first form i lt

pub prelude_at : (b : Body) (first : ℕ) (form : TwinForm) → HasAt (twin_items b first form) 0 (prelude form.fetch)
unfolding twin_items
prelude_at b first form = prelude_in_front form.fetch (pieces (segment b first form) (length b.code))

pub starts_at : (b : Body) (first : ℕ) (form : TwinForm) → slice_get (twin_items b first form) 0 ≡ Some (start form.fetch 0)
starts_at b first form = by form.fetch (prelude_at b first form)
  where
    by : (fetch : Fetch) → HasAt (twin_items b first form) 0 (prelude fetch) → slice_get (twin_items b first form) 0 ≡ Some (start fetch 0)
    by fetches.Member h = h.0
    by fetches.Constant h = h.0
