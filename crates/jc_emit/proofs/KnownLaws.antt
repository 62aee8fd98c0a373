-- A twin's code is the one that the function gives.
use Rattle.std.proofs.Common.{◌≡◌, ℕ, zero, suc, ◌+◌, ◌-◌, ◌<◌, ◌≤◌, Bool, true, false, List, [], ◌∷◌, ◌++◌, map, length, Option, Some, None, refl, sym, ap, ◌∙◌, subst, ⊎_elim, arith, add-one, append-nil, zero-add}
use Rattle.std.specs.Prelude.{slice_get}
use Rattle.std.proofs.lemmas.List.{length-map}
use Rattle.std.proofs.lemmas.Bool.{cases_lt}
use Rattle.jc_bytes.specs.PlainLists.{pieces}
use Rattle.jc_methods.specs.Flow.{flow_of, jump_target}
use Rattle.jc_methods.specs.Insn.{with_places}
use Rattle.jc_methods.specs.WellMade.{IsCode}
use Rattle.jc_methods.specs.declared.insn.Insn.{Insn}
use Rattle.jc_methods.specs.declared.insn.Flow.{Flow}
use Rattle.jc_methods.specs.declared.body.Body.{Body}
use Rattle.jc_plan.specs.declared.branch.Branch.{Branch}
use Rattle.jc_plan.specs.Probed.{probe_of}
use Rattle.jc_plan.specs.Plan.{lead_probe}
use Rattle.jc_methods.specs.declared.probe_members.Fetch.{Fetch}
use Rattle.jc_methods.specs.declared.probe_members.Fetch.TheVariants as fetches
use Rattle.jc_emit.specs.Sizes.{TwinForm, is_wide, insn_at, early_probe, late_probe, arms_at, probe_size, hop_size, wide_by, wide_size}
use Rattle.jc_emit.specs.Marks.{TwinPlaces, Marks, HasInsn, IsProbe, iconst_1, bastore, prelude_insns, prelude_size, image_place, land_place, lead_place}
use Rattle.jc_methods.specs.Widened.{goto, inverted}
use Rattle.jc_emit.specs.TwinCode.{to_of, HasPrelude, Sentences, IsTwinCode, HasTest, HasArm, HasArms}
use Rattle.jc_emit.specs.Items.{marks_of_items, Item, hop, insn_of, at_of, own_of, extra_of, prelude, probe, lead_part, early_part, hop_part, arm_parts, test_part, segment_size, lead_of, land_of, image_of, tests_part, image_part, segment, twin_items}
use Rattle.jc_emit.proofs.PiecesLaws.{HasAt, Each, each_append, each_piece, has_whole}
use Rattle.jc_emit.proofs.ImagesLaws.{trues, trues_counted, image_behind}
use Rattle.jc_emit.proofs.BuiltLaws.{length_prelude, some_prelude, length-lead, length-early, length-hop, length-test, length_twin, sized}
use Rattle.jc_emit.proofs.EndsLaws.{image_past}
use Rattle.jc_methods.specs.declared.insn.Flow.TheVariants as flows

-- what is left of a number that something was taken off
left_over : (a s : ℕ) → 1 ≤ a - s → a ≡ a - s + s
left_over a s h = omega arith

module _ (b : Body) (first : ℕ) (form : TwinForm) (named : TwinPlaces) (code : List Insn) (m : Marks) (is_code : IsCode b.code) (is : IsTwinCode b first form named code m) where
  abbrev n : ℕ
  n = length b.code

  abbrev size : ℕ → ℕ
  size i = segment_size b first form i

  -- ---- the places

  abbrev image_here : ℕ → ℕ
  image_here i = image_place m.own i

  abbrev land_here : ℕ → ℕ
  land_here i = land_place b first m.own i

  abbrev lead_here : ℕ → ℕ
  lead_here i = lead_place b first m.own i

  land_by : (i : ℕ) → 1 ≤ lead_here i → land_here i ≡ lead_here i + probe_size (lead_probe b first i)
  land_by i some = left_over (land_here i) (probe_size (lead_probe b first i)) some

  image_by : (i : ℕ) → 1 ≤ lead_here i
      → image_here i ≡ lead_here i + probe_size (lead_probe b first i) + probe_size (early_probe b first i)
  image_by i some =
      let land = land_by i some in
      let one : 1 ≤ land_here i = omega (arith, land, some) in
      left_over (image_here i) (probe_size (early_probe b first i)) one ∙ ap (λ k. k + probe_size (early_probe b first i)) land

  -- up to the end
  lead_is : (i : ℕ) → i ≤ n → lead_here i ≡ lead_of b first form i
  lead_is zero le = omega (arith, is.places.first_place)
  lead_is (suc i) le =
      let before = lead_is i (omega arith) in
      let some : 1 ≤ lead_here i = omega (arith, before, some_prelude form.fetch) in
      let image = image_by i some in
      let next = is.places.next_place i (omega arith) in
      ap lead_here (sym (add-one i)) ∙ omega (arith, before, image, next)

  image_is : (i : ℕ) → i ≤ n → image_here i ≡ image_of b first form i
  image_is i le =
      let lead = lead_is i le in
      let some : 1 ≤ lead_here i = omega (arith, lead, some_prelude form.fetch) in
      omega (arith, lead, image_by i some)

  -- behind it
  own_count : trues m.own ≡ n
  own_count = sym (trues_counted m.own) ∙ is.images.single

  place_past : (k : ℕ) → image_here (n + k) ≡ length m.own + k
  place_past k = ap (λ l. image_place l (n + k)) (sym (append-nil m.own)) ∙ image_behind m.own ([]) (n + k) k (omega (arith, own_count))

  pub end_is : length m.own ≡ lead_of b first form n
  end_is =
      let e : n + 0 ≡ n = omega arith in
      let here = sym (ap image_here e) ∙ place_past 0 in
      let there = ap (image_of b first form) e in
      omega (arith, here, image_is n (omega arith), there, image_past b first form is_code 0)

  image_all : (i : ℕ) → image_here i ≡ image_of b first form i
  image_all i =
      ⊎_elim (λ below. image_is i (omega arith))
      (λ above.
      let e : i ≡ n + (i - n) = omega arith in
      ap image_here e
      ∙ place_past (i - n)
      ∙ ap (λ k. k + (i - n)) end_is
      ∙ sym (image_past b first form is_code (i - n))
      ∙ ap (image_of b first form) (sym e))
      (cases_lt i n)

  land_all : (i : ℕ) → land_here i ≡ land_of b first form i
  land_all i = ap (λ q. q - probe_size (early_probe b first i)) (image_all i) ∙ omega arith

  lead_all : (i : ℕ) → lead_here i ≡ lead_of b first form i
  lead_all i = ap (λ q. q - probe_size (lead_probe b first i)) (land_all i) ∙ omega arith

  pub images_known : image_place m.own ≡ image_of b first form
  images_known = λ k i. image_all i k

  pub lands_known : land_place b first m.own ≡ land_of b first form
  lands_known = λ k i. land_all i k

  pub leads_known : lead_place b first m.own ≡ lead_of b first form
  leads_known = λ k i. lead_all i k

  -- the sentences over the function's places
  known : Sentences b first form named code m (image_of b first form) (land_of b first form) (lead_of b first form)
  known =
      subst (λ f. Sentences b first form named code m f (land_of b first form) (lead_of b first form)) images_known
      (subst (λ f. Sentences b first form named code m (image_place m.own) f (lead_of b first form)) lands_known
      (subst (λ f. Sentences b first form named code m (image_place m.own) (land_place b first m.own) f) leads_known is))

  -- ---- each part

  abbrev image_at : ℕ → ℕ
  image_at i = image_of b first form i

  abbrev land : ℕ → ℕ
  land i = land_of b first form i

  abbrev lead : ℕ → ℕ
  lead i = lead_of b first form i

  abbrev old : ℕ → Insn
  old i = insn_at b.code i

  -- the item stands at the place
  abbrev Here : ℕ → Item → Type 0
  Here q x = HasInsn code m q (insn_of named b.arg_slots x) (at_of x) (own_of x) (extra_of x)

  probe_here : (q id at : ℕ) (late : Bool) → IsProbe code m named.integer b.arg_slots q id at → Each Here q (probe id at late)
  probe_here q id at late p =
      let two : q + 2 ≡ q + 1 + 1 = omega arith in
      let three : q + 3 ≡ q + 1 + 1 + 1 = omega arith in (
        p.array,
        (
          p.number,
          (subst (λ k. HasInsn code m k iconst_1 at false 2) two p.one, (subst (λ k. HasInsn code m k bastore at false 3) three p.store, tt)),
        ),
      )

  lead_part_here : (q i : ℕ) (o : Option ℕ) → ((id : ℕ) → o ≡ Some id → IsProbe code m named.integer b.arg_slots q id i) → Each Here q (lead_part o i)
  lead_part_here q i None h = tt
  lead_part_here q i (Some id) h = probe_here q id i true (h id refl)

  early_part_here : (q i : ℕ) (o : Option ℕ) → ((id : ℕ) → o ≡ Some id → IsProbe code m named.integer b.arg_slots q id i) → Each Here q (early_part o i)
  early_part_here q i None h = tt
  early_part_here q i (Some id) h = probe_here q id i false (h id refl)

  hop_here : (q id to : ℕ) → IsProbe code m named.integer b.arg_slots q id to → HasInsn code m (q + 4) (goto (land to)) to false 0
      → Each Here q (hop_part land (Some id) to)
  hop_here q id to p h =
      let four : q + 4 ≡ q + 4 = refl in
      each_append Here q (probe id to true) (hop (land to) to None ∷ []) (probe_here q id to true p) (h, tt)

  arm_here : (q to : ℕ) (o : Option ℕ) → HasArm b first form named code m image_at land lead q to o → Each Here q (hop_part land o to)
  arm_here q to None h = tt
  arm_here q to (Some id) h = hop_here q id to h.0 h.1

  arms_here : (q : ℕ) (xs : List Branch) → HasArms b first form named code m image_at land lead q xs
      → Each Here q (arm_parts land (probe_of b first) xs)
  arms_here q [] h = tt
  arms_here q (x ∷ xs) h =
      each_append Here q (hop_part land (probe_of b first x) (to_of x)) (arm_parts land (probe_of b first) xs)
      (arm_here q (to_of x) (probe_of b first x) h.0)
      (subst (λ k. Each Here (q + k) (arm_parts land (probe_of b first) xs)) (sym (length-hop land (probe_of b first x) (to_of x))) (arms_here (q + hop_size (probe_of b first x)) xs h.1))

  test_here : (w : Bool) (i : ℕ) (insn : Insn) (on : ℕ) (due : Option ℕ) → HasTest b first form named code m image_at land lead w i insn on
      → Each Here (image_at i) (test_part w (image_at i) insn i on due)
  test_here false i insn on due h = (h, tt)
  test_here true i insn on due h = (h.0, (h.1, tt))

  tests_here : (i : ℕ) → i < n → flow_of (old i) ≡ flows.Branches → (o : Option ℕ) → late_probe b first i ≡ o
      → Each Here (image_at i) (tests_part b first form i (old i) o)
  tests_here i lt e None none = test_here (is_wide form i) i (with_places land (old i)) (jump_target (old i)) None (known.jumps.tests i (lt, e) none)
  tests_here i lt e (Some id) some =
      let part = test_part (is_wide form i) (image_at i) (inverted (lead (i + 1)) (old i)) i (i + 1) (lead_probe b first (i + 1)) in
      let long = length-test (is_wide form i) (image_at i) (inverted (lead (i + 1)) (old i)) i (i + 1) (lead_probe b first (i + 1)) in
      let same : wide_size b form i ≡ wide_by flows.Branches (is_wide form i) = ap (λ f. wide_by f (is_wide form i)) e in
      let place : image_at i + 1 + wide_size b form i ≡ image_at i + length part = omega (arith, long, same) in
      each_append Here (image_at i) part (hop_part land (Some id) (jump_target (old i)))
      (test_here (is_wide form i) i (inverted (lead (i + 1)) (old i)) (i + 1) (lead_probe b first (i + 1)) (known.jumps.inverses i id (lt, e) some))
      (subst (λ k. Each Here k (hop_part land (Some id) (jump_target (old i)))) place
      (hop_here (image_at i + 1 + wide_size b form i) id (jump_target (old i)) (known.jumps.probes i id (lt, e) some) (known.jumps.hops i id (lt, e) some)))

  main_here : (i : ℕ) (flow : Flow) → i < n → flow_of (old i) ≡ flow → Each Here (image_at i) (image_part b first form i (old i) flow)
  main_here i flows.GoesOn lt e = (known.images.plain i (lt, e), tt)
  main_here i flows.Branches lt e = tests_here i lt e (late_probe b first i) refl
  main_here i flows.Jumps lt e = (known.jumps.gotos i (lt, e), tt)
  main_here i flows.Switches lt e =
      (known.switches.images i (lt, e), arms_here (image_at i + 1) (arms_at b.code i) (known.switches.arms i (lt, e)))
  main_here i flows.Returns lt e = (known.images.returns i (lt, e), tt)
  main_here i flows.Throws lt e = (known.images.throws i (lt, e), tt)

  segment_here : (i : ℕ) → i < n → Each Here (lead i) (segment b first form i)
  segment_here i lt =
      each_append Here (lead i) (lead_part (lead_probe b first i) i) _
      (lead_part_here (lead i) i (lead_probe b first i) (λ id e. known.places.leads i id lt e))
      (subst (λ k. Each Here (lead i + k) (early_part (early_probe b first i) i ++ image_part b first form i (old i) (flow_of (old i)))) (sym (length-lead (lead_probe b first i) i))
      (each_append Here (land i) (early_part (early_probe b first i) i) _
      (early_part_here (land i) i (early_probe b first i) (λ id e. known.places.early i id lt e))
      (subst (λ k. Each Here (land i + k) (image_part b first form i (old i) (flow_of (old i)))) (sym (length-early (early_probe b first i) i))
      (main_here i (flow_of (old i)) lt refl))))

  prelude_here : (fetch : Fetch) → HasPrelude b first form named code m image_at land lead 0 (prelude_insns fetch named b.arg_slots)
      → Each Here 0 (prelude fetch)
  prelude_here fetches.Member h = (h.0, (h.1.0, tt))
  prelude_here fetches.Constant h = (h.0, (h.1.0, (h.1.1.0, tt)))

  all_here : Each Here 0 (prelude form.fetch ++ pieces (segment b first form) n)
  all_here =
      each_append Here 0 (prelude form.fetch) (pieces (segment b first form) n) (prelude_here form.fetch known.prelude.first_insns)
      (subst (λ k. Each Here k (pieces (segment b first form) n)) (sym (zero-add (length (prelude form.fetch)) ∙ length_prelude form.fetch))
      (each_piece Here (segment b first form) size (sized b first form) (prelude_size form.fetch) n (λ i lt. segment_here i lt)))

  -- ---- the lists

  column : {B : Type 0} (f : Item → B) (xs : List B) (q : ℕ) (items : List Item)
      → ((k : ℕ) (x : Item) → Here k x → slice_get xs k ≡ Some (f x)) → Each Here q items → HasAt xs q (map f items)
  column f xs q [] read h = tt
  column f xs q (x ∷ items) read h = (read q x h.0, column f xs (q + 1) items read h.1)

  items_here : Each Here 0 (twin_items b first form)
  unfolding twin_items
  items_here = all_here

  own_long : length m.own ≡ length (twin_items b first form)
  own_long = end_is ∙ sym (length_twin b first form)

  code_long : length code ≡ length (twin_items b first form)
  code_long = sym is.lengths.own_length ∙ own_long

  pub code_known : code ≡ map (insn_of named b.arg_slots) (twin_items b first form)
  code_known =
      has_whole code (map (insn_of named b.arg_slots) (twin_items b first form)) (column (insn_of named b.arg_slots) code 0 (twin_items b first form) (λ k x h. h.insn_is) items_here)
      (code_long ∙ sym (length-map (twin_items b first form) (insn_of named b.arg_slots)))

  at_known : m.at ≡ map at_of (twin_items b first form)
  at_known =
      has_whole m.at (map at_of (twin_items b first form)) (column at_of m.at 0 (twin_items b first form) (λ k x h. h.at_is) items_here)
      (is.lengths.at_length ∙ code_long ∙ sym (length-map (twin_items b first form) at_of))

  own_known : m.own ≡ map own_of (twin_items b first form)
  own_known =
      has_whole m.own (map own_of (twin_items b first form)) (column own_of m.own 0 (twin_items b first form) (λ k x h. h.own_is) items_here)
      (own_long ∙ sym (length-map (twin_items b first form) own_of))

  extra_known : m.extra ≡ map extra_of (twin_items b first form)
  extra_known =
      has_whole m.extra (map extra_of (twin_items b first form)) (column extra_of m.extra 0 (twin_items b first form) (λ k x h. h.extra_is) items_here)
      (is.lengths.extra_length ∙ code_long ∙ sym (length-map (twin_items b first form) extra_of))

  pub marks_known : m ≡ marks_of_items (twin_items b first form)
  marks_known = λ k. record { at = at_known k; own = own_known k; extra = extra_known k }
