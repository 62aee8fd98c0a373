-- Where the instructions of an instrumented method stand, from the probes that its plan has.
use Rattle.std.proofs.Common.{◌≡◌, ⊎_elim, ℕ, zero, suc, ◌+◌, ◌*◌, ◌<◌, ◌≤◌, false, List, [], ◌∷◌, ◌++◌, length, take, get_or, map, Option, Some, None, refl, sym, ap, ap₂, ◌∙◌, subst, arith, add-one}
use Rattle.std.specs.Prelude.{slice_index_or}
use Rattle.std.specs.List.{sum_by}
use Rattle.std.proofs.lemmas.Bool.{cases_lt}
use Rattle.std.proofs.lemmas.Grind.{get_or_default_zero}
use Rattle.std.proofs.lemmas.Option.{slice_get-get_or, same_Some}
use Rattle.std.proofs.lemmas.List.{get_or_past, length-map}
use Rattle.std.proofs.lemmas.List.Sums.{sum_by-cons, sum_by_more, sum_by-take-le}
use Rattle.jc_bytes.specs.PlainLists.{numbers_from}
use Rattle.jc_methods.specs.Flow.{flow_of, targets_of}
use Rattle.jc_methods.specs.Insn.{arm_count}
use Rattle.jc_methods.specs.WellMade.{IsCode, insns_and_arms}
use Rattle.jc_methods.specs.declared.insn.Insn.{Insn}
use Rattle.jc_methods.specs.declared.insn.Insn.TheVariants as insns
use Rattle.jc_methods.specs.declared.insn.Flow.{Flow}
use Rattle.jc_methods.specs.declared.insn.Flow.TheVariants as flows
use Rattle.jc_methods.specs.declared.body.Body.{Body}
use Rattle.jc_methods.specs.declared.probe_members.Fetch.{Fetch}
use Rattle.jc_methods.specs.declared.probe_members.Fetch.TheVariants as fetches
use Rattle.jc_plan.specs.declared.branch.Branch.{Branch}
use Rattle.jc_plan.specs.Edges.{jump, branches_by, branches_of}
use Rattle.jc_plan.specs.Probed.{probe_of}
use Rattle.jc_plan.specs.Plan.{lead_probe, out_probe, out_probes}
use Rattle.jc_plan.proofs.PlacesLaws.{puts_place, mapped_at, length_mapped}
use Rattle.jc_plan.proofs.FlowLaws.{few_of, few_at}
use Rattle.jc_emit.specs.Marks.{prelude_size}
use Rattle.jc_emit.specs.Sizes.{narrow, insn_at, early_by, early_probe, late_by, late_probe, arms_by, arms_at, probe_size, hop_size, arm_sizes, wide_by, behind_size}
use Rattle.jc_emit.specs.Items.{segment_size, lead_of, land_of, image_of}
use Rattle.jc_emit.specs.Branching.{early_in, late_in, behind_in, AreSmall}
use Rattle.jc_emit.specs.Placing.{IsTable, ArePlaces}
use Rattle.jc_emit.specs.declared.places.Places.{Places}
use Rattle.jc_emit.proofs.BuiltLaws.{size_is, size_tests, size_switches}
use Rattle.jc_emit.proofs.EndsLaws.{lead_none, early_none}
use Rattle.jc_emit.proofs.OthersLaws.{jumps_target}
use Rattle.jc_emit.proofs.PlanReadsLaws.{outs_test, outs_switch}

-- ---- the probes of an instruction

sized_arms : (ids : Branch → Option ℕ) (xs : List Branch) → sum_by hop_size (map ids xs) ≡ arm_sizes ids xs
sized_arms ids [] = refl
sized_arms ids (x ∷ xs) = omega (arith, sum_by-cons hop_size (ids x) (map ids xs), sized_arms ids xs)

module _ (b : Body) (first i : ℕ) where
  abbrev old : Insn
  old = insn_at b.code i

  abbrev outs : List (Option ℕ)
  outs = out_probes b first i old

  pub early_read : early_in (flow_of old) outs ≡ early_probe b first i
  early_read = by (flow_of old) refl
    where
      by : (flow : Flow) → flow_of old ≡ flow → early_in flow outs ≡ early_by (probe_of b first) i old flow
      by flows.GoesOn e = refl
      by flows.Branches e = refl
      by flows.Jumps e =
          ap (λ f. slice_index_or (map (out_probe b first) (branches_by f i (targets_of old))) 0 None) e
          ∙ ap (λ ts. slice_index_or (map (out_probe b first) (map (jump i) ts)) 0 None) (jumps_target old e)
      by flows.Switches e = refl
      by flows.Returns e = ap (λ f. slice_index_or (map (out_probe b first) (branches_by f i (targets_of old))) 0 None) e
      by flows.Throws e = ap (λ f. slice_index_or (map (out_probe b first) (branches_by f i (targets_of old))) 0 None) e

  pub late_read : late_in (flow_of old) outs ≡ late_probe b first i
  late_read = by (flow_of old) refl
    where
      by : (flow : Flow) → flow_of old ≡ flow → late_in flow outs ≡ late_probe b first i
      by flows.GoesOn e = sym (ap (late_by (probe_of b first) i old) e)
      by flows.Branches e = ap (λ ids. slice_index_or ids 1 None) (outs_test b first i e)
      by flows.Jumps e = sym (ap (late_by (probe_of b first) i old) e)
      by flows.Switches e = sym (ap (late_by (probe_of b first) i old) e)
      by flows.Returns e = sym (ap (late_by (probe_of b first) i old) e)
      by flows.Throws e = sym (ap (late_by (probe_of b first) i old) e)

  pub behind_read : (fetch : Fetch) → behind_in (flow_of old) outs ≡ behind_size b first (narrow fetch) i
  behind_read fetch = by (flow_of old) refl
    where
      by : (flow : Flow) → flow_of old ≡ flow → behind_in flow outs ≡ behind_size b first (narrow fetch) i
      by flows.GoesOn e = sym (size_is b first (narrow fetch) i flows.GoesOn e)
      by flows.Branches e =
          let late = late_probe b first i in
          ap (sum_by hop_size) (outs_test b first i e)
          ∙ omega (arith, sum_by-cons hop_size None (late ∷ []), sum_by-cons hop_size late ([]), size_tests b first (narrow fetch) i e)
      by flows.Jumps e = sym (size_is b first (narrow fetch) i flows.Jumps e)
      by flows.Switches e =
          ap (sum_by hop_size) (outs_switch b first i e)
          ∙ omega (arith, sized_arms (probe_of b first) (arms_at b.code i), size_switches b first (narrow fetch) i e)
      by flows.Returns e = sym (size_is b first (narrow fetch) i flows.Returns e)
      by flows.Throws e = sym (size_is b first (narrow fetch) i flows.Throws e)

-- ---- places are small

pub few_probe : (o : Option ℕ) → probe_size o ≤ 4
few_probe None = omega arith
few_probe (Some id) = omega arith

pub few_hop : (o : Option ℕ) → hop_size o ≤ 5
few_hop None = omega arith
few_hop (Some id) = omega arith

few_arms : (ids : Branch → Option ℕ) (xs : List Branch) → arm_sizes ids xs ≤ 5 * length xs
few_arms ids [] = omega arith
few_arms ids (x ∷ xs) = omega (arith, few_hop (ids x), few_arms ids xs)

pub few_prelude : (fetch : Fetch) → prelude_size fetch ≤ 3
few_prelude fetches.Member = omega arith
few_prelude fetches.Constant = omega arith

module _ (b : Body) (first : ℕ) where
  few_by : (i : ℕ) (insn : Insn) (flow : Flow) → probe_size (early_by (probe_of b first) i insn flow)
      + (wide_by flow false + hop_size (late_by (probe_of b first) i insn flow) + arm_sizes (probe_of b first) (arms_by i insn flow)) ≤ 10 + 5 * arm_count insn
  few_by i insn flows.GoesOn = omega arith
  few_by i insn flows.Branches = omega (arith, few_hop (late_by (probe_of b first) i insn flows.Branches))
  few_by i insn flows.Jumps = omega (arith, few_probe (early_by (probe_of b first) i insn flows.Jumps))
  few_by i insn flows.Switches = omega (arith, few_arms (probe_of b first) (branches_of i insn), few_of i insn)
  few_by i insn flows.Returns = omega (arith, few_probe (early_by (probe_of b first) i insn flows.Returns))
  few_by i insn flows.Throws = omega (arith, few_probe (early_by (probe_of b first) i insn flows.Throws))

  -- a switch has few probes
  pub few_outs : IsCode b.code → (i : ℕ) → i < length b.code → length (out_probes b first i (insn_at b.code i)) ≤ 65536
  few_outs code i lt =
      let insn = insn_at b.code i in
      let here : insn ≡ get_or b.code i insn =
      same_Some insn (get_or b.code i insn) (sym (slice_get-get_or b.code i (insns.Simple 0) lt) ∙ slice_get-get_or b.code i insn lt) in
      omega (arith, length-map (branches_of i insn) (out_probe b first), few_of i insn, few_at b.code i insn lt here, code.few)

module _ (b : Body) (first : ℕ) (fetch : Fetch) where
  few_segment : (i : ℕ) → segment_size b first (narrow fetch) i ≤ 15 * (1 + arm_count (insn_at b.code i))
  few_segment i =
      let insn = insn_at b.code i in
      let lead = few_probe (lead_probe b first i) in
      let rest = few_by b first i insn (flow_of insn) in
      omega (arith, lead, rest)

  abbrev sizes : Insn → ℕ
  sizes insn = 1 + arm_count insn

  few_so_far : (n : ℕ) → n ≤ length b.code → lead_of b first (narrow fetch) n ≤ 3 + 15 * insns_and_arms (take n b.code)
  few_so_far zero le = omega (arith, few_prelude fetch)
  few_so_far (suc n) le =
      let more = sum_by_more sizes b.code n (insns.Simple 0) (omega arith) in
      let up : insns_and_arms (take (n + 1) b.code) ≡ insns_and_arms (take (suc n) b.code) = ap (λ k. insns_and_arms (take k b.code)) (add-one n) in
      omega (arith, few_so_far n (omega arith), few_segment n, more, up)

  pub lead_small : IsCode b.code → (n : ℕ) → n ≤ length b.code → lead_of b first (narrow fetch) n ≤ 983028
  lead_small code n le = omega (arith, few_so_far n le, sum_by-take-le sizes b.code n, code.few)

  pub land_small : IsCode b.code → (n : ℕ) → n ≤ length b.code → land_of b first (narrow fetch) n ≤ 983032
  land_small code n le = omega (arith, lead_small code n le, few_probe (lead_probe b first n))

  pub image_small : IsCode b.code → (n : ℕ) → n ≤ length b.code → image_of b first (narrow fetch) n ≤ 983036
  image_small code n le = omega (arith, land_small code n le, few_probe (early_probe b first n))

-- ---- tables

small_table : (place : ℕ → ℕ) (count : ℕ) (table : List ℕ) → IsTable place count table → ((n : ℕ) → n ≤ count → place n ≤ 1000000)
    → (i : ℕ) → get_or table i 0 ≤ 1000000
small_table place count table is small i =
    ⊎_elim
    (λ below. let e = is.each i (omega arith) in let s = small i (omega arith) in omega (arith, e, s))
    (λ past. let e = get_or_past table i 0 (omega (arith, is.size, past)) in omega (arith, e))
    (cases_lt i (count + 1))

table_of : (place : ℕ → ℕ) (n : ℕ) (table : List ℕ) → table ≡ map place (numbers_from 0 (n + 1)) → IsTable place n table
table_of place n table is = record {
  size = ap length is ∙ length_mapped place 0 (n + 1);
  each = λ i le. ap (λ (l : List ℕ). get_or l i 0) is ∙ mapped_at place (n + 1) i 0 (omega arith);
}

-- the places of the first n instructions
pub record ArePlaced (b : Body) (first : ℕ) (fetch : Fetch) (n here : ℕ) (leads lands images : List ℕ) : Type 0 where
  pub here_is : here ≡ lead_of b first (narrow fetch) n
  pub leads_are : leads ≡ map (lead_of b first (narrow fetch)) (numbers_from 0 n)
  pub lands_are : lands ≡ map (land_of b first (narrow fetch)) (numbers_from 0 n)
  pub images_are : images ≡ map (image_of b first (narrow fetch)) (numbers_from 0 n)

-- an instruction that is read, whatever the default is
pub insn_here : (code : List Insn) (at : ℕ) (d x : Insn) → at < length code → x ≡ get_or code at d → x ≡ insn_at code at
insn_here code at d x lt is =
    is ∙ same_Some (get_or code at d) (insn_at code at) (sym (slice_get-get_or code at d lt) ∙ slice_get-get_or code at (insns.Simple 0) lt)

-- an instruction that is read off a list of the code
pub insn_seen : (code seen : List Insn) (at : ℕ) (x : Insn) → at < length code → seen ≡ code → x ≡ get_or seen at x → x ≡ insn_at code at
insn_seen code seen at x lt are is = insn_here code at x x lt (is ∙ ap (λ (l : List Insn). get_or l at x) are)

-- a place that is read off a table
pub place_seen : (place : ℕ → ℕ) (count : ℕ) (places : List ℕ) (at x : ℕ) → IsTable place count places → at < count → x ≡ get_or places at x → x ≡ place at
place_seen place count places at x table lt is =
    is ∙ get_or_default_zero places at x (omega (arith, lt, table.size)) ∙ table.each at (omega (arith, lt))

module _ (b : Body) (first : ℕ) (fetch : Fetch) where
  -- one more instruction
  pub placed_more : (at here s e h : ℕ) (leads lands images leads' lands' images' : List ℕ) → ArePlaced b first fetch at here leads lands images
      → s ≡ probe_size (lead_probe b first at) → e ≡ probe_size (early_probe b first at) → h ≡ behind_size b first (narrow fetch) at
      → leads' ≡ leads ++ here ∷ [] → lands' ≡ lands ++ (here + s) ∷ [] → images' ≡ images ++ (here + s + e) ∷ []
      → ArePlaced b first fetch (at + 1) (here + s + e + 1 + h) leads' lands' images'
  placed_more at here s e h leads lands images leads' lands' images' so_far s_is e_is h_is lead land image =
      let next : lead_of b first (narrow fetch) (at + 1) ≡ lead_of b first (narrow fetch) (suc at) = ap (lead_of b first (narrow fetch)) (add-one at) in
      let land_is : here + s ≡ land_of b first (narrow fetch) at = ap₂ (λ (x y : ℕ). x + y) so_far.here_is s_is in
      let image_is : here + s + e ≡ image_of b first (narrow fetch) at = ap₂ (λ (x y : ℕ). x + y) land_is e_is in
      record {
        here_is = omega (arith, so_far.here_is, s_is, e_is, h_is, next);
        leads_are = puts_place (lead_of b first (narrow fetch)) at leads leads' so_far.leads_are (lead ∙ ap (λ k. leads ++ k ∷ []) so_far.here_is);
        lands_are = puts_place (land_of b first (narrow fetch)) at lands lands' so_far.lands_are (land ∙ ap (λ k. lands ++ k ∷ []) land_is);
        images_are = puts_place (image_of b first (narrow fetch)) at images images' so_far.images_are (image ∙ ap (λ k. images ++ k ∷ []) image_is);
      }

  -- and the end
  pub placed_all : IsCode b.code → (places : Places) (at here : ℕ) (leads lands images : List ℕ) → at ≡ length b.code
      → ArePlaced b first fetch at here leads lands images → places.leads.items ≡ leads ++ here ∷ [] → places.lands.items ≡ lands ++ here ∷ []
      → places.images.items ≡ images ++ here ∷ [] → ArePlaces b first fetch places
  placed_all code places at here leads lands images all so_far lead land image = record {
    leads = table (lead_of b first (narrow fetch)) places.leads.items
        (puts_place (lead_of b first (narrow fetch)) at leads places.leads.items so_far.leads_are (lead ∙ ap (λ k. leads ++ k ∷ []) so_far.here_is));
    lands = table (land_of b first (narrow fetch)) places.lands.items
        (puts_place (land_of b first (narrow fetch)) at lands places.lands.items so_far.lands_are (land ∙ ap (λ k. lands ++ k ∷ []) land_is));
    images = table (image_of b first (narrow fetch)) places.images.items
        (puts_place (image_of b first (narrow fetch)) at images places.images.items so_far.images_are (image ∙ ap (λ k. images ++ k ∷ []) image_is));
  }
    where
      table : (place : ℕ → ℕ) (xs : List ℕ) → xs ≡ map place (numbers_from 0 (at + 1)) → IsTable place (length b.code) xs
      table place xs is = subst (λ n. IsTable place n xs) all (table_of place at xs is)

      past : at ≡ length b.code + 0
      past = omega (arith, all)

      land_is : here ≡ land_of b first (narrow fetch) at
      land_is =
          let none = ap (λ i. probe_size (lead_probe b first i)) past ∙ ap probe_size (lead_none b first (narrow fetch) code 0) in
          omega (arith, so_far.here_is, none)

      image_is : here ≡ image_of b first (narrow fetch) at
      image_is =
          let none = ap (λ i. probe_size (early_probe b first i)) past ∙ ap probe_size (early_none b first (narrow fetch) code 0) in
          omega (arith, land_is, none)

  pub small_places : IsCode b.code → (places : Places) → ArePlaces b first fetch places → AreSmall places
  small_places code places are = record {
    leads = small_table (lead_of b first (narrow fetch)) (length b.code) places.leads.items are.leads (λ n le. omega (arith, lead_small b first fetch code n le));
    lands = small_table (land_of b first (narrow fetch)) (length b.code) places.lands.items are.lands (λ n le. omega (arith, land_small b first fetch code n le));
    images = small_table (image_of b first (narrow fetch)) (length b.code) places.images.items are.images (λ n le. omega (arith, image_small b first fetch code n le));
  }
