-- The twin that the function gives has the probe of each probed edge, and nothing else.
use Rattle.std.proofs.Common.{◌≡◌, ◌⊎◌, inl, inr, ⊎_elim, ℕ, zero, suc, ◌+◌, ◌<◌, ◌≤◌, Bool, true, false, ◌&&◌, ◌||◌, nat_eq, List, [], ◌∷◌, ◌++◌, map, length, Option, Some, None, refl, sym, ap, ◌∙◌, subst, arith, add-one, zero-add}
use Rattle.std.specs.Prelude.{slice_get, Contains}
use Rattle.std.proofs.lemmas.Bool.{cases_lt, and_parts, eq-eqb, ne_eqb, cond-true, cond-false}
use Rattle.std.proofs.lemmas.Option.{slice_get-get_or, slice_get_within}
use Rattle.std.proofs.lemmas.List.{length-map}
use Rattle.jc_bytes.specs.PlainLists.{map_from, pieces}
use Rattle.jc_bytes.specs.FirstSeen.{first_seen, IsDistinct}
use Rattle.jc_methods.specs.Flow.{flow_of, targets_of, jump_target, falls_at, goes_on, is_fallen_into}
use Rattle.jc_methods.specs.Insn.{with_places}
use Rattle.jc_methods.specs.WellMade.{IsCode}
use Rattle.jc_methods.specs.declared.insn.Insn.{Insn}
use Rattle.jc_methods.specs.declared.insn.Flow.{Flow}
use Rattle.jc_methods.specs.declared.body.Body.{Body}
use Rattle.jc_plan.specs.declared.branch.Way.{Way}
use Rattle.jc_plan.specs.declared.branch.Way.TheVariants as ways
use Rattle.jc_plan.specs.declared.branch.Branch.{Branch}
use Rattle.jc_plan.specs.Edges.{sequence, jump, arm, exit, branches_by, branches_of, branches}
use Rattle.jc_plan.specs.Entries.{is_multi_target, is_invocation_line}
use Rattle.jc_plan.specs.Probed.{probe_of, id_if}
use Rattle.jc_plan.specs.Plan.{lead_probe}
use Rattle.jc_bytes.proofs.FirstSeenLaws.{contains_one, first_seen_distinct}
use Rattle.jc_plan.proofs.ListedLaws.{listed_from, lists_from}
use Rattle.jc_emit.specs.Sizes.{TwinForm, is_wide, insn_at, early_by, early_probe, late_by, late_probe, arms_by, arms_at, hop_size, wide_by, wide_size}
use Rattle.jc_emit.specs.Marks.{TwinPlaces, Marks, prelude_size}
use Rattle.jc_methods.specs.Widened.{inverted}
use Rattle.jc_emit.specs.TwinCode.{to_of, here_or, arm_place, probe_place, probe_place_by, probe_owner, probe_owner_by, ProbedEdge, InProbe, IsHop, IsWideGoto, NothingElse, HasProbe, HasArm, HasArms, HasGotoBehind}
use Rattle.jc_emit.specs.Items.{marks_of_items, Item, start, hop, insn_of, own_of, prelude, probe, lead_part, early_part, hop_part, arm_parts, test_part, segment_size, lead_of, land_of, image_of, tests_part, image_part, segment, twin_items}
use Rattle.jc_emit.proofs.PiecesLaws.{HasAt, has_front, Each, each_append, each_at, each_piece}
use Rattle.jc_emit.proofs.BuiltLaws.{length_prelude, length-lead, length-early, length-hop, length-test, sized}
use Rattle.jc_emit.proofs.EndsLaws.{lead_none}
use Rattle.jc_emit.proofs.ToldLaws.{item_stands, main_at, places_told, jumps_told, switches_told}
use Rattle.jc_methods.specs.declared.insn.Insn.TheVariants as insns
use Rattle.jc_methods.specs.declared.insn.Flow.TheVariants as flows
use Rattle.jc_methods.proofs.ByFlowLaws.{insn_by, jump_targets}
use Rattle.jc_bytes.proofs.BooleanLaws.{none_in, which_in, first_in, later_in}

pub none_some : (id : ℕ) → None ≡ Some id → ⊥
none_some id e = cc

if_some : (t : Bool) (a id : ℕ) → id_if t a ≡ Some id → t ≡ true
if_some true a id e = refl
if_some false a id e = absurd (none_some id e)

-- ---- what jumps

pub tests_target : (insn : Insn) → flow_of insn ≡ flows.Branches → targets_of insn ≡ jump_target insn ∷ []
tests_target insn e = jump_targets insn (insn_by insn e)

pub jumps_target : (insn : Insn) → flow_of insn ≡ flows.Jumps → targets_of insn ≡ jump_target insn ∷ []
jumps_target insn e = jump_targets insn (insn_by insn e)

-- ---- the arms of a switch

-- the branches lead to different places, by jumps of a switch at i
abbrev pub Arms : ℕ → List Branch → Type 0
Arms i [] = Unit {0}
Arms i (x ∷ xs) = ((y : Branch) → Contains xs y → to_of x ≡ to_of y → ⊥) × (x.at ≡ i) × (x.way ≡ ways.Switches (to_of x)) × Arms i xs

-- what stands in the list of arms leads where a number of the list says
pub arm_listed : (i k : ℕ) (ts : List ℕ) (y : Branch) → Contains (map_from (arm i) k ts) y → Contains ts (to_of y)
arm_listed i k [] y c = absurd (none_in y c)
arm_listed i k (t ∷ ts) y c =
    ⊎_elim
    (λ same. let e : t ≡ to_of y = ap to_of same in subst (λ z. Contains (z ∷ ts) (to_of y)) (sym e) (first_in (to_of y) ts))
    (λ later. later_in t ts (to_of y) (arm_listed i (k + 1) ts y later))
    (which_in (arm i k t) (map_from (arm i) (k + 1) ts) y c)

pub are_arms : (i k : ℕ) (ts : List ℕ) → IsDistinct ts → Arms i (map_from (arm i) k ts)
are_arms i k [] d = tt
are_arms i k (t ∷ ts) d = ((λ y c e. d.0 (to_of y) (arm_listed i (k + 1) ts y c) e), refl, refl, are_arms i (k + 1) ts d.1)

pub arm_way : (i : ℕ) (xs : List Branch) → Arms i xs → (x : Branch) → Contains xs x → x.way ≡ ways.Switches (to_of x)
arm_way i [] arms x c = absurd (none_in x c)
arm_way i (y ∷ xs) arms x c =
    ⊎_elim (λ same. subst (λ z. z.way ≡ ways.Switches (to_of z)) same arms.2) (λ later. arm_way i xs arms.3 x later) (which_in y xs x c)

-- each branch's place by the whole list is the one by this part of it, which begins at `here`
abbrev pub Agrees : (ids : Branch → Option ℕ) (land : ℕ → ℕ) → (whole : ℕ → ℕ) → ℕ → List Branch → Type 0
Agrees ids land whole here xs = (y : Branch) → Contains xs y → whole (to_of y) ≡ arm_place ids land here xs (to_of y)

pub agrees_first : (ids : Branch → Option ℕ) (land whole : ℕ → ℕ) (here id : ℕ) (x : Branch) (xs : List Branch)
    → Agrees ids land whole here (x ∷ xs) → ids x ≡ Some id → whole (to_of x) ≡ here
agrees_first ids land whole here id x xs a some =
    a x (first_in x xs)
    ∙ cond-true (nat_eq (to_of x) (to_of x)) (here_or (ids x) here (land (to_of x))) (arm_place ids land (here + hop_size (ids x)) xs (to_of x)) (eq-eqb (to_of x) (to_of x) refl)
    ∙ ap (λ o. here_or o here (land (to_of x))) some

pub agrees_here : (ids : Branch → Option ℕ) (land whole : ℕ → ℕ) (here : ℕ) (x : Branch) (xs : List Branch)
    → Agrees ids land whole here (x ∷ xs) → whole (to_of x) ≡ here_or (ids x) here (land (to_of x))
agrees_here ids land whole here x xs a =
    a x (first_in x xs)
    ∙ cond-true (nat_eq (to_of x) (to_of x)) (here_or (ids x) here (land (to_of x))) (arm_place ids land (here + hop_size (ids x)) xs (to_of x)) (eq-eqb (to_of x) (to_of x) refl)

pub agrees_rest : (ids : Branch → Option ℕ) (land whole : ℕ → ℕ) (here : ℕ) (x : Branch) (xs : List Branch)
    → ((y : Branch) → Contains xs y → to_of x ≡ to_of y → ⊥) → Agrees ids land whole here (x ∷ xs)
    → Agrees ids land whole (here + hop_size (ids x)) xs
agrees_rest ids land whole here x xs apart a y c =
    a y (later_in x xs y c)
    ∙ cond-false (nat_eq (to_of x) (to_of y)) (here_or (ids x) here (land (to_of y))) (arm_place ids land (here + hop_size (ids x)) xs (to_of y)) (ne_eqb (to_of x) (to_of y) (apart y c))

-- the arms of the instruction at i
pub arms_by_list : (b : Body) (i : ℕ) → Arms i (arms_at b.code i)
arms_by_list b i = by (flow_of (insn_at b.code i)) refl
  where
    by : (flow : Flow) → flow_of (insn_at b.code i) ≡ flow → Arms i (arms_by i (insn_at b.code i) flow)
    by flows.GoesOn e = tt
    by flows.Branches e = tt
    by flows.Jumps e = tt
    by flows.Switches e =
        subst (λ f. Arms i (branches_by f i (targets_of (insn_at b.code i)))) (sym e) (are_arms i 0 (first_seen (targets_of (insn_at b.code i))) (first_seen_distinct (targets_of (insn_at b.code i))))
    by flows.Returns e = tt
    by flows.Throws e = tt

module _ (b : Body) (first : ℕ) (form : TwinForm) (named : TwinPlaces) (is_code : IsCode b.code) where
  abbrev items : List Item
  items = twin_items b first form

  abbrev code : List Insn
  code = map (insn_of named b.arg_slots) items

  abbrev m : Marks
  m = marks_of_items items

  abbrev image_at : ℕ → ℕ
  image_at i = image_of b first form i

  abbrev land : ℕ → ℕ
  land i = land_of b first form i

  abbrev lead : ℕ → ℕ
  lead i = lead_of b first form i

  abbrev old : ℕ → Insn
  old i = insn_at b.code i

  abbrev Edge : Type 0
  Edge = ProbedEdge b first form named code m image_at land lead

  abbrev place : Branch → ℕ
  place x = probe_place b first form named code m image_at land lead x

  abbrev place_by : Way → Flow → ℕ → ℕ
  place_by way flow i = probe_place_by b first form named code m image_at land lead way flow i

  abbrev owner_by : Way → Flow → ℕ → ℕ
  owner_by way flow i = probe_owner_by b first form named code m image_at land lead way flow i

  abbrev Has : ℕ → ℕ → ℕ → Type 0
  Has q id at = HasProbe b first form named code m image_at land lead q id at

  -- ---- which branches there are

  pub insn_found : (i : ℕ) → i < length b.code → slice_get b.code i ≡ Some (old i)
  insn_found i lt = slice_get-get_or b.code i (insns.Simple 0) lt

  -- a branch of an instruction of the body
  pub record IsAt (x : Branch) : Type 0 where
    pub at : ℕ
    pub within : at < length b.code
    pub listed : Contains (branches_by (flow_of (old at)) at (targets_of (old at))) x

  pub at_found : (x : Branch) → Contains (branches b.code) x → IsAt x
  at_found x c =
      let l = listed_from branches_of 0 b.code x c in
      let within = slice_get_within b.code l.place l.item l.stands in
      let found = insn_found l.place within in
      let same : l.item ≡ old l.place = cc in
      let e : 0 + l.place ≡ l.place = zero-add l.place in
      record {
        at = l.place;
        within = within;
        listed = subst (λ insn. Contains (branches_of l.place insn) x) same (subst (λ k. Contains (branches_of k l.item) x) e l.listed);
      }

  pub found_at : (i : ℕ) (flow : Flow) (x : Branch) → i < length b.code → flow_of (old i) ≡ flow
      → Contains (branches_by flow i (targets_of (old i))) x → Contains (branches b.code) x
  found_at i flow x lt e c =
      lists_from branches_of 0 b.code x (record {
        place = i;
        item = old i;
        stands = insn_found i lt;
        listed = let z : i ≡ 0 + i = sym (zero-add i) in subst (λ k. Contains (branches_of k (old i)) x) z (subst (λ f. Contains (branches_by f i (targets_of (old i))) x) (sym e) c);
      })

  -- ---- each probed edge has its probe

  sequence_has : (i id : ℕ) → i < length b.code → probe_of b first (sequence i) ≡ Some id → Has (lead (i + 1)) id (i + 1)
  sequence_has i id lt some =
      ⊎_elim
      (λ more. (places_told b first form named).leads (i + 1) id more some)
      (λ over.
      let e : length b.code + 0 ≡ i + 1 = omega arith in
      absurd (none_some id (sym (lead_none b first form is_code 0) ∙ ap (lead_probe b first) e ∙ some)))
      (cases_lt (i + 1) (length b.code))

  arms_have : (i : ℕ) (whole : ℕ → ℕ) (here : ℕ) (xs : List Branch) → Arms i xs → Agrees (probe_of b first) land whole here xs
      → HasArms b first form named code m image_at land lead here xs
      → (x : Branch) (id : ℕ) → Contains xs x → probe_of b first x ≡ Some id
      → Has (whole (to_of x)) id (to_of x) × (x.at ≡ i) × (x.way ≡ ways.Switches (to_of x))
  arms_have i whole here [] arms a h x id c some = absurd (none_in x c)
  arms_have i whole here (y ∷ xs) arms a h x id c some =
      ⊎_elim
      (λ same.
      let yes : probe_of b first y ≡ Some id = ap (probe_of b first) same ∙ some in
      let arm_has = subst (λ o. HasArm b first form named code m image_at land lead here (to_of y) o) yes h.0 in
      let there = subst (λ q. Has q id (to_of y)) (sym (agrees_first (probe_of b first) land whole here id y xs a yes)) arm_has.0 in
      subst (λ z. Has (whole (to_of z)) id (to_of z) × (z.at ≡ i) × (z.way ≡ ways.Switches (to_of z))) same (there, arms.1, arms.2))
      (λ later. arms_have i whole (here + hop_size (probe_of b first y)) xs arms.3 (agrees_rest (probe_of b first) land whole here y xs arms.0 a) h.1 x id later some)
      (which_in y xs x c)

  -- where the branch of a switch has its arm place
  abbrev arm_at : ℕ → ℕ → ℕ
  arm_at i to = arm_place (probe_of b first) land (image_at i + 1) (arms_at b.code i) to

  pub arms_is : (i : ℕ) → flow_of (old i) ≡ flows.Switches → arms_at b.code i ≡ map_from (arm i) 0 (first_seen (targets_of (old i)))
  arms_is i e = ap (λ f. arms_by i (old i) f) e ∙ ap (λ f. branches_by f i (targets_of (old i))) e

  pub are_arms_at : (i : ℕ) → flow_of (old i) ≡ flows.Switches → Arms i (arms_at b.code i)
  are_arms_at i e =
      subst (Arms i) (sym (arms_is i e)) (are_arms i 0 (first_seen (targets_of (old i))) (first_seen_distinct (targets_of (old i))))

  edge_has : (i : ℕ) (flow : Flow) (x : Branch) (id : ℕ) → i < length b.code → flow_of (old i) ≡ flow
      → Contains (branches_by flow i (targets_of (old i))) x → probe_of b first x ≡ Some id
      → Has (place_by x.way flow i) id (owner_by x.way flow i) × (x.at ≡ i)
  edge_has i flows.GoesOn x id lt e c some =
      let same = contains_one (sequence i) x c in
      subst (λ z. Has (place_by z.way flows.GoesOn i) id (owner_by z.way flows.GoesOn i) × (z.at ≡ i)) same (sequence_has i id lt (ap (probe_of b first) same ∙ some), refl)
  edge_has i flows.Branches x id lt e c some =
      ⊎_elim
      (λ same. subst (λ z. Has (place_by z.way flows.Branches i) id (owner_by z.way flows.Branches i) × (z.at ≡ i)) same (sequence_has i id lt (ap (probe_of b first) same ∙ some), refl))
      (λ later.
      let one = subst (λ ts. Contains (map (jump i) ts) x) (tests_target (old i) e) later in
      let same = contains_one (jump i (jump_target (old i))) x one in
      let late : late_probe b first i ≡ Some id = ap (late_by (probe_of b first) i (old i)) e ∙ ap (probe_of b first) same ∙ some in
      subst (λ z. Has (place_by z.way flows.Branches i) id (owner_by z.way flows.Branches i) × (z.at ≡ i)) same ((jumps_told b first form named).probes i id (lt, e) late, refl))
      (which_in (sequence i) (map (jump i) (targets_of (old i))) x c)
  edge_has i flows.Jumps x id lt e c some =
      let one = subst (λ ts. Contains (map (jump i) ts) x) (jumps_target (old i) e) c in
      let same = contains_one (jump i (jump_target (old i))) x one in
      let early : early_probe b first i ≡ Some id = ap (early_by (probe_of b first) i (old i)) e ∙ ap (probe_of b first) same ∙ some in
      subst (λ z. Has (place_by z.way flows.Jumps i) id (owner_by z.way flows.Jumps i) × (z.at ≡ i)) same ((places_told b first form named).early i id lt early, refl)
  edge_has i flows.Switches x id lt e c some =
      let listed = subst (λ l. Contains l x) (sym (arms_is i e)) c in
      let h = arms_have i (arm_at i) (image_at i + 1) (arms_at b.code i) (are_arms_at i e) (λ y d. refl) ((switches_told b first form named).arms i (lt, e)) x id listed some in
      (subst (λ w. Has (place_by w flows.Switches i) id (owner_by w flows.Switches i)) (sym h.2) h.0, h.1)
  edge_has i flows.Returns x id lt e c some =
      let same = contains_one (exit i) x c in
      let early : early_probe b first i ≡ Some id = ap (early_by (probe_of b first) i (old i)) e ∙ ap (probe_of b first) same ∙ some in
      subst (λ z. Has (place_by z.way flows.Returns i) id (owner_by z.way flows.Returns i) × (z.at ≡ i)) same ((places_told b first form named).early i id lt early, refl)
  edge_has i flows.Throws x id lt e c some =
      let same = contains_one (exit i) x c in
      let early : early_probe b first i ≡ Some id = ap (early_by (probe_of b first) i (old i)) e ∙ ap (probe_of b first) same ∙ some in
      subst (λ z. Has (place_by z.way flows.Throws i) id (owner_by z.way flows.Throws i) × (z.at ≡ i)) same ((places_told b first form named).early i id lt early, refl)

  probes_told : (e : Edge) → Has (place e.branch) e.id (probe_owner b first form named code m image_at land lead e.branch)
  probes_told e =
      let a = at_found e.branch e.listed in
      let h = edge_has a.at (flow_of (old a.at)) e.branch e.id a.within refl a.listed e.probed in
      subst (λ i. Has (place_by e.branch.way (flow_of (old i)) i) e.id (owner_by e.branch.way (flow_of (old i)) i)) (sym h.1) h.0

  -- ---- and nothing else stands there

  -- which item stands there plays no part in it
  abbrev any_item : Item
  any_item = start form.fetch 0

  abbrev Role : ℕ → Item → Type 0
  Role q x =
      (q < prelude_size form.fetch) ⊎ ((slice_get m.own q ≡ Some true)
      ⊎ (InProbe b first form named code m image_at land lead q ⊎ (IsHop b first form named code m image_at land lead q ⊎ IsWideGoto b first form named code m image_at land lead q)))

  own_role : (q : ℕ) (x : Item) → slice_get items q ≡ Some x → own_of x ≡ true → Role q x
  own_role q x h own = inr (inl ((item_stands named b.arg_slots items q x h).own_is ∙ ap Some own))

  probe_role : (q : ℕ) (x : Item) (e : Edge) (step : ℕ) → step < 4 → q ≡ place e.branch + step → Role q x
  probe_role q x e step four h = inr (inr (inl (record { edge = e; step = step; four = four; place = h })))

  probe_roles : (q id at : ℕ) (late : Bool) (e : Edge) → q ≡ place e.branch → Each Role q (probe id at late)
  probe_roles q id at late e h = (
    probe_role q any_item e 0 (omega arith) (omega (arith, h)),
    (
      probe_role (q + 1) any_item e 1 (omega arith) (omega (arith, h)),
      (
        probe_role (q + 1 + 1) any_item e 2 (omega arith) (omega (arith, h)),
        (probe_role (q + 1 + 1 + 1) any_item e 3 (omega arith) (omega (arith, h)), tt),
      ),
    ),
  )

  hop_roles : (q id to : ℕ) (e : Edge) → HasGotoBehind b first form named code m image_at land lead e.branch.way (flow_of (old e.branch.at))
      → q ≡ place e.branch → Each Role q (hop_part land (Some id) to)
  hop_roles q id to e behind h =
      each_append Role q (probe id to true) (hop (land to) to None ∷ []) (probe_roles q id to true e h)
      (inr (inr (inr (inl (record { edge = e; with_goto = behind; place = omega (arith, h) })))), tt)

  abbrev edge_of : (i : ℕ) (flow : Flow) (x : Branch) (id : ℕ) → i < length b.code → flow_of (old i) ≡ flow → Contains (branches_by flow i (targets_of (old i))) x → probe_of b first x ≡ Some id → Edge
  edge_of i flow x id lt e c some = record { branch = x; listed = found_at i flow x lt e c; id = id; probed = some }

  -- the probe of a fall-through
  pub sequence_listed : (flow : Flow) (j : ℕ) (ts : List ℕ) → goes_on flow ≡ true → Contains (branches_by flow j ts) (sequence j)
  sequence_listed flows.GoesOn j ts h = first_in (sequence j) ([])
  sequence_listed flows.Branches j ts h = first_in (sequence j) (map (jump j) ts)
  sequence_listed flows.Jumps j ts h = cc
  sequence_listed flows.Switches j ts h = cc
  sequence_listed flows.Returns j ts h = cc
  sequence_listed flows.Throws j ts h = cc

  pub fallen_before : (j id : ℕ) → j < length b.code → lead_probe b first (suc j) ≡ Some id → goes_on (flow_of (old j)) ≡ true
  fallen_before j id lt some =
      let t = if_some (is_fallen_into b.code (suc j) && (is_multi_target b (suc j) || is_invocation_line b (suc j))) _ id some in
      sym (ap falls_at (insn_found j lt))
      ∙ (and_parts (is_fallen_into b.code (suc j)) (is_multi_target b (suc j) || is_invocation_line b (suc j)) t).0

  lead_roles : (i : ℕ) → i < length b.code → (o : Option ℕ) → lead_probe b first i ≡ o → Each Role (lead i) (lead_part o i)
  lead_roles i lt None e = tt
  lead_roles zero lt (Some id) e = absurd (none_some id e)
  lead_roles (suc j) lt (Some id) e =
      let within : j < length b.code = omega arith in
      let up : j + 1 ≡ suc j = add-one j in
      let edge = edge_of j (flow_of (old j)) (sequence j) id within refl (sequence_listed (flow_of (old j)) j (targets_of (old j)) (fallen_before j id within e)) (ap (lead_probe b first) up ∙ e) in
      probe_roles (lead (suc j)) id (suc j) true edge (sym (ap lead up))

  -- the probe of a goto, return or athrow
  early_edge : (i : ℕ) (flow : Flow) (id : ℕ) → i < length b.code → flow_of (old i) ≡ flow
      → early_by (probe_of b first) i (old i) flow ≡ Some id
      → (x : Branch) × Contains (branches_by flow i (targets_of (old i))) x × (probe_of b first x ≡ Some id) × (land i ≡ place_by x.way flow i) × (x.at ≡ i)
  early_edge i flows.GoesOn id lt e h = absurd (none_some id h)
  early_edge i flows.Branches id lt e h = absurd (none_some id h)
  early_edge i flows.Jumps id lt e h = (
    jump i (jump_target (old i)),
    subst (λ ts. Contains (map (jump i) ts) (jump i (jump_target (old i)))) (sym (jumps_target (old i) e))
        (first_in (jump i (jump_target (old i))) ([])),
    h,
    refl,
    refl,
  )
  early_edge i flows.Switches id lt e h = absurd (none_some id h)
  early_edge i flows.Returns id lt e h = (exit i, first_in (exit i) ([]), h, refl, refl)
  early_edge i flows.Throws id lt e h = (exit i, first_in (exit i) ([]), h, refl, refl)

  early_roles : (i : ℕ) → i < length b.code → (o : Option ℕ) → early_probe b first i ≡ o → Each Role (land i) (early_part o i)
  early_roles i lt None e = tt
  early_roles i lt (Some id) e =
      let x = early_edge i (flow_of (old i)) id lt refl e in
      let edge = edge_of i (flow_of (old i)) x.0 id lt refl x.1 x.2 in
      probe_roles (land i) id i false edge (x.3 ∙ ap (λ k. place_by x.0.way (flow_of (old k)) k) (sym x.4))

  -- conditional jumps
  test_roles : (w : Bool) (i : ℕ) → is_wide form i ≡ w → (insn : Insn) (on : ℕ) (due : Option ℕ) → i < length b.code → flow_of (old i) ≡ flows.Branches
      → HasAt items (image_at i) (test_part w (image_at i) insn i on due) → Each Role (image_at i) (test_part w (image_at i) insn i on due)
  test_roles false i is insn on due lt e h = (own_role (image_at i) _ h.0 refl, tt)
  test_roles true i is insn on due lt e h =
      (own_role (image_at i) _ h.0 refl, (inr (inr (inr (inr (record { layout = is; test = i; tests = (lt, e); place = refl })))), tt))

  tests_roles : (i : ℕ) → i < length b.code → flow_of (old i) ≡ flows.Branches → (o : Option ℕ) → late_probe b first i ≡ o
      → HasAt items (image_at i) (tests_part b first form i (old i) o) → Each Role (image_at i) (tests_part b first form i (old i) o)
  tests_roles i lt e None none h = test_roles (is_wide form i) i refl (with_places land (old i)) (jump_target (old i)) None lt e h
  tests_roles i lt e (Some id) some h =
      let part = test_part (is_wide form i) (image_at i) (inverted (lead (i + 1)) (old i)) i (i + 1) (lead_probe b first (i + 1)) in
      let more = hop_part land (Some id) (jump_target (old i)) in
      let long = length-test (is_wide form i) (image_at i) (inverted (lead (i + 1)) (old i)) i (i + 1) (lead_probe b first (i + 1)) in
      let x = jump i (jump_target (old i)) in
      let listed = later_in (sequence i) (map (jump i) (targets_of (old i))) x (subst (λ ts. Contains (map (jump i) ts) x) (sym (tests_target (old i) e)) (first_in x ([]))) in
      let probed : probe_of b first x ≡ Some id = sym (ap (late_by (probe_of b first) i (old i)) e) ∙ some in
      let edge = edge_of i flows.Branches x id lt e listed probed in
      let same : wide_size b form i ≡ wide_by flows.Branches (is_wide form i) = ap (λ f. wide_by f (is_wide form i)) e in
      let there : image_at i + length part ≡ image_at i + 1 + wide_size b form i = omega (arith, long, same) in
      each_append Role (image_at i) part more
      (test_roles (is_wide form i) i refl (inverted (lead (i + 1)) (old i)) (i + 1) (lead_probe b first (i + 1)) lt e (has_front items (image_at i) part more h))
      (hop_roles (image_at i + length part) id (jump_target (old i)) edge
      (subst (λ f. HasGotoBehind b first form named code m image_at land lead (ways.Jumps (jump_target (old i))) f) (sym e) tt)
      (there ∙ ap (λ f. place_by (ways.Jumps (jump_target (old i))) f i) (sym e)))

  -- switches
  arm_roles : (i : ℕ) → i < length b.code → flow_of (old i) ≡ flows.Switches → (here : ℕ) (xs : List Branch)
      → ((y : Branch) → Contains xs y → Contains (arms_at b.code i) y)
      → Arms i xs → Agrees (probe_of b first) land (arm_at i) here xs → Each Role here (arm_parts land (probe_of b first) xs)
  arm_roles i lt e here [] listed arms a = tt
  arm_roles i lt e here (x ∷ xs) listed arms a =
      each_append Role here (hop_part land (probe_of b first x) (to_of x)) (arm_parts land (probe_of b first) xs)
      (part (probe_of b first x) refl)
      (subst (λ k. Each Role (here + k) (arm_parts land (probe_of b first) xs)) (sym (length-hop land (probe_of b first x) (to_of x)))
      (arm_roles i lt e (here + hop_size (probe_of b first x)) xs (λ y c. listed y (later_in x xs y c)) arms.3 (agrees_rest (probe_of b first) land (arm_at i) here x xs arms.0 a)))
    where
      part : (o : Option ℕ) → probe_of b first x ≡ o → Each Role here (hop_part land o (to_of x))
      part None none = tt
      part (Some id) some =
          let c = subst (λ l. Contains l x) (arms_is i e) (listed x (first_in x xs)) in
          let edge = edge_of i flows.Switches x id lt e c some in
          let here_is = agrees_first (probe_of b first) land (arm_at i) here id x xs a some in
          hop_roles here id (to_of x) edge
          (subst (λ w. HasGotoBehind b first form named code m image_at land lead w (flow_of (old x.at))) (sym arms.2) tt)
          (sym here_is ∙ sym (ap (λ w. place_by w (flow_of (old x.at)) x.at) arms.2 ∙ ap (λ k. arm_at k (to_of x)) arms.1))

  main_roles : (i : ℕ) (flow : Flow) → i < length b.code → flow_of (old i) ≡ flow
      → HasAt items (image_at i) (image_part b first form i (old i) flow) → Each Role (image_at i) (image_part b first form i (old i) flow)
  main_roles i flows.GoesOn lt e h = (own_role (image_at i) _ h.0 refl, tt)
  main_roles i flows.Branches lt e h = tests_roles i lt e (late_probe b first i) refl h
  main_roles i flows.Jumps lt e h = (own_role (image_at i) _ h.0 refl, tt)
  main_roles i flows.Switches lt e h =
      (own_role (image_at i) _ h.0 refl, arm_roles i lt e (image_at i + 1) (arms_at b.code i) (λ y c. c) (are_arms_at i e) (λ y c. refl))
  main_roles i flows.Returns lt e h = (own_role (image_at i) _ h.0 refl, tt)
  main_roles i flows.Throws lt e h = (own_role (image_at i) _ h.0 refl, tt)

  segment_roles : (i : ℕ) → i < length b.code → Each Role (lead i) (segment b first form i)
  segment_roles i lt =
      each_append Role (lead i) (lead_part (lead_probe b first i) i) _
      (lead_roles i lt (lead_probe b first i) refl)
      (subst (λ k. Each Role (lead i + k) (early_part (early_probe b first i) i ++ image_part b first form i (old i) (flow_of (old i)))) (sym (length-lead (lead_probe b first i) i))
      (each_append Role (land i) (early_part (early_probe b first i) i) _
      (early_roles i lt (early_probe b first i) refl)
      (subst (λ k. Each Role (land i + k) (image_part b first form i (old i) (flow_of (old i)))) (sym (length-early (early_probe b first i) i))
      (main_roles i (flow_of (old i)) lt refl (main_at b first form named i lt)))))

  front_roles : (q : ℕ) (xs : List Item) → q + length xs ≤ prelude_size form.fetch → Each Role q xs
  front_roles q [] le = tt
  front_roles q (x ∷ xs) le = (inl (omega (arith, le)), front_roles (q + 1) xs (omega (arith, le)))

  all_roles : Each Role 0 items
  unfolding twin_items
  all_roles =
      each_append Role 0 (prelude form.fetch) (pieces (segment b first form) (length b.code))
      (front_roles 0 (prelude form.fetch) (omega (arith, length_prelude form.fetch)))
      (subst (λ k. Each Role k (pieces (segment b first form) (length b.code))) (sym (zero-add (length (prelude form.fetch)) ∙ length_prelude form.fetch))
      (each_piece Role (segment b first form) (segment_size b first form) (sized b first form) (prelude_size form.fetch) (length b.code) (λ i lt. segment_roles i lt)))

  others_told : (q : ℕ) → q < length code → Role q any_item
  others_told q lt =
      let within : q < length items = omega (arith, length-map items (insn_of named b.arg_slots)) in
      let here = slice_get-get_or items q any_item within in
      let role = each_at Role 0 items q _ all_roles here in
      let e : 0 + q ≡ q = zero-add q in
      subst (λ k. Role k any_item) e role

  pub nothing_else_told : NothingElse b first form named code m image_at land lead
  nothing_else_told = record { probes = probes_told; others = others_told }
