-- Each probe of a twin is that of a probed edge, and each probed edge has one.
use Rattle.std.proofs.Common.{◌≡◌, ◌⊎◌, inl, inr, ⊎_elim, ℕ, zero, suc, pos, ◌+◌, ◌-◌, ◌<◌, ◌≤◌, Bool, true, false, List, [], ◌∷◌, length, map, Option, Some, None, nat_le, if◌then◌else◌, refl, sym, ap, ◌∙◌, subst, arith}
use Rattle.std.specs.Prelude.{slice_get, Contains, nat_abs}
use Rattle.std.proofs.lemmas.Bool.{leb-false}
use Rattle.std.proofs.lemmas.Option.{slice_get_within, same_Some}
use Rattle.jc_methods.specs.Flow.{flow_of, targets_of, jump_target}
use Rattle.jc_methods.specs.Widened.{goto}
use Rattle.jc_methods.specs.WellMade.{IsCode, what_used}
use Rattle.jc_methods.specs.ProbeMembers.{most_short}
use Rattle.jc_methods.specs.declared.probe_members.Fetch.{Fetch}
use Rattle.jc_methods.specs.declared.probe_members.Fetch.TheVariants as fetches
use Rattle.jc_methods.specs.declared.body.Use.{Use}
use Rattle.jc_methods.specs.declared.body.What.{What}
use Rattle.jc_methods.specs.declared.body.What.TheVariants as whats
use Rattle.jc_methods.specs.declared.insn.Insn.{Insn}
use Rattle.jc_methods.specs.declared.insn.Insn.TheVariants as insns
use Rattle.jc_methods.specs.declared.insn.Flow.{Flow}
use Rattle.jc_methods.specs.declared.insn.Flow.TheVariants as flows
use Rattle.jc_methods.specs.declared.body.Body.{Body}
use Rattle.jc_bytes.proofs.FirstSeenLaws.{contains_one}
use Rattle.jc_bytes.proofs.BooleanLaws.{none_in, which_in}
use Rattle.jc_bytes.proofs.ListLaws.{each_in}
use Rattle.jc_plan.specs.declared.branch.Branch.{Branch}
use Rattle.jc_plan.specs.declared.branch.Way.{Way}
use Rattle.jc_plan.specs.Edges.{sequence, jump, exit, branches_by}
use Rattle.jc_plan.specs.Probed.{probe_of, probe_count, id_if, is_probed, id_of}
use Rattle.jc_plan.proofs.IdsLaws.{ids_within}
use Rattle.jc_plan.proofs.OneIdLaws.{one_edge}
use Rattle.jc_plan.proofs.FlowLaws.{IsAt, all_at}
use Rattle.jc_emit.specs.Sizes.{TwinForm, is_wide, insn_at, late_by, late_probe, arms_by, arms_at, hop_size}
use Rattle.jc_emit.specs.Marks.{TwinPlaces, Marks, IsProbeBy, HasEachIdOnce, PushesBy, Pushes, aload, invokestatic, prelude_insns, prelude_size, push, push_by, image_place, land_place, lead_place}
use Rattle.jc_emit.specs.Twin.{NamesIntegers}
use Rattle.jc_emit.specs.Told.{NamesIds, HasEdges}
use Rattle.jc_emit.specs.TwinCode.{to_of, HasPrelude, Sentences, IsTwinCode, ProbedEdge, InProbe, IsWideGoto, IsAdded, HasGotoBehind, HasTest, HasHop, HasArm, HasArms, IsProbeOf, arm, probe_place, probe_place_by}
use Rattle.jc_emit.proofs.OthersLaws.{Arms, arm_way, Agrees, agrees_first, agrees_rest, arms_by_list, at_found, tests_target, jumps_target}

-- ---- ids

-- the number that an instruction pushes
abbrev number_of : Insn → ℕ
number_of (insns.Simple op) = op - 3
number_of (insns.Push op value) = nat_abs value
number_of _ = 0

number_pushed : (n : ℕ) → number_of (push n) ≡ n
number_pushed n = by (nat_le n 5) (nat_le n 127)
  where
    by : (a c : Bool) → number_of (if a then insns.Simple (3 + n) else if c then insns.Push 16 (pos n) else insns.Push 17 (pos n)) ≡ n
    by true c = omega arith
    by false true = refl
    by false false = refl

pub same_number : (n k : ℕ) → push n ≡ push k → n ≡ k
same_number n k e = sym (number_pushed n) ∙ ap number_of e ∙ number_pushed k

-- the instruction pushes an Integer of the pool
abbrev is_constant : Insn → Bool
is_constant (insns.Constant place) = true
is_constant _ = false

plain_push : (n : ℕ) → is_constant (push n) ≡ false
plain_push n = by (nat_le n 5) (nat_le n 127)
  where
    by : (a c : Bool) → is_constant (if a then insns.Simple (3 + n) else if c then insns.Push 16 (pos n) else insns.Push 17 (pos n)) ≡ false
    by true c = refl
    by false true = refl
    by false false = refl

no_constant : (n place : ℕ) → push n ≡ insns.Constant place → ⊥
no_constant n place e = apart (sym (plain_push n) ∙ ap is_constant e)
  where
    apart : false ≡ true → ⊥
    apart e = cc

-- the value of an Integer
abbrev int_in : What → ℕ
int_in (whats.Int value) = nat_abs value
int_in _ = 0

abbrev place_in : Insn → ℕ
place_in (insns.Constant place) = place
place_in _ = 0

-- an instruction that pushes a number, by its Integer where no shorter one does, pushes no other number
one_number : (uses : List Use) (integer : ℕ → ℕ) (n k : ℕ) → (most_short < n → what_used uses (integer n) ≡ Some (whats.Int (pos n)))
    → Pushes uses (push_by integer n) k → n ≡ k
one_number uses integer n k named h = by (nat_le n most_short) (nat_le k most_short) refl h
  where
    by : (short few : Bool) → nat_le n most_short ≡ short → PushesBy few uses (if short then push n else insns.Constant (integer n)) k → n ≡ k
    by true true e h = same_number n k h
    by true false e h = absurd (no_constant n h.0 h.1)
    by false true e h = absurd (no_constant k (integer n) (sym h))
    by false false e h =
        let what = sym (named (leb-false n most_short e)) ∙ ap (what_used uses) (ap place_in h.1) ∙ h.2 in
        ap int_in (same_Some (whats.Int (pos n)) (whats.Int (pos k)) what)

-- an edge that has an id is probed, and the id is its own
pub probed_is : (b : Body) (first id : ℕ) (x : Branch) → probe_of b first x ≡ Some id → (is_probed b x ≡ true) × (id_of b first x ≡ id)
probed_is b first id x e = by (is_probed b x) refl e
  where
    by : (t : Bool) → is_probed b x ≡ t → id_if t (id_of b first x) ≡ Some id → (is_probed b x ≡ true) × (id_of b first x ≡ id)
    by true is e = (is, same_Some (id_of b first x) id e)
    by false is e = cc

-- ---- what stands at a place that isn't own

module _ (b : Body) (first : ℕ) (form : TwinForm) (named : TwinPlaces) (code : List Insn) (m : Marks) (image land lead : ℕ → ℕ) (uses : List Use) (is_code : IsCode b.code)
    (s : Sentences b first form named code m image land lead) (integers : NamesIntegers first (probe_count b) uses named.integer) where
  abbrev old : ℕ → Insn
  old i = insn_at b.code i

  abbrev Edge : Type 0
  Edge = ProbedEdge b first form named code m image land lead

  abbrev place : Branch → ℕ
  place x = probe_place b first form named code m image land lead x

  -- a goto stands there
  abbrev IsGoto : ℕ → Type 0
  IsGoto q = (to : ℕ) × (slice_get code q ≡ Some (goto to))

  hop_goto : (q to : ℕ) → HasHop b first form named code m image land lead q to → IsGoto q
  hop_goto q to h = (land to, h.insn_is)

  -- the arm places of these branches stand there
  abbrev HasArmsAt : ℕ → List Branch → Type 0
  HasArmsAt here xs = HasArms b first form named code m image land lead here xs

  arms_goto : (i : ℕ) (whole : ℕ → ℕ) (here : ℕ) (xs : List Branch) → Arms i xs → Agrees (probe_of b first) land whole here xs
      → HasArmsAt here xs → (x : Branch) (id : ℕ) → Contains xs x → probe_of b first x ≡ Some id
      → IsGoto (whole (to_of x) + 4)
  arms_goto i whole here [] arms a h x id c some = absurd (none_in x c)
  arms_goto i whole here (y ∷ xs) arms a h x id c some =
      ⊎_elim
      (λ same.
      let yes : probe_of b first y ≡ Some id = ap (probe_of b first) same ∙ some in
      let arm_has = subst (λ o. HasArm b first form named code m image land lead here (to_of y) o) yes h.0 in
      let at = agrees_first (probe_of b first) land whole here id y xs a yes in
      subst (λ z. IsGoto (whole (to_of z) + 4)) same (subst (λ q. IsGoto (q + 4)) (sym at) (hop_goto (here + 4) (to_of y) arm_has.1)))
      (λ later.
      arms_goto i whole (here + hop_size (probe_of b first y)) xs arms.3 (agrees_rest (probe_of b first) land whole here y xs arms.0 a) h.1 x id later some)
      (which_in y xs x c)

  -- the probe of such a branch has a goto behind it
  abbrev HasGoto : Way → Flow → Type 0
  HasGoto way flow = HasGotoBehind b first form named code m image land lead way flow

  abbrev place_by : Way → Flow → ℕ → ℕ
  place_by way flow i = probe_place_by b first form named code m image land lead way flow i

  -- the goto behind a probe that has one
  edge_goto : (i : ℕ) (flow : Flow) (x : Branch) (id : ℕ) → i < length b.code → flow_of (old i) ≡ flow
      → Contains (branches_by flow i (targets_of (old i))) x → probe_of b first x ≡ Some id → HasGoto x.way flow
      → IsGoto (place_by x.way flow i + 4)
  edge_goto i flows.GoesOn x id lt e c some behind =
      absurd (subst (λ z. HasGoto z.way flows.GoesOn) (sym (contains_one (sequence i) x c)) behind)
  edge_goto i flows.Branches x id lt e c some behind =
      ⊎_elim
      (λ same. absurd (subst (λ z. HasGoto z.way flows.Branches) (sym same) behind))
      (λ later.
      let one = subst (λ ts. Contains (map (jump i) ts) x) (tests_target (old i) e) later in
      let same = contains_one (jump i (jump_target (old i))) x one in
      let late : late_probe b first i ≡ Some id = ap (late_by (probe_of b first) i (old i)) e ∙ ap (probe_of b first) same ∙ some in
      subst (λ z. IsGoto (place_by z.way flows.Branches i + 4)) same
      (hop_goto _ (jump_target (old i)) (s.jumps.hops i id (lt, e) late)))
      (which_in (sequence i) (map (jump i) (targets_of (old i))) x c)
  edge_goto i flows.Jumps x id lt e c some behind =
      let one = subst (λ ts. Contains (map (jump i) ts) x) (jumps_target (old i) e) c in
      let same = contains_one (jump i (jump_target (old i))) x one in
      absurd (subst (λ z. HasGoto z.way flows.Jumps) (sym same) behind)
  edge_goto i flows.Switches x id lt e c some behind =
      let arms = arms_by_list b i in
      let listed : Contains (arms_at b.code i) x = subst (λ f. Contains (arms_by i (old i) f) x) (sym e) (subst (λ f. Contains (branches_by f i (targets_of (old i))) x) (sym e) c) in
      let way = arm_way i (arms_at b.code i) arms x listed in
      subst (λ w. IsGoto (place_by w flows.Switches i + 4)) (sym way)
      (arms_goto i (arm b first form named code m image land lead i) (image i + 1) (arms_at b.code i) arms (λ y d. refl) (s.switches.arms i (lt, e)) x id listed some)
  edge_goto i flows.Returns x id lt e c some behind =
      absurd (subst (λ z. HasGoto z.way flows.Returns) (sym (contains_one (exit i) x c)) behind)
  edge_goto i flows.Throws x id lt e c some behind =
      absurd (subst (λ z. HasGoto z.way flows.Throws) (sym (contains_one (exit i) x c)) behind)

  behind_edge : (e : Edge) → HasGoto e.branch.way (flow_of (old e.branch.at))
      → IsGoto (place e.branch + 4)
  behind_edge e behind =
      let a = at_found b first form named is_code e.branch e.listed in
      let same = branch_at a.at e.branch a.listed in
      edge_goto e.branch.at (flow_of (old e.branch.at)) e.branch e.id
      (subst (λ i. i < length b.code) (sym same) a.within) refl
      (subst (λ i. Contains (branches_by (flow_of (old i)) i (targets_of (old i))) e.branch) (sym same) a.listed) e.probed behind
    where
      branch_at : (i : ℕ) (x : Branch) → Contains (branches_by (flow_of (old i)) i (targets_of (old i))) x → x.at ≡ i
      branch_at i x c =
          let flow = flow_of (old i) in let targets = targets_of (old i) in
          (each_in (IsAt i) (branches_by flow i targets) x (all_at i flow targets) c).at

  -- ---- wide conditional jumps

  test_goto : (w : Bool) (i : ℕ) (insn : Insn) (on : ℕ) → w ≡ true → HasTest b first form named code m image land lead w i insn on
      → IsGoto (image i + 1)
  test_goto false i insn on e h = cc
  test_goto true i insn on e h = (jump_target insn, h.1.insn_is)

  wide_goto : (q : ℕ) → IsWideGoto b first form named code m image land lead q → IsGoto q
  wide_goto q w = subst IsGoto (sym w.place) (by (late_probe b first w.test) refl)
    where
      by : (o : Option ℕ) → late_probe b first w.test ≡ o → IsGoto (image w.test + 1)
      by None none = test_goto (is_wide form w.test) w.test _ _ w.layout (s.jumps.tests w.test w.tests none)
      by (Some id) some = test_goto (is_wide form w.test) w.test _ _ w.layout (s.jumps.inverses w.test id w.tests some)

  -- ---- probes

  no_probe : (q id at : ℕ) → IsGoto q → IsProbeBy uses code m b.arg_slots q id at → ⊥
  no_probe q id at g p = let e = same_Some (goto g.0) (aload b.arg_slots) (sym g.1 ∙ p.array.insn_is) in cc

  -- the instructions of the prelude, for each way to get the array
  abbrev Begins : Fetch → Type 0
  Begins fetch = HasPrelude b first form named code m image land lead 0 (prelude_insns fetch named b.arg_slots)

  in_prelude : (fetch : Fetch) → Begins fetch → (q id at : ℕ) → q < prelude_size fetch → IsProbeBy uses code m b.arg_slots q id at → ⊥
  in_prelude fetches.Member h zero id at lt p =
      let e = same_Some (invokestatic named.giver) (aload b.arg_slots) (sym h.0.insn_is ∙ p.array.insn_is) in cc
  in_prelude fetches.Member h (suc zero) id at lt p =
      let e = same_Some 1 0 (sym h.1.0.extra_is ∙ p.array.extra_is) in omega (arith, e)
  in_prelude fetches.Member h (suc (suc q)) id at lt p = omega (arith, lt)
  in_prelude fetches.Constant h zero id at lt p =
      let e = same_Some (insns.Constant named.giver) (aload b.arg_slots) (sym h.0.insn_is ∙ p.array.insn_is) in cc
  in_prelude fetches.Constant h (suc zero) id at lt p =
      let e = same_Some 1 0 (sym h.1.0.extra_is ∙ p.array.extra_is) in omega (arith, e)
  in_prelude fetches.Constant h (suc (suc zero)) id at lt p =
      let e = same_Some 1 0 (sym h.1.1.0.extra_is ∙ p.array.extra_is) in omega (arith, e)
  in_prelude fetches.Constant h (suc (suc (suc q))) id at lt p = omega (arith, lt)

  -- how many values a probe has pushed tells which of its instructions this is
  extra_at : (e : Edge) (step : ℕ) → step < 4 → slice_get m.extra (place e.branch + step) ≡ Some step
  extra_at e zero lt = let z : place e.branch + 0 ≡ place e.branch = omega arith in
      ap (slice_get m.extra) z ∙ (s.nothing_else.probes e).array.extra_is
  extra_at e (suc zero) lt = (s.nothing_else.probes e).number.extra_is
  extra_at e (suc (suc zero)) lt = (s.nothing_else.probes e).one.extra_is
  extra_at e (suc (suc (suc zero))) lt = (s.nothing_else.probes e).store.extra_is
  extra_at e (suc (suc (suc (suc step)))) lt = absurd (omega (arith, lt))

  -- the Integer of an edge's id
  edge_named : (e : Edge) → most_short < e.id → what_used uses (named.integer e.id) ≡ Some (whats.Int (pos e.id))
  edge_named e more =
      let is = probed_is b first e.id e.branch e.probed in
      let range = subst (λ k. (first ≤ k) × (k < first + probe_count b)) is.1 (ids_within b first e.branch e.listed is.0) in
      integers e.id more range.0 range.1

  in_probe : (q id at : ℕ) → IsProbeBy uses code m b.arg_slots q id at → InProbe b first form named code m image land lead q
      → IsProbeOf b first form named code m image land lead q id at
  in_probe q id at p i =
      let k = s.nothing_else.probes i.edge in
      let first_step = same_Some i.step 0 (sym (extra_at i.edge i.step i.four) ∙ sym (ap (slice_get m.extra) i.place) ∙ p.array.extra_is) in
      let there = i.place in
      let here : q ≡ place i.edge.branch = omega (arith, there, first_step) in
      record {
        edge = i.edge;
        id_is = one_number uses named.integer i.edge.id id (edge_named i.edge)
            (subst (λ insn. Pushes uses insn id) (same_Some p.pushing (push_by named.integer i.edge.id) (sym p.number.insn_is ∙ ap (λ x. slice_get code (x + 1)) here ∙ k.number.insn_is)) p.pushes);
        place = here;
        owner = same_Some at _ (sym p.array.at_is ∙ ap (slice_get m.at) here ∙ k.array.at_is);
      }

  pub probe_found : (q id at : ℕ) → IsProbeBy uses code m b.arg_slots q id at → IsProbeOf b first form named code m image land lead q id at
  probe_found q id at p = by (s.nothing_else.others q (slice_get_within code q (aload b.arg_slots) p.array.insn_is))
    where
      by : (q < prelude_size form.fetch) ⊎ ((slice_get m.own q ≡ Some true) ⊎ IsAdded b first form named code m image land lead q)
          → IsProbeOf b first form named code m image land lead q id at
      by (inl low) = absurd (in_prelude form.fetch s.prelude.first_insns q id at low p)
      by (inr (inl own)) = let e = same_Some false true (sym p.array.own_is ∙ own) in absurd (false_true e)
        where
          false_true : false ≡ true → ⊥
          false_true e = cc
      by (inr (inr (inl i))) = in_probe q id at p i
      by (inr (inr (inr (inl h)))) = absurd (no_probe q id at (subst IsGoto (sym h.place) (behind_edge h.edge h.with_goto)) p)
      by (inr (inr (inr (inr w)))) = absurd (no_probe q id at (wide_goto q w) p)

  pub probe_once : (q r id at to : ℕ) → IsProbeBy uses code m b.arg_slots q id at → IsProbeBy uses code m b.arg_slots r id to → q ≡ r
  probe_once q r id at to p k =
      let e = probe_found q id at p in
      let f = probe_found r id to k in
      let x = probed_is b first e.edge.id e.edge.branch e.edge.probed in
      let y = probed_is b first f.edge.id f.edge.branch f.edge.probed in
      let same = one_edge b first e.edge.branch f.edge.branch e.edge.listed f.edge.listed x.0 y.0
      (x.1 ∙ e.id_is ∙ sym f.id_is ∙ sym y.1) in
      e.place ∙ ap place same ∙ sym f.place

-- ---- in the code of a twin

module _ (b : Body) (first : ℕ) (form : TwinForm) (named : TwinPlaces) (code : List Insn) (m : Marks) (uses : List Use) where
  pub probe_in : IsCode b.code → IsTwinCode b first form named code m → NamesIds b first uses named → HasEdges b first form named code m uses
  probe_in is_code is integers q id at p =
      probe_found b first form named code m (image_place m.own) (land_place b first m.own) (lead_place b first m.own) uses is_code is integers q id at p

  pub one_probe : IsCode b.code → IsTwinCode b first form named code m → NamesIds b first uses named → HasEachIdOnce uses code m b.arg_slots
  one_probe is_code is integers q r id at to p k =
      probe_once b first form named code m (image_place m.own) (land_place b first m.own) (lead_place b first m.own) uses is_code is integers q r id at to p k
