-- Each step of planning.
use Rattle.std.proofs.Common.{◌≡◌, ℕ, zero, suc, ◌+◌, ◌-◌, ◌<◌, ◌≤◌, Bool, false, ◌&&◌, ◌||◌, List, [], ◌∷◌, ◌++◌, length, take, get_or, map, Option, refl, sym, ap, ap₂, ◌∙◌, subst, arith}
use Rattle.std.specs.List.{count_by, AllByRecursion}
use Rattle.std.proofs.lemmas.Bool.{false_from_ne_true}
use Rattle.std.proofs.lemmas.List.{take_more, take_all}
use Rattle.std.proofs.lemmas.List.Elements.{All-get_or}
use Rattle.std.proofs.lemmas.List.Sums.{count_by-le-length, sum_by_more}
use Rattle.jc_bytes.specs.PlainLists.{map_from, numbers_from, places}
use Rattle.jc_methods.specs.Flow.{flow_of, targets_of, goes_on, is_fallen_into}
use Rattle.jc_methods.specs.InsnUse.{LeadsWithin}
use Rattle.jc_methods.specs.WellMade.{IsCode}
use Rattle.jc_methods.specs.declared.insn.Insn.{Insn}
use Rattle.jc_methods.specs.declared.insn.Flow.TheVariants as flows
use Rattle.jc_methods.specs.declared.body.Body.{Body}
use Rattle.jc_methods.proofs.FlowLaws.{falls_decided}
use Rattle.jc_plan.specs.declared.branch.Branch.{Branch}
use Rattle.jc_plan.specs.declared.branch.Way.{Way}
use Rattle.jc_plan.specs.declared.branch.Way.TheVariants.{Falls, Jumps, Switches, Exits}
use Rattle.jc_plan.specs.Edges.{branches_of, branches}
use Rattle.jc_plan.specs.Entries.{one_if, is_multi_target, is_invocation_line}
use Rattle.jc_plan.specs.Probed.{Position, position_of, is_before, is_probed_way, is_probed, probes_before, probe_count, id_if}
use Rattle.jc_plan.specs.Plan.{plan_of, lead_probe, out_probes}
use Rattle.jc_plan.specs.InsnFacts.{EntersWithin, has_probe, ids_from}
use Rattle.jc_plan.proofs.PlacesLaws.{mapped_at}
use Rattle.jc_plan.proofs.CountLaws.{count_cons, count_agree, each_mapped}
use Rattle.jc_plan.proofs.FlowLaws.{few_branches, branches_within}
use Rattle.jc_plan.proofs.NumberingLaws.{own_by, own, fallen_next, in_front, before_next}
use Rattle.jc_plan.proofs.PlannedProbesLaws.{none_before, behind_lead, out_ids}

-- ---- the instruction in front may go on

-- nothing falls out of the end of the code
no_end : (code : List Insn) → IsCode code → is_fallen_into code (length code) ≡ false
no_end code c = by (length code) refl (get_last code (length code - 1) (let some = c.some in omega arith))
  where
    get_last : (xs : List Insn) (i : ℕ) → i < length xs → (x : Insn) × (x ≡ get_or xs i x)
    get_last [] i lt = absurd (omega arith)
    get_last (x ∷ xs) zero lt = (x, refl)
    get_last (x ∷ xs) (suc i) lt = get_last xs i (omega arith)

    by : (n : ℕ) → length code ≡ n → (x : Insn) × (x ≡ get_or code (length code - 1) x) → is_fallen_into code n ≡ false
    by n size (x, is) =
        let some = c.some in
        let lt : length code - 1 < length code = omega arith in
        let e : n ≡ length code - 1 + 1 = omega (arith, size) in
        let all : code ≡ take (length code - 1) code ++ x ∷ [] =
        sym (take_all (length code - 1 + 1) code (omega arith)) ∙ take_more code (length code - 1) x lt ∙ ap (λ (z : Insn). take (length code - 1) code ++ z ∷ []) (sym is) in
        ap (is_fallen_into code) e
        ∙ fallen_next code (length code - 1) x lt is
        ∙ false_from_ne_true (goes_on (flow_of x)) (λ h. c.ends (take (length code - 1) code) x all ((falls_decided x).to h))

-- ---- marks of multi-targets

agree_by : (b : Body) (multi : List Bool) → multi ≡ map (is_multi_target b) (places b.code) → (x : Branch) → EntersWithin (length b.code) x → has_probe multi x.way ≡ own_by b x.way
agree_by b multi marks x within = by x.way within
  where
    at : (to : ℕ) → to < length b.code → get_or multi to false ≡ is_multi_target b to
    at to lt = ap (λ (l : List Bool). get_or l to false) marks ∙ mapped_at (is_multi_target b) (length b.code) to false lt

    by : (way : Way) → EntersWithin (length b.code) (record { at = 0; number = 0; way = way }) → has_probe multi way ≡ own_by b way
    by (Falls to) w = refl
    by (Jumps to) w = at to w
    by (Switches to) w = at to w
    by Exits w = refl

same_ids : (p q : Way → Bool) (next : ℕ) (xs : List Branch) → AllByRecursion (λ x. p x.way ≡ q x.way) xs → ids_from p next xs ≡ ids_from q next xs
same_ids p q next [] each = refl
same_ids p q next (x ∷ xs) each =
    ap₂ (λ (o : Option ℕ) (os : List (Option ℕ)). o ∷ os) (ap (λ (t : Bool). id_if t next) each.0)
    (ap (λ (t : Bool). ids_from p (next + one_if t) xs) each.0 ∙ same_ids p q (next + one_if (q x.way)) xs each.1)

-- one branch more

ids_put : (p : Way → Bool) (next : ℕ) (xs : List Branch) (x : Branch)
    → ids_from p next (xs ++ x ∷ []) ≡ ids_from p next xs ++ id_if (p x.way) (next + count_by (λ y. p y.way) xs) ∷ []
ids_put p next [] x = let e : next ≡ next + count_by (λ (y : Branch). p y.way) ([]) = omega arith in ap (λ (n : ℕ). id_if (p x.way) n ∷ []) e
ids_put p next (y ∷ ys) x =
    let e : next + one_if (p y.way) + count_by (λ z. p z.way) ys ≡ next + count_by (λ z. p z.way) (y ∷ ys) = omega (arith, count_cons (λ z. p z.way) y ys) in
    ap (λ (os : List (Option ℕ)). id_if (p y.way) next ∷ os)
    (ids_put p (next + one_if (p y.way)) ys x ∙ ap (λ (n : ℕ). ids_from p (next + one_if (p y.way)) ys ++ id_if (p x.way) n ∷ []) e)

pub ids_more : (p : Way → Bool) (next : ℕ) (xs : List Branch) (k : ℕ) (d : Branch) (now new : List (Option ℕ)) (taken : ℕ) → k < length xs
    → now ≡ ids_from p next (take k xs) → taken ≡ next + count_by (λ y. p y.way) (take k xs)
    → new ≡ now ++ id_if (p (get_or xs k d).way) taken ∷ [] → new ≡ ids_from p next (take (k + 1) xs)
ids_more p next xs k d now new taken lt before counted put =
    put
    ∙ ap₂ (λ (l : List (Option ℕ)) (n : ℕ). l ++ id_if (p (get_or xs k d).way) n ∷ []) before counted
    ∙ sym (ids_put p next (take k xs) (get_or xs k d))
    ∙ sym (ap (ids_from p next) (take_more xs k d lt))

pub taken_more : (p : Way → Bool) (next : ℕ) (xs : List Branch) (k : ℕ) (d : Branch) (taken new : ℕ) → k < length xs
    → taken ≡ next + count_by (λ y. p y.way) (take k xs) → new ≡ taken + one_if (p (get_or xs k d).way) → new ≡ next + count_by (λ y. p y.way) (take (k + 1) xs)
taken_more p next xs k d taken new lt before put = omega (arith, sum_by_more (λ y. one_if (p y.way)) xs k d lt, before, put)

-- the mark of the fall-through into an instruction
pub lead_marked : (b : Body) (multi : List Bool) (at : ℕ) (d falls calls marked : Bool) → at < length b.code → multi ≡ map (is_multi_target b) (places b.code)
    → falls ≡ is_fallen_into b.code at → calls ≡ is_invocation_line b at → marked ≡ (falls && (get_or multi at d || calls)) → marked ≡ is_probed_way b (Falls at)
lead_marked b multi at d falls calls marked lt marks fell called test =
    test
    ∙ ap₂ (λ (f c : Bool). f && (get_or multi at d || c)) fell called
    ∙ ap (λ (m : Bool). is_fallen_into b.code at && (m || is_invocation_line b at))
    (ap (λ (l : List Bool). get_or l at d) marks ∙ mapped_at (is_multi_target b) (length b.code) at d lt)

-- fewer probes than would wrap
pub few_probes : (b : Body) → IsCode b.code → (p : Position) → probes_before b p ≤ 131070
few_probes b code p =
    let few = code.few in
    omega (arith, count_by-le-length (λ x. is_probed b x && is_before (position_of x) p) (branches b.code), few_branches b.code)

pub none_first : (b : Body) (first : ℕ) → first ≡ first + probes_before b (record { at = 0; number = 0 })
none_first b first = let e = none_before b in omega (arith, e)

-- ---- one instruction

module _ (b : Body) (code : IsCode b.code) (first i : ℕ) (insn : Insn) (lt : i < length b.code) (is : insn ≡ get_or b.code i insn) where
  here_within : AllByRecursion (EntersWithin (length b.code)) (branches_of i insn)
  here_within =
      branches_within (length b.code) i (flow_of insn) (targets_of insn)
      (subst (LeadsWithin (length b.code)) (sym is) (All-get_or (LeadsWithin (length b.code)) b.code i insn lt code.places))

  module _ (multi : List Bool) (marks : multi ≡ map (is_multi_target b) (places b.code)) where
    agree : AllByRecursion (λ x. has_probe multi x.way ≡ own_by b x.way) (branches_of i insn)
    agree = each_mapped (EntersWithin (length b.code)) (λ x. has_probe multi x.way ≡ own_by b x.way) (branches_of i insn) (agree_by b multi marks) here_within

    -- the id behind the probe of the fall-through into the instruction
    behind : (next lead : ℕ) → next ≡ first + probes_before b (record { at = i; number = 0 }) → lead ≡ next + one_if (is_probed_way b (Falls i)) → lead ≡ first + in_front b i
    behind next lead before put = let e = behind_lead b i (omega (arith, lt)) in omega (arith, before, put, e)

    pub outs_here : (next lead : ℕ) (probes : List (Option ℕ)) → next ≡ first + probes_before b (record { at = i; number = 0 }) → lead ≡ next + one_if (is_probed_way b (Falls i))
        → probes ≡ ids_from (has_probe multi) lead (branches_of i insn) → probes ≡ out_probes b first i insn
    outs_here next lead probes before put listed =
        listed
        ∙ same_ids (has_probe multi) (own_by b) lead (branches_of i insn) agree
        ∙ ap (λ (n : ℕ). ids_from (own_by b) n (branches_of i insn)) (behind next lead before put)
        ∙ out_ids b first i insn lt is

    pub next_here : (next lead new : ℕ) → next ≡ first + probes_before b (record { at = i; number = 0 }) → lead ≡ next + one_if (is_probed_way b (Falls i))
        → new ≡ lead + count_by (λ x. has_probe multi x.way) (branches_of i insn) → new ≡ first + probes_before b (record { at = i + 1; number = 0 })
    next_here next lead new before put more =
        let e = behind next lead before put in
        let same = count_agree (λ x. has_probe multi x.way) (own b) (branches_of i insn) agree in
        let after = before_next b i insn lt is in
        omega (arith, more, e, same, after)

-- ---- the whole

pub planned : (b : Body) (first n next : ℕ) (lead : List (Option ℕ)) (out : List (List (Option ℕ))) → IsCode b.code → n ≤ length b.code → length b.code ≤ n
    → next ≡ first + probes_before b (record { at = n; number = 0 })
    → lead ≡ map (lead_probe b first) (numbers_from 0 n)
    → out ≡ map_from (out_probes b first) 0 (take n b.code)
    → record { lead = lead; out = out; next = next } ≡ plan_of b first
planned b first n next lead out code low high taken leads outs =
    let size : n ≡ length b.code = omega arith in
    let all : in_front b (length b.code) ≡ probe_count b = ap (count_by (is_probed b)) (ap branches (take_all (length b.code) b.code (omega arith))) in
    let none : one_if (is_probed_way b (Falls (length b.code))) ≡ 0 =
    ap (λ (t : Bool). one_if (t && (is_multi_target b (length b.code) || is_invocation_line b (length b.code)))) (no_end b.code code) in
    let before = behind_lead b (length b.code) (omega arith) in
    let moved : probes_before b (record { at = n; number = 0 }) ≡ probes_before b (record { at = length b.code; number = 0 }) = ap (λ (k : ℕ). probes_before b (record { at = k; number = 0 })) size in
    let last : next ≡ first + probe_count b = omega (arith, taken, all, none, before, moved) in
    let a : lead ≡ map (lead_probe b first) (places b.code) = leads ∙ ap (λ (k : ℕ). map (lead_probe b first) (numbers_from 0 k)) size in
    let o : out ≡ map_from (out_probes b first) 0 b.code = outs ∙ ap (map_from (out_probes b first) 0) (take_all n b.code high) in
    λ k. record { lead = a k; out = o k; next = last k }
