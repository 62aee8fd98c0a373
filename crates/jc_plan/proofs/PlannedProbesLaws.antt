-- The probes of a plan, one behind the other.
use Rattle.std.proofs.Common.{◌≡◌, ⊎_elim, ℕ, zero, suc, ◌+◌, ◌<◌, ◌≤◌, Bool, true, false, ◌&&◌, ◌||◌, nat_lt, List, [], ◌∷◌, ◌++◌, length, take, get_or, map, Option, Some, refl, sym, ap, ap₂, ◌∙◌, subst, arith, add-one, append_assoc}
use Rattle.std.specs.List.{count_by, AllByRecursion}
use Rattle.std.proofs.lemmas.Bool.{lt-ltb, le-ltb}
use Rattle.jc_bytes.specs.PlainLists.{map_from, join_from}
use Rattle.jc_bytes.specs.FirstSeen.{first_seen}
use Rattle.jc_methods.specs.Flow.{flow_of, targets_of, goes_on, is_fallen_into}
use Rattle.jc_methods.specs.declared.insn.Insn.{Insn}
use Rattle.jc_methods.specs.declared.insn.Flow.{Flow}
use Rattle.jc_methods.specs.declared.insn.Flow.TheVariants as flows
use Rattle.jc_methods.specs.declared.body.Body.{Body}
use Rattle.jc_plan.specs.declared.branch.Branch.{Branch}
use Rattle.jc_plan.specs.declared.branch.Way.{Way}
use Rattle.jc_plan.specs.declared.branch.Way.TheVariants.{Falls, Jumps, Switches, Exits}
use Rattle.jc_plan.specs.Edges.{sequence, jump, arm, exit, branches_by, branches_of, branches}
use Rattle.jc_plan.specs.Entries.{one_if, is_multi_target, is_invocation_line}
use Rattle.jc_plan.specs.Probed.{Position, position_of, is_before, is_probed_way, is_probed, probes_before, id_if}
use Rattle.jc_plan.specs.Plan.{out_probe}
use Rattle.jc_plan.specs.InsnFacts.{ids_from}
use Rattle.jc_plan.proofs.PlacesLaws.{join_from_more}
use Rattle.jc_plan.proofs.CountLaws.{count_cons, count_join, count_put, count_agree, count_none, each_mapped}
use Rattle.jc_plan.proofs.FlowLaws.{IsAt, all_at, IsRising, all_rise, has_targets}
use Rattle.jc_plan.proofs.IdsLaws.{before_to}
use Rattle.jc_plan.proofs.NumberingLaws.{own_by, own, fallen_next, in_front, below, before_own, before_next}

-- ---- lists in which numbers rise

-- those before an item have smaller numbers, and it and those behind it have no smaller one
rising_parts : (first : ℕ) (pre : List Branch) (x : Branch) (post : List Branch) → IsRising first (pre ++ x ∷ post)
    → (first ≤ x.number) × AllByRecursion (λ y. y.number < x.number) pre × AllByRecursion (λ y. x.number ≤ y.number) (x ∷ post)
rising_parts first [] x post r = (r.0, tt, (omega arith, behind (x.number + 1) x.number post (omega arith) r.1))
  where
    behind : (first low : ℕ) (ys : List Branch) → low ≤ first → IsRising first ys → AllByRecursion (λ y. low ≤ y.number) ys
    behind first low [] le r = tt
    behind first low (y ∷ ys) le r = let f = r.0 in (omega arith, behind (y.number + 1) low ys (omega arith) r.1)
rising_parts first (y ∷ pre) x post r =
    let more = rising_parts (y.number + 1) pre x post r.1 in
    let f = r.0 in
    let a = more.0 in
    (omega arith, (omega arith, more.1), more.2)

module _ (b : Body) where
  -- as many of a rising list as stand before an item have a smaller number
  pub count_below : (pre : List Branch) (x : Branch) (post : List Branch) → IsRising 0 (pre ++ x ∷ post)
      → count_by (below b x.number) (pre ++ x ∷ post) ≡ count_by (own b) pre
  count_below pre x post r =
      let parts = rising_parts 0 pre x post r in
      let join = count_join (below b x.number) pre (x ∷ post) in
      let front = count_agree (below b x.number) (own b) pre
      (each_mapped (λ y. y.number < x.number) (λ y. below b x.number y ≡ own b y) pre (λ y lt. less (own b y) (nat_lt y.number x.number) (lt-ltb y.number x.number lt)) parts.1) in
      let rest = count_none (below b x.number) (x ∷ post)
      (each_mapped (λ y. x.number ≤ y.number) (λ y. below b x.number y ≡ false) (x ∷ post) (λ y le. more (own b y) (nat_lt y.number x.number) (le-ltb y.number x.number le)) parts.2) in
      omega (arith, join, front, rest)
    where
      less : (a t : Bool) → t ≡ true → (a && t) ≡ a
      less true t h = h
      less false t h = refl

      more : (a t : Bool) → t ≡ false → (a && t) ≡ false
      more true t h = h
      more false t h = refl

  -- ---- the sequence out of an instruction

  abbrev lead : ℕ → ℕ
  lead i = one_if (is_probed_way b (Falls i))

  own_jumps : (k : ℕ) (targets : List ℕ) → count_by (is_probed b) (map (jump k) targets) ≡ count_by (own b) (map (jump k) targets)
  own_jumps k [] = refl
  own_jumps k (to ∷ targets) = omega (arith, count_cons (is_probed b) (jump k to) (map (jump k) targets), count_cons (own b) (jump k to) (map (jump k) targets), own_jumps k targets)

  own_arms : (k n : ℕ) (targets : List ℕ) → count_by (is_probed b) (map_from (arm k) n targets) ≡ count_by (own b) (map_from (arm k) n targets)
  own_arms k n [] = refl
  own_arms k n (to ∷ targets) =
      omega (
        arith,
        count_cons (is_probed b) (arm k n to) (map_from (arm k) (n + 1) targets),
        count_cons (own b) (arm k n to) (map_from (arm k) (n + 1) targets),
        own_arms k (n + 1) targets,
      )

  -- where nothing falls into the next instruction, that has no probe of a fall-through
  no_lead : (i : ℕ) → is_fallen_into b.code i ≡ false → lead i ≡ 0
  no_lead i h = ap (λ (t : Bool). one_if (t && (is_multi_target b i || is_invocation_line b i))) h

  probed_by : (flow : Flow) (k : ℕ) (targets : List ℕ) → is_fallen_into b.code (k + 1) ≡ goes_on flow
      → count_by (is_probed b) (branches_by flow k targets) ≡ count_by (own b) (branches_by flow k targets) + lead (k + 1)
  probed_by flows.GoesOn k targets h = omega (arith, count_cons (is_probed b) (sequence k) [], count_cons (own b) (sequence k) [])
  probed_by flows.Branches k targets h =
      omega (arith, count_cons (is_probed b) (sequence k) (map (jump k) targets), count_cons (own b) (sequence k) (map (jump k) targets), own_jumps k targets)
  probed_by flows.Jumps k targets h = omega (arith, own_jumps k targets, no_lead (k + 1) h)
  probed_by flows.Switches k targets h = omega (arith, own_arms k 0 (first_seen targets), no_lead (k + 1) h)
  probed_by flows.Returns k targets h = omega (arith, count_cons (is_probed b) (exit k) [], count_cons (own b) (exit k) [], no_lead (k + 1) h)
  probed_by flows.Throws k targets h = omega (arith, count_cons (is_probed b) (exit k) [], count_cons (own b) (exit k) [], no_lead (k + 1) h)

  -- the probed edges of one instruction more
  pub in_front_more : (i : ℕ) (x : Insn) → i < length b.code → x ≡ get_or b.code i x
      → in_front b (i + 1) ≡ in_front b i + count_by (own b) (branches_of i x) + lead (i + 1)
  in_front_more i x lt is =
      let more : in_front b (i + 1) ≡ count_by (is_probed b) (join_from branches_of 0 (take i b.code) ++ branches_of i x) = ap (count_by (is_probed b)) (join_from_more branches_of b.code i x lt is) in
      let join = count_join (is_probed b) (join_from branches_of 0 (take i b.code)) (branches_of i x) in
      let one = probed_by (flow_of x) i (targets_of x) (fallen_next b.code i x lt is) in
      omega (arith, more, join, one)

  -- ---- ids one behind the other

  nothing : (s t : Bool) → (t ≡ true → ⊥) → one_if (s && t) ≡ 0
  nothing true true h = absurd (h refl)
  nothing true false h = refl
  nothing false t h = refl

  abbrev pub at_first : Position
  at_first = record { at = 0; number = 0 }

  none_in : (xs : List Branch) → count_by (λ x. is_probed b x && is_before (position_of x) at_first) xs ≡ 0
  none_in [] = refl
  none_in (x ∷ xs) =
      let one : one_if (is_probed b x && is_before (position_of x) at_first) ≡ 0 = nothing (is_probed b x) (is_before (position_of x) at_first)
      (λ h. ⊎_elim (λ a. omega (arith, a)) (λ c. omega (arith, c.1)) (before_to (position_of x) at_first h).is) in
      omega (arith, count_cons (λ y. is_probed b y && is_before (position_of y) at_first) x xs, one, none_in xs)

  pub none_before : probes_before b at_first ≡ 0
  none_before = none_in (branches b.code)

  -- behind the probe of the fall-through into an instruction
  pub behind_lead : (i : ℕ) → i ≤ length b.code → probes_before b (record { at = i; number = 0 }) + lead i ≡ in_front b i
  behind_lead zero le = omega (arith, none_before)
  behind_lead (suc i) le =
      let lt : i < length b.code = omega arith in
      at_next (get_some b.code i lt)
    where
      get_some : (code : List Insn) (i : ℕ) → i < length code → (x : Insn) × (x ≡ get_or code i x)
      get_some [] i lt = absurd (omega arith)
      get_some (x ∷ code) zero lt = (x, refl)
      get_some (x ∷ code) (suc i) lt = get_some code i (omega arith)

      at_next : (x : Insn) × (x ≡ get_or b.code i x) → probes_before b (record { at = suc i; number = 0 }) + lead (suc i) ≡ in_front b (suc i)
      at_next (x, is) =
          subst (λ (k : ℕ). probes_before b (record { at = k; number = 0 }) + lead k ≡ in_front b k) (add-one i)
          (omega (arith, before_next b i x (omega arith) is, in_front_more i x (omega arith) is))

  -- all ids of an instruction's branches
  ids_walk : (first i : ℕ) (insn : Insn) → i < length b.code → insn ≡ get_or b.code i insn → (pre ys : List Branch) → branches_of i insn ≡ pre ++ ys
      → AllByRecursion (IsAt i) ys
      → ids_from (own_by b) (first + (in_front b i + count_by (own b) pre)) ys ≡ map (out_probe b first) ys
  ids_walk first i insn lt is pre [] all at = refl
  ids_walk first i insn lt is pre (x ∷ ys) all at =
      ap₂ (λ (o : Option ℕ) (os : List (Option ℕ)). o ∷ os) (head x.way refl)
      (ap (λ (n : ℕ). ids_from (own_by b) n ys) next
      ∙ ids_walk first i insn lt is (pre ++ x ∷ []) ys (all ∙ sym (append_assoc pre (x ∷ []) ys)) at.1)
    where
      next : first + (in_front b i + count_by (own b) pre) + one_if (own b x) ≡ first + (in_front b i + count_by (own b) (pre ++ x ∷ []))
      next = omega (arith, count_put (own b) pre x)

      rising : IsRising 0 (pre ++ x ∷ ys)
      rising = subst (IsRising 0) all (all_rise (flow_of insn) i (targets_of insn) (has_targets insn))

      id : probes_before b (record { at = x.at; number = 1 + x.number }) ≡ in_front b i + count_by (own b) pre
      id =
          ap (λ (k : ℕ). probes_before b (record { at = k; number = 1 + x.number })) at.0.at
          ∙ before_own b i x.number insn lt is
          ∙ ap (λ (n : ℕ). in_front b i + n) (ap (count_by (below b x.number)) all ∙ count_below pre x ys rising)

      head : (way : Way) → x.way ≡ way → id_if (own_by b x.way) (first + (in_front b i + count_by (own b) pre)) ≡ out_probe b first x
      head (Falls to) e = rw e refl
      head (Jumps to) e = rw e (ap (λ (n : ℕ). id_if (is_multi_target b to) (first + n)) (sym id))
      head (Switches to) e = rw e (ap (λ (n : ℕ). id_if (is_multi_target b to) (first + n)) (sym id))
      head Exits e = rw e (ap (λ (n : ℕ). Some (first + n)) (sym id))

  pub out_ids : (first i : ℕ) (insn : Insn) → i < length b.code → insn ≡ get_or b.code i insn
      → ids_from (own_by b) (first + in_front b i) (branches_of i insn) ≡ map (out_probe b first) (branches_of i insn)
  out_ids first i insn lt is =
      let e : first + in_front b i ≡ first + (in_front b i + count_by (own b) ([])) = omega arith in
      ap (λ (n : ℕ). ids_from (own_by b) n (branches_of i insn)) e
      ∙ ids_walk first i insn lt is [] (branches_of i insn) refl (all_at i (flow_of insn) (targets_of insn))
