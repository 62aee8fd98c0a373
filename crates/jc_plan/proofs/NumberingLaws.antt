-- The ids of probes, one behind the other in code order.
use Rattle.std.proofs.Common.{◌≡◌, inl, inr, ⊎_elim, ℕ, suc, ◌+◌, ◌<◌, ◌≤◌, Bool, true, false, ◌&&◌, nat_lt, List, [], ◌∷◌, ◌++◌, length, take, drop, get_or, Some, refl, sym, ap, ◌∙◌, arith, add-one}
use Rattle.std.specs.Prelude.{slice_get}
use Rattle.std.specs.List.{count_by}
use Rattle.std.proofs.lemmas.Bool.{ltb-true, lt-ltb, false_from_ne_true, cases_lt}
use Rattle.std.proofs.lemmas.List.{length-take-le}
use Rattle.std.proofs.lemmas.Option.{slice_get-get_or}
use Rattle.jc_bytes.specs.PlainLists.{join_from}
use Rattle.jc_methods.specs.Flow.{flow_of, targets_of, goes_on, is_fallen_into}
use Rattle.jc_methods.specs.declared.insn.Insn.{Insn}
use Rattle.jc_methods.specs.declared.body.Body.{Body}
use Rattle.jc_bytes.proofs.BooleanLaws.{same_tests}
use Rattle.jc_plan.specs.declared.branch.Branch.{Branch}
use Rattle.jc_plan.specs.declared.branch.Way.{Way}
use Rattle.jc_plan.specs.declared.branch.Way.TheVariants.{Falls, Jumps, Switches, Exits}
use Rattle.jc_plan.specs.Edges.{branches_of, branches}
use Rattle.jc_plan.specs.Probed.{Position, position_by, position_of, is_before, is_probed_way, is_probed, probes_before}
use Rattle.jc_plan.proofs.PlacesLaws.{join_from_split}
use Rattle.jc_plan.proofs.CountLaws.{count_join, count_agree, count_none, each_mapped}
use Rattle.jc_plan.proofs.FlowLaws.{IsAt, GoesFrom, all_at}
use Rattle.jc_plan.proofs.IdsLaws.{before_to, before_from}

-- ---- the branches that have a probe at their own instruction

abbrev pub own_by : Body → Way → Bool
own_by b (Falls i) = false
own_by b way = is_probed_way b way

abbrev pub own : Body → Branch → Bool
own b x = own_by b x.way

-- ---- a sequence into an instruction

pub fallen_next : (code : List Insn) (i : ℕ) (x : Insn) → i < length code → x ≡ get_or code i x → is_fallen_into code (i + 1) ≡ goes_on (flow_of x)
fallen_next code i x lt is =
    ap (is_fallen_into code) (add-one i)
    ∙ fallen (slice_get-get_or code i x lt ∙ ap Some (sym is))
  where
    fallen : slice_get code i ≡ Some x → is_fallen_into code (suc i) ≡ goes_on (flow_of x)
    fallen h = rw h refl

-- ---- positions before one of an instruction

module _ (k i m : ℕ) where
  -- those of an instruction in front of it
  front_by : (way : Way) (at number : ℕ) → at ≡ k → GoesFrom k number way → k < i → is_before (position_by way at number) (record { at = i; number = 1 + m }) ≡ true
  front_by (Falls to) at number is goes lt =
      let e = goes.0 in
      before_from (record { at = to; number = 0 }) (record { at = i; number = 1 + m })
      (⊎_elim (λ less. record { is = inl less }) (λ more. let same : to ≡ i = omega arith in record { is = inr (same, omega arith) }) (cases_lt to i))
  front_by (Jumps to) at number is goes lt = before_from (record { at = at; number = 1 + number }) (record { at = i; number = 1 + m }) (record { is = inl (omega arith) })
  front_by (Switches to) at number is goes lt = before_from (record { at = at; number = 1 + number }) (record { at = i; number = 1 + m }) (record { is = inl (omega arith) })
  front_by Exits at number is goes lt = before_from (record { at = at; number = 1 + number }) (record { at = i; number = 1 + m }) (record { is = inl (omega arith) })

  -- those of an instruction behind it
  behind_by : (way : Way) (at number : ℕ) → at ≡ k → GoesFrom k number way → i < k → is_before (position_by way at number) (record { at = i; number = 1 + m }) ≡ false
  behind_by (Falls to) at number is goes lt =
      let e = goes.0 in
      false_from_ne_true (is_before (record { at = to; number = 0 }) (record { at = i; number = 1 + m }))
      (λ h. ⊎_elim (λ a. omega (arith, a)) (λ c. omega (arith, c.0)) (before_to (record { at = to; number = 0 }) (record { at = i; number = 1 + m }) h).is)
  behind_by (Jumps to) at number is goes lt = out at number is lt
    where
      out : (at number : ℕ) → at ≡ k → i < k → is_before (record { at = at; number = 1 + number }) (record { at = i; number = 1 + m }) ≡ false
      out at number is lt =
          false_from_ne_true (is_before (record { at = at; number = 1 + number }) (record { at = i; number = 1 + m }))
          (λ h. ⊎_elim (λ a. omega (arith, a)) (λ c. omega (arith, c.0)) (before_to (record { at = at; number = 1 + number }) (record { at = i; number = 1 + m }) h).is)
  behind_by (Switches to) at number is goes lt =
      false_from_ne_true (is_before (record { at = at; number = 1 + number }) (record { at = i; number = 1 + m }))
      (λ h. ⊎_elim (λ a. omega (arith, a)) (λ c. omega (arith, c.0)) (before_to (record { at = at; number = 1 + number }) (record { at = i; number = 1 + m }) h).is)
  behind_by Exits at number is goes lt =
      false_from_ne_true (is_before (record { at = at; number = 1 + number }) (record { at = i; number = 1 + m }))
      (λ h. ⊎_elim (λ a. omega (arith, a)) (λ c. omega (arith, c.0)) (before_to (record { at = at; number = 1 + number }) (record { at = i; number = 1 + m }) h).is)

-- those of the instruction itself, by their numbers
numbers_decide : (at i m number : ℕ) → at ≡ i → is_before (record { at = at; number = 1 + number }) (record { at = i; number = 1 + m }) ≡ nat_lt number m
numbers_decide at i m number is =
    same_tests (is_before (record { at = at; number = 1 + number }) (record { at = i; number = 1 + m })) (nat_lt number m)
    (λ h. lt-ltb number m (⊎_elim (λ a. absurd (omega (arith, a))) (λ c. omega (arith, c.1)) (before_to (record { at = at; number = 1 + number }) (record { at = i; number = 1 + m }) h).is))
    (λ h. let lt = ltb-true number m h in before_from (record { at = at; number = 1 + number }) (record { at = i; number = 1 + m }) (record { is = inr (is, omega (arith, lt)) }))

-- the sequence out of an instruction comes behind all its other branches
last_comes : (at to i number : ℕ) → at ≡ i → to ≡ i + 1 → is_before (record { at = at; number = 1 + number }) (record { at = to; number = 0 }) ≡ true
last_comes at to i number is e = before_from (record { at = at; number = 1 + number }) (record { at = to; number = 0 }) (record { is = inl (omega arith) })

-- ---- counts

module _ (b : Body) where
  abbrev counted : Position → Branch → Bool
  counted p x = is_probed b x && is_before (position_of x) p

  abbrev pub below : ℕ → Branch → Bool
  below m x = own b x && nat_lt x.number m

  and_true : (a t : Bool) → t ≡ true → (a && t) ≡ a
  and_true true t h = h
  and_true false t h = refl

  and_false : (a t : Bool) → t ≡ false → (a && t) ≡ false
  and_false true t h = h
  and_false false t h = refl

  -- how many probed edges the instructions in front of it have
  abbrev pub in_front : ℕ → ℕ
  in_front i = count_by (is_probed b) (join_from branches_of 0 (take i b.code))

  module _ (i m : ℕ) where
    all_front : (k : ℕ) (code : List Insn) → k + length code ≤ i
        → count_by (counted (record { at = i; number = 1 + m })) (join_from branches_of k code) ≡ count_by (is_probed b) (join_from branches_of k code)
    all_front k [] short = refl
    all_front k (x ∷ code) short =
        omega (
          arith,
          count_join (counted (record { at = i; number = 1 + m })) (branches_of k x) (join_from branches_of (k + 1) code),
          count_join (is_probed b) (branches_of k x) (join_from branches_of (k + 1) code),
          count_agree (counted (record { at = i; number = 1 + m })) (is_probed b) (branches_of k x)
              (each_mapped (IsAt k) (λ y. counted (record { at = i; number = 1 + m }) y ≡ is_probed b y) (branches_of k x)
              (λ y at. and_true (is_probed b y) (is_before (position_of y) (record { at = i; number = 1 + m })) (front_by k i m y.way y.at y.number at.at at.goes (omega arith)))
              (all_at k (flow_of x) (targets_of x))),
          all_front (k + 1) code (omega arith),
        )

    all_behind : (k : ℕ) (code : List Insn) → i < k → count_by (counted (record { at = i; number = 1 + m })) (join_from branches_of k code) ≡ 0
    all_behind k [] lt = refl
    all_behind k (x ∷ code) lt =
        omega (
          arith,
          count_join (counted (record { at = i; number = 1 + m })) (branches_of k x) (join_from branches_of (k + 1) code),
          count_none (counted (record { at = i; number = 1 + m })) (branches_of k x)
              (each_mapped (IsAt k) (λ y. counted (record { at = i; number = 1 + m }) y ≡ false) (branches_of k x)
              (λ y at. and_false (is_probed b y) (is_before (position_of y) (record { at = i; number = 1 + m })) (behind_by k i m y.way y.at y.number at.at at.goes lt))
              (all_at k (flow_of x) (targets_of x))),
          all_behind (k + 1) code (omega arith),
        )

    here_by : (way : Way) (at number : ℕ) → at ≡ i → GoesFrom i number way
        → (is_probed_way b way && is_before (position_by way at number) (record { at = i; number = 1 + m })) ≡ (own_by b way && nat_lt number m)
    here_by (Falls to) at number is goes =
        let e = goes.0 in
        and_false (is_probed_way b (Falls to)) (is_before (record { at = to; number = 0 }) (record { at = i; number = 1 + m }))
        (false_from_ne_true (is_before (record { at = to; number = 0 }) (record { at = i; number = 1 + m }))
        (λ h. ⊎_elim (λ a. omega (arith, a)) (λ c. omega (arith, c.0)) (before_to (record { at = to; number = 0 }) (record { at = i; number = 1 + m }) h).is))
    here_by (Jumps to) at number is goes = ap (λ t. is_probed_way b (Jumps to) && t) (numbers_decide at i m number is)
    here_by (Switches to) at number is goes = ap (λ t. is_probed_way b (Switches to) && t) (numbers_decide at i m number is)
    here_by Exits at number is goes = numbers_decide at i m number is

  -- the probes before one of an instruction's own
  pub before_own : (i m : ℕ) (x : Insn) → i < length b.code → x ≡ get_or b.code i x
      → probes_before b (record { at = i; number = 1 + m }) ≡ in_front i + count_by (below m) (branches_of i x)
  before_own i m x lt is =
      let p : Position = record { at = i; number = 1 + m } in
      let split : count_by (counted p) (branches b.code) ≡ count_by (counted p) (join_from branches_of 0 (take i b.code) ++ (branches_of i x ++ join_from branches_of (i + 1) (drop (suc i) b.code)))
      = ap (count_by (counted p)) (join_from_split branches_of b.code i x lt is) in
      let size : length (take i b.code) ≡ i = length-take-le i b.code (omega arith) in
      let first = count_join (counted p) (join_from branches_of 0 (take i b.code)) (branches_of i x ++ join_from branches_of (i + 1) (drop (suc i) b.code)) in
      let second = count_join (counted p) (branches_of i x) (join_from branches_of (i + 1) (drop (suc i) b.code)) in
      let front = all_front i m 0 (take i b.code) (omega (arith, size)) in
      let here = count_agree (counted p) (below m) (branches_of i x)
      (each_mapped (IsAt i) (λ y. counted p y ≡ below m y) (branches_of i x) (λ y at. here_by i m y.way y.at y.number at.at at.goes) (all_at i (flow_of x) (targets_of x))) in
      let behind = all_behind i m (i + 1) (drop (suc i) b.code) (omega arith) in
      omega (arith, split, first, second, front, here, behind)

  -- ---- the sequence into the next instruction

  next_by : (i : ℕ) (way : Way) (at number : ℕ) → at ≡ i → GoesFrom i number way
      → (is_probed_way b way && is_before (position_by way at number) (record { at = i + 1; number = 0 })) ≡ own_by b way
  next_by i (Falls to) at number is goes =
      let e = goes.0 in
      and_false (is_probed_way b (Falls to)) (is_before (record { at = to; number = 0 }) (record { at = i + 1; number = 0 }))
      (false_from_ne_true (is_before (record { at = to; number = 0 }) (record { at = i + 1; number = 0 }))
      (λ h. ⊎_elim (λ a. omega (arith, a)) (λ c. omega (arith, c.1)) (before_to (record { at = to; number = 0 }) (record { at = i + 1; number = 0 }) h).is))
  next_by i (Jumps to) at number is goes =
      and_true (is_probed_way b (Jumps to)) (is_before (record { at = at; number = 1 + number }) (record { at = i + 1; number = 0 }))
      (last_comes at (i + 1) i number is refl)
  next_by i (Switches to) at number is goes = and_true (is_probed_way b (Switches to))
      (is_before (record { at = at; number = 1 + number }) (record { at = i + 1; number = 0 })) (last_comes at (i + 1) i number is refl)
  next_by i Exits at number is goes = last_comes at (i + 1) i number is refl

  module _ (i : ℕ) where
    front_next : (k : ℕ) (way : Way) (at number : ℕ) → at ≡ k → GoesFrom k number way → k < i → is_before (position_by way at number) (record { at = i + 1; number = 0 }) ≡ true
    front_next k (Falls to) at number is goes lt = let e = goes.0 in before_from (record { at = to; number = 0 }) (record { at = i + 1; number = 0 }) (record { is = inl (omega arith) })
    front_next k (Jumps to) at number is goes lt = before_from (record { at = at; number = 1 + number }) (record { at = i + 1; number = 0 }) (record { is = inl (omega arith) })
    front_next k (Switches to) at number is goes lt = before_from (record { at = at; number = 1 + number }) (record { at = i + 1; number = 0 }) (record { is = inl (omega arith) })
    front_next k Exits at number is goes lt = before_from (record { at = at; number = 1 + number }) (record { at = i + 1; number = 0 }) (record { is = inl (omega arith) })

    apart : (at number : ℕ) → i + 1 ≤ at → is_before (record { at = at; number = number }) (record { at = i + 1; number = 0 }) ≡ false
    apart at number le =
        false_from_ne_true (is_before (record { at = at; number = number }) (record { at = i + 1; number = 0 }))
        (λ h. ⊎_elim (λ a. omega (arith, a)) (λ c. omega (arith, c.1)) (before_to (record { at = at; number = number }) (record { at = i + 1; number = 0 }) h).is)

    behind_next : (k : ℕ) (way : Way) (at number : ℕ) → at ≡ k → GoesFrom k number way → i < k → is_before (position_by way at number) (record { at = i + 1; number = 0 }) ≡ false
    behind_next k (Falls to) at number is goes lt = let e = goes.0 in apart to 0 (omega arith)
    behind_next k (Jumps to) at number is goes lt = apart at (1 + number) (omega arith)
    behind_next k (Switches to) at number is goes lt = apart at (1 + number) (omega arith)
    behind_next k Exits at number is goes lt = apart at (1 + number) (omega arith)

    all_front_next : (k : ℕ) (code : List Insn) → k + length code ≤ i
        → count_by (counted (record { at = i + 1; number = 0 })) (join_from branches_of k code) ≡ count_by (is_probed b) (join_from branches_of k code)
    all_front_next k [] short = refl
    all_front_next k (x ∷ code) short =
        omega (
          arith,
          count_join (counted (record { at = i + 1; number = 0 })) (branches_of k x) (join_from branches_of (k + 1) code),
          count_join (is_probed b) (branches_of k x) (join_from branches_of (k + 1) code),
          count_agree (counted (record { at = i + 1; number = 0 })) (is_probed b) (branches_of k x)
              (each_mapped (IsAt k) (λ y. counted (record { at = i + 1; number = 0 }) y ≡ is_probed b y) (branches_of k x)
              (λ y at. and_true (is_probed b y) (is_before (position_of y) (record { at = i + 1; number = 0 })) (front_next k y.way y.at y.number at.at at.goes (omega arith)))
              (all_at k (flow_of x) (targets_of x))),
          all_front_next (k + 1) code (omega arith),
        )

    all_behind_next : (k : ℕ) (code : List Insn) → i < k → count_by (counted (record { at = i + 1; number = 0 })) (join_from branches_of k code) ≡ 0
    all_behind_next k [] lt = refl
    all_behind_next k (x ∷ code) lt =
        omega (
          arith,
          count_join (counted (record { at = i + 1; number = 0 })) (branches_of k x) (join_from branches_of (k + 1) code),
          count_none (counted (record { at = i + 1; number = 0 })) (branches_of k x)
              (each_mapped (IsAt k) (λ y. counted (record { at = i + 1; number = 0 }) y ≡ false) (branches_of k x)
              (λ y at. and_false (is_probed b y) (is_before (position_of y) (record { at = i + 1; number = 0 })) (behind_next k y.way y.at y.number at.at at.goes lt))
              (all_at k (flow_of x) (targets_of x))),
          all_behind_next (k + 1) code (omega arith),
        )

  -- the probes before that of the fall-through into the next instruction
  pub before_next : (i : ℕ) (x : Insn) → i < length b.code → x ≡ get_or b.code i x
      → probes_before b (record { at = i + 1; number = 0 }) ≡ in_front i + count_by (own b) (branches_of i x)
  before_next i x lt is =
      let p : Position = record { at = i + 1; number = 0 } in
      let split : count_by (counted p) (branches b.code) ≡ count_by (counted p) (join_from branches_of 0 (take i b.code) ++ (branches_of i x ++ join_from branches_of (i + 1) (drop (suc i) b.code)))
      = ap (count_by (counted p)) (join_from_split branches_of b.code i x lt is) in
      let size : length (take i b.code) ≡ i = length-take-le i b.code (omega arith) in
      let first = count_join (counted p) (join_from branches_of 0 (take i b.code)) (branches_of i x ++ join_from branches_of (i + 1) (drop (suc i) b.code)) in
      let second = count_join (counted p) (branches_of i x) (join_from branches_of (i + 1) (drop (suc i) b.code)) in
      let front = all_front_next i 0 (take i b.code) (omega (arith, size)) in
      let here = count_agree (counted p) (own b) (branches_of i x)
      (each_mapped (IsAt i) (λ y. counted p y ≡ own b y) (branches_of i x) (λ y at. next_by i y.way y.at y.number at.at at.goes) (all_at i (flow_of x) (targets_of x))) in
      let behind = all_behind_next i (i + 1) (drop (suc i) b.code) (omega arith) in
      omega (arith, split, first, second, front, here, behind)
