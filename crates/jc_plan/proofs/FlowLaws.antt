-- What the flow of an instruction says of its branches.
use Rattle.std.proofs.Common.{◌≡◌, ℕ, zero, suc, ◌+◌, ◌*◌, ◌<◌, ◌≤◌, Bool, true, false, not, ◌||◌, cond, nat_eq, List, [], ◌∷◌, ◌++◌, length, take, filter, get_or, map, refl, sym, ap, ◌∙◌, subst, arith}
use Rattle.std.specs.Prelude.{⊤}
use Rattle.std.specs.List.{count_by, list_any, AllByRecursion}
use Rattle.std.specs.Cmp.{nat_eq_equiv}
use Rattle.std.proofs.lemmas.Bool.{eqb-true, false_from_ne_true}
use Rattle.std.proofs.lemmas.Map.Views.{Contains-from_any}
use Rattle.std.proofs.lemmas.List.Sums.{sum_by-cons, get_or-le-sum_by}
use Rattle.jc_bytes.specs.PlainLists.{map_from, join_from}
use Rattle.jc_bytes.specs.FirstSeen.{first_seen, IsDistinct}
use Rattle.jc_methods.specs.Flow.{flow_of, targets_of, jump_target}
use Rattle.jc_methods.specs.Insn.{arm_count}
use Rattle.jc_methods.specs.InsnUse.{LeadsWithin}
use Rattle.jc_methods.specs.WellMade.{insns_and_arms}
use Rattle.jc_methods.specs.declared.insn.Arm.{Arm}
use Rattle.jc_methods.specs.declared.insn.Insn.{Insn}
use Rattle.jc_methods.specs.declared.insn.Insn.TheVariants as insns
use Rattle.jc_methods.specs.declared.insn.Flow.{Flow}
use Rattle.jc_methods.specs.declared.insn.Flow.TheVariants as flows
use Rattle.jc_methods.proofs.ByFlowLaws.{IsBy, insn_by, jump_targets, nowhere_targets}
use Rattle.jc_bytes.proofs.FirstSeenLaws.{first_seen_distinct, any_first_seen}
use Rattle.jc_plan.specs.declared.branch.Branch.{Branch}
use Rattle.jc_plan.specs.declared.branch.Way.{Way}
use Rattle.jc_plan.specs.declared.branch.Way.TheVariants.{Falls}
use Rattle.jc_plan.specs.Edges.{sequence, jump, arm, branches_by, branches_of, branches}
use Rattle.jc_plan.specs.Entries.{one_if, leads_to}
use Rattle.jc_plan.specs.InsnFacts.{enters, EntersWithin}
use Rattle.jc_plan.proofs.CountLaws.{count_cons, count_one, count_join, each_joined}

-- ---- targets

-- goto and a conditional jump have one target, and what isn't a jump or a switch has none
abbrev pub HasTargets : Flow → List ℕ → Type 0
HasTargets flows.GoesOn targets = targets ≡ []
HasTargets flows.Branches targets = (to : ℕ) × (targets ≡ to ∷ [])
HasTargets flows.Jumps targets = (to : ℕ) × (targets ≡ to ∷ [])
HasTargets flows.Switches targets = ⊤
HasTargets flows.Returns targets = targets ≡ []
HasTargets flows.Throws targets = targets ≡ []

pub has_targets : (insn : Insn) → HasTargets (flow_of insn) (targets_of insn)
has_targets insn = by (flow_of insn) (insn_by insn refl)
  where
    by : (flow : Flow) → IsBy flow insn → HasTargets flow (targets_of insn)
    by flows.Branches jump = (jump_target insn, jump_targets insn jump)
    by flows.Jumps jump = (jump_target insn, jump_targets insn jump)
    by flows.Switches switch = tt
    by flows.GoesOn nowhere = nowhere_targets insn nowhere
    by flows.Returns nowhere = nowhere_targets insn nowhere
    by flows.Throws nowhere = nowhere_targets insn nowhere

-- ---- where branches stand

-- how a branch of the instruction at k goes on: a sequence is its branch 0 and leads to the next one
abbrev pub GoesFrom : ℕ → ℕ → Way → Type 0
GoesFrom k number (Falls to) = (to ≡ k + 1) × (number ≡ 0)
GoesFrom k number _ = ⊤

pub record IsAt (k : ℕ) (x : Branch) : Type 0 where
  pub at : x.at ≡ k
  pub goes : GoesFrom k x.number x.way

module _ (k : ℕ) where
  jumps_at : (targets : List ℕ) → AllByRecursion (IsAt k) (map (jump k) targets)
  jumps_at [] = tt
  jumps_at (to ∷ targets) = (record { at = refl; goes = tt }, jumps_at targets)

  arms_at : (n : ℕ) (targets : List ℕ) → AllByRecursion (IsAt k) (map_from (arm k) n targets)
  arms_at n [] = tt
  arms_at n (to ∷ targets) = (record { at = refl; goes = tt }, arms_at (n + 1) targets)

  pub all_at : (flow : Flow) (targets : List ℕ) → AllByRecursion (IsAt k) (branches_by flow k targets)
  all_at flows.GoesOn targets = (record { at = refl; goes = (refl, refl) }, tt)
  all_at flows.Branches targets = (record { at = refl; goes = (refl, refl) }, jumps_at targets)
  all_at flows.Jumps targets = jumps_at targets
  all_at flows.Switches targets = arms_at 0 (first_seen targets)
  all_at flows.Returns targets = (record { at = refl; goes = tt }, tt)
  all_at flows.Throws targets = (record { at = refl; goes = tt }, tt)

-- ---- numbers rise

abbrev pub IsRising : ℕ → List Branch → Type 0
IsRising first [] = ⊤
IsRising first (x ∷ xs) = (first ≤ x.number) × IsRising (x.number + 1) xs

arms_rise : (k n : ℕ) (targets : List ℕ) → IsRising n (map_from (arm k) n targets)
arms_rise k n [] = tt
arms_rise k n (to ∷ targets) = (omega arith, arms_rise k (n + 1) targets)

pub all_rise : (flow : Flow) (k : ℕ) (targets : List ℕ) → HasTargets flow targets → IsRising 0 (branches_by flow k targets)
all_rise flows.GoesOn k targets has = (omega arith, tt)
all_rise flows.Branches k targets has = subst (λ (l : List ℕ). IsRising 0 (sequence k ∷ map (jump k) l)) (sym has.1) (omega arith, (omega arith, tt))
all_rise flows.Jumps k targets has = subst (λ (l : List ℕ). IsRising 0 (map (jump k) l)) (sym has.1) (omega arith, tt)
all_rise flows.Switches k targets has = arms_rise k 0 (first_seen targets)
all_rise flows.Returns k targets has = (omega arith, tt)
all_rise flows.Throws k targets has = (omega arith, tt)

-- ---- how many there are

length_jumps : (k : ℕ) (targets : List ℕ) → length (map (jump k) targets) ≡ length targets
length_jumps k [] = refl
length_jumps k (to ∷ targets) = let e = length_jumps k targets in omega (arith, e)

length_arms : (k n : ℕ) (targets : List ℕ) → length (map_from (arm k) n targets) ≡ length targets
length_arms k n [] = refl
length_arms k n (to ∷ targets) = let e = length_arms k (n + 1) targets in omega (arith, e)

length_kept : (p : ℕ → Bool) (xs : List ℕ) → length (filter p xs) ≤ length xs
length_kept p [] = omega arith
length_kept p (x ∷ xs) = by (p x) (length_kept p xs)
  where
    by : (b : Bool) → length (filter p xs) ≤ length xs → length (cond b (x ∷ filter p xs) (filter p xs)) ≤ length (x ∷ xs)
    by true h = omega (arith, h)
    by false h = omega (arith, h)

pub length_seen : (xs : List ℕ) → length (first_seen xs) ≤ length xs
length_seen [] = omega arith
length_seen (x ∷ xs) = omega (arith, length_kept (λ y. not (nat_eq x y)) (first_seen xs), length_seen xs)

length_branches : (flow : Flow) (k : ℕ) (targets : List ℕ) → length (branches_by flow k targets) ≤ 1 + length targets
length_branches flows.GoesOn k targets = omega arith
length_branches flows.Branches k targets = omega (arith, length_jumps k targets)
length_branches flows.Jumps k targets = omega (arith, length_jumps k targets)
length_branches flows.Switches k targets = omega (arith, length_arms k 0 (first_seen targets), length_seen targets)
length_branches flows.Returns k targets = omega arith
length_branches flows.Throws k targets = omega arith

length_places : (arms : List Arm) → length (map (λ (a : Arm). a.to) arms) ≡ length arms
length_places [] = refl
length_places (a ∷ arms) = let e = length_places arms in omega (arith, e)

pub few_targets : (insn : Insn) → length (targets_of insn) ≤ 1 + arm_count insn
few_targets (insns.Jump op to) = omega arith
few_targets (insns.Table low default arms) = omega arith
few_targets (insns.Lookup default arms) = omega (arith, length_places arms)
few_targets _ = omega arith

pub few_of : (k : ℕ) (insn : Insn) → length (branches_of k insn) ≤ 2 + arm_count insn
few_of k insn = omega (arith, length_branches (flow_of insn) k (targets_of insn), few_targets insn)

abbrev sizes : Insn → ℕ
sizes insn = 1 + arm_count insn

pub few_at : (code : List Insn) (i : ℕ) (x : Insn) → i < length code → x ≡ get_or code i x → 1 + arm_count x ≤ insns_and_arms code
few_at code i x lt is = subst (λ (y : Insn). 1 + arm_count y ≤ insns_and_arms code) (sym is) (get_or-le-sum_by sizes code i x lt)

pub length_join : {Y : Type 0} (xs ys : List Y) → length (xs ++ ys) ≡ length xs + length ys
length_join [] ys = omega arith
length_join (x ∷ xs) ys = omega (arith, length_join xs ys)

few_from : (k : ℕ) (code : List Insn) → length (join_from branches_of k code) ≤ 2 * insns_and_arms code
few_from k [] = omega arith
few_from k (x ∷ code) = omega (arith, length_join (branches_of k x) (join_from branches_of (k + 1) code), few_of k x, few_from (k + 1) code, sum_by-cons sizes x code)

pub few_branches : (code : List Insn) → length (branches code) ≤ 2 * insns_and_arms code
few_branches code = few_from 0 code

-- the branches of the first instructions are as many at most
pub few_in_front : (k n : ℕ) (code : List Insn) → length (join_from branches_of k (take n code)) ≤ length (join_from branches_of k code)
few_in_front k zero code = omega arith
few_in_front k (suc n) [] = omega arith
few_in_front k (suc n) (x ∷ code) =
    omega (
      arith,
      length_join (branches_of k x) (join_from branches_of (k + 1) (take n code)),
      length_join (branches_of k x) (join_from branches_of (k + 1) code),
      few_in_front (k + 1) n code,
    )

-- ---- entries

-- distinct numbers have an equal one once or not at all
count_distinct : (xs : List ℕ) (i : ℕ) → IsDistinct xs → count_by (λ x. nat_eq x i) xs ≡ one_if (list_any (nat_eq i) xs)
count_distinct [] i d = refl
count_distinct (x ∷ xs) i d = count_cons (λ y. nat_eq y i) x xs ∙ by (nat_eq x i) refl (count_distinct xs i d.1)
  where
    by : (b : Bool) → nat_eq x i ≡ b → count_by (λ y. nat_eq y i) xs ≡ one_if (list_any (nat_eq i) xs)
        → one_if (nat_eq x i) + count_by (λ y. nat_eq y i) xs ≡ one_if (list_any (nat_eq i) (x ∷ xs))
    by true is rest =
        let other : nat_eq i x ≡ true = nat_eq_equiv.symm i x ∙ is in
        let gone : list_any (nat_eq i) xs ≡ false = false_from_ne_true (list_any (nat_eq i) xs) (λ any. d.0 i (Contains-from_any eqb-true i xs any) (eqb-true x i is)) in
        let a : one_if (nat_eq x i) ≡ 1 = ap one_if is in
        let n : one_if (list_any (nat_eq i) xs) ≡ 0 = ap one_if gone in
        let e : one_if (list_any (nat_eq i) (x ∷ xs)) ≡ 1 = ap (λ (t : Bool). one_if (t || list_any (nat_eq i) xs)) other in
        omega (arith, a, n, e, rest)
    by false is rest =
        let other : nat_eq i x ≡ false = nat_eq_equiv.symm i x ∙ is in
        let a : one_if (nat_eq x i) ≡ 0 = ap one_if is in
        let e : one_if (list_any (nat_eq i) (x ∷ xs)) ≡ one_if (list_any (nat_eq i) xs) = ap (λ (t : Bool). one_if (t || list_any (nat_eq i) xs)) other in
        omega (arith, a, e, rest)

count_arms : (i k n : ℕ) (targets : List ℕ) → count_by (enters i) (map_from (arm k) n targets) ≡ count_by (λ to. nat_eq to i) targets
count_arms i k n [] = refl
count_arms i k n (to ∷ targets) =
    omega (arith, count_cons (enters i) (arm k n to) (map_from (arm k) (n + 1) targets), count_cons (λ t. nat_eq t i) to targets, count_arms i k (n + 1) targets)

-- a jump to the one place
count_jump : (i k to : ℕ) → count_by (enters i) (jump k to ∷ []) ≡ one_if (list_any (nat_eq i) (to ∷ []))
count_jump i k to = count_one (enters i) (jump k to) ∙ ap one_if (nat_eq_equiv.symm to i) ∙ by (nat_eq i to)
  where
    by : (b : Bool) → one_if b ≡ one_if (b || false)
    by true = refl
    by false = refl

entered : (flow : Flow) (i k : ℕ) (targets : List ℕ) → HasTargets flow targets → count_by (enters i) (branches_by flow k targets) ≡ one_if (list_any (nat_eq i) targets)
entered flows.GoesOn i k targets has = ap (λ (l : List ℕ). one_if (list_any (nat_eq i) l)) (sym has)
entered flows.Branches i k targets has =
    subst (λ (l : List ℕ). count_by (enters i) (sequence k ∷ map (jump k) l) ≡ one_if (list_any (nat_eq i) l)) (sym has.1)
    (omega (arith, count_cons (enters i) (sequence k) (jump k has.0 ∷ []), count_jump i k has.0))
entered flows.Jumps i k targets has =
    subst (λ (l : List ℕ). count_by (enters i) (map (jump k) l) ≡ one_if (list_any (nat_eq i) l)) (sym has.1) (count_jump i k has.0)
entered flows.Switches i k targets has =
    count_arms i k 0 (first_seen targets) ∙ count_distinct (first_seen targets) i (first_seen_distinct targets) ∙ ap one_if (any_first_seen targets i)
entered flows.Returns i k targets has = ap (λ (l : List ℕ). one_if (list_any (nat_eq i) l)) (sym has)
entered flows.Throws i k targets has = ap (λ (l : List ℕ). one_if (list_any (nat_eq i) l)) (sym has)

entered_from : (i k : ℕ) (code : List Insn) → count_by (enters i) (join_from branches_of k code) ≡ count_by (leads_to i) code
entered_from i k [] = refl
entered_from i k (x ∷ code) =
    omega (
      arith,
      count_join (enters i) (branches_of k x) (join_from branches_of (k + 1) code),
      entered (flow_of x) i k (targets_of x) (has_targets x),
      entered_from i (k + 1) code,
      count_cons (leads_to i) x code,
    )

-- each jump, and each switch that has the place among its targets, is one entry
pub all_entered : (i : ℕ) (code : List Insn) → count_by (enters i) (branches code) ≡ count_by (leads_to i) code
all_entered i code = entered_from i 0 code

-- ---- where they lead

kept_within : (P : ℕ → Type 0) (p : ℕ → Bool) (xs : List ℕ) → AllByRecursion P xs → AllByRecursion P (filter p xs)
kept_within P p [] each = tt
kept_within P p (x ∷ xs) each = by (p x) (kept_within P p xs each.1)
  where
    by : (b : Bool) → AllByRecursion P (filter p xs) → AllByRecursion P (cond b (x ∷ filter p xs) (filter p xs))
    by true rest = (each.0, rest)
    by false rest = rest

seen_within : (P : ℕ → Type 0) (xs : List ℕ) → AllByRecursion P xs → AllByRecursion P (first_seen xs)
seen_within P [] each = tt
seen_within P (x ∷ xs) each = (each.0, kept_within P (λ y. not (nat_eq x y)) (first_seen xs) (seen_within P xs each.1))

module _ (count k : ℕ) where
  abbrev Below : ℕ → Type 0
  Below to = to < count

  jumps_within : (targets : List ℕ) → AllByRecursion Below targets → AllByRecursion (EntersWithin count) (map (jump k) targets)
  jumps_within [] each = tt
  jumps_within (to ∷ targets) each = (each.0, jumps_within targets each.1)

  arms_within : (n : ℕ) (targets : List ℕ) → AllByRecursion Below targets → AllByRecursion (EntersWithin count) (map_from (arm k) n targets)
  arms_within n [] each = tt
  arms_within n (to ∷ targets) each = (each.0, arms_within (n + 1) targets each.1)

  pub branches_within : (flow : Flow) (targets : List ℕ) → AllByRecursion Below targets → AllByRecursion (EntersWithin count) (branches_by flow k targets)
  branches_within flows.GoesOn targets each = (tt, tt)
  branches_within flows.Branches targets each = (tt, jumps_within targets each)
  branches_within flows.Jumps targets each = jumps_within targets each
  branches_within flows.Switches targets each = arms_within 0 (first_seen targets) (seen_within Below targets each)
  branches_within flows.Returns targets each = (tt, tt)
  branches_within flows.Throws targets each = (tt, tt)

pub all_within : (count k : ℕ) (code : List Insn) → AllByRecursion (LeadsWithin count) code → AllByRecursion (EntersWithin count) (join_from branches_of k code)
all_within count k [] each = tt
all_within count k (x ∷ code) each =
    each_joined (EntersWithin count) (branches_of k x) (join_from branches_of (k + 1) code) (branches_within count k (flow_of x) (targets_of x) each.0) (all_within count (k + 1) code each.1)
