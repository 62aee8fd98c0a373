-- What an instruction chooses is one of its branches.
use Rattle.std.proofs.Common.{◌≡◌, ◌⊎◌, inl, inr, ⊎_elim, ℕ, ℤ, zero, suc, ◌+◌, Bool, true, false, cond, not, ◌&&◌, List, [], ◌∷◌, map, Some, None, refl, sym, ap, ◌∙◌, subst, arith, nat_eq, get_or, zero-add}
use Rattle.std.specs.Prelude.{slice_get, Contains, int_lt, int_le, unsigned_abs, ◌-ℤ◌}
use Rattle.std.specs.List.{position_or_len}
use Rattle.std.proofs.lemmas.Bool.{eqb-true, eqb-false}
use Rattle.std.proofs.lemmas.Option.{same_Some}
use Rattle.jc_bytes.specs.PlainLists.{map_from}
use Rattle.jc_bytes.specs.FirstSeen.{first_seen}
use Rattle.jc_methods.specs.Flow.{flow_of, targets_of, jump_target}
use Rattle.jc_methods.specs.declared.insn.Insn.{Insn}
use Rattle.jc_methods.specs.declared.insn.Insn.TheVariants as insns
use Rattle.jc_methods.specs.declared.insn.Arm.{Arm}
use Rattle.jc_methods.specs.declared.insn.Flow.{Flow}
use Rattle.jc_methods.specs.declared.insn.Flow.TheVariants as flows
use Rattle.jc_methods.specs.declared.body.Body.{Body}
use Rattle.jc_methods.proofs.ByFlowLaws.{insn_by}
use Rattle.jc_bytes.proofs.FirstSeenLaws.{first_seen_all}
use Rattle.jc_bytes.proofs.BooleanLaws.{none_in, first_in, later_in, which_in}
use Rattle.jc_plan.specs.declared.branch.Branch.{Branch}
use Rattle.jc_plan.specs.Edges.{place_of, sequence, jump, arm, exit, branches_by, branches_of, branches}
use Rattle.jc_plan.specs.Chosen.{Outcome, one_way, condition, key, lookup_target, key_target, arm_to, chosen_by, chosen, onward_by, onward}
use Rattle.jc_plan.proofs.ListedLaws.{lists_from}
use Rattle.jc_plan.proofs.OneWayLaws.{HasOne, tests_one, jumps_one}

-- ---- targets

-- a conditional jump and goto have one target
one_target : (insn : Insn) → (flow_of insn ≡ flows.Branches) ⊎ (flow_of insn ≡ flows.Jumps) → HasOne (targets_of insn) → targets_of insn ≡ jump_target insn ∷ []
one_target (insns.Jump op to) flow one = refl
one_target (insns.Table low default arms) flow one = absurd (⊎_elim (λ e. cc) (λ e. cc) flow)
one_target (insns.Lookup default arms) flow one = absurd (⊎_elim (λ e. cc) (λ e. cc) flow)
one_target insn flow one = absurd (empty one.1)
  where
    empty : {to : ℕ} → [] ≡ to ∷ [] → ⊥
    empty e = cc

in_or_default : (xs : List ℕ) (n d : ℕ) → Contains (d ∷ xs) (get_or xs n d)
in_or_default [] n d = first_in d []
in_or_default (x ∷ xs) zero d = later_in d (x ∷ xs) x (first_in x xs)
in_or_default (x ∷ xs) (suc n) d =
    ⊎_elim
    (λ same. subst (Contains (d ∷ x ∷ xs)) same (first_in d (x ∷ xs)))
    (λ later. later_in d (x ∷ xs) (get_or xs n d) (later_in x xs (get_or xs n d) later))
    (which_in d xs (get_or xs n d) (in_or_default xs n d))

pub arm_listed : (default : ℕ) (arms : List Arm) (k : ℤ) → Contains (default ∷ map (λ (a : Arm). a.to) arms) (lookup_target default arms k)
arm_listed default [] k = first_in default []
arm_listed default (a ∷ arms) k = by (int_le a.key k && int_le k a.key) (arm_listed default arms k)
  where
    by : (b : Bool) → Contains (default ∷ map (λ (b : Arm). b.to) arms) (lookup_target default arms k)
        → Contains (default ∷ a.to ∷ map (λ (b : Arm). b.to) arms) (cond b a.to (lookup_target default arms k))
    by true c = later_in default (a.to ∷ map (λ (b : Arm). b.to) arms) a.to (first_in a.to (map (λ (b : Arm). b.to) arms))
    by false c =
        ⊎_elim
        (λ same. subst (Contains (default ∷ a.to ∷ map (λ (b : Arm). b.to) arms)) same (first_in default (a.to ∷ map (λ (b : Arm). b.to) arms)))
        (λ later.
        later_in default (a.to ∷ map (λ (b : Arm). b.to) arms) (lookup_target default arms k)
        (later_in a.to (map (λ (b : Arm). b.to) arms) (lookup_target default arms k) later))
        (which_in default (map (λ (b : Arm). b.to) arms) (lookup_target default arms k) c)

-- a key leads to one of the switch's targets
key_listed : (insn : Insn) → flow_of insn ≡ flows.Switches → (k : ℤ) → Contains (targets_of insn) (key_target insn k)
key_listed (insns.Table low default arms) flow k = by (int_lt k low)
  where
    by : (b : Bool) → Contains (default ∷ arms) (cond b default (get_or arms (unsigned_abs (k -ℤ low)) default))
    by true = first_in default arms
    by false = in_or_default arms (unsigned_abs (k -ℤ low)) default
key_listed (insns.Lookup default arms) flow k = arm_listed default arms k
key_listed insn flow k = absurd (insn_by insn flow)

-- the arm to a target has the target's place among the distinct ones
arm_in : (i k : ℕ) (targets : List ℕ) (to : ℕ) → Contains targets to → Contains (map_from (arm i) k targets) (arm i (k + position_or_len (nat_eq to) targets) to)
arm_in i k [] to c = absurd (none_in to c)
arm_in i k (t ∷ targets) to c = by (nat_eq to t) refl (arm_in i (k + 1) targets to)
  where
    by : (b : Bool) → nat_eq to t ≡ b → (Contains targets to → Contains (map_from (arm i) (k + 1) targets) (arm i (k + 1 + position_or_len (nat_eq to) targets) to))
        → Contains (arm i k t ∷ map_from (arm i) (k + 1) targets) (arm i (k + cond (not b) (1 + position_or_len (nat_eq to) targets) 0) to)
    by true e behind =
        let here : k ≡ k + 0 = omega arith in
        subst (Contains (arm i k t ∷ map_from (arm i) (k + 1) targets)) (λ j. arm i (here j) (sym (eqb-true to t e) j)) (first_in (arm i k t) (map_from (arm i) (k + 1) targets))
    by false e behind =
        let there : k + 1 + position_or_len (nat_eq to) targets ≡ k + (1 + position_or_len (nat_eq to) targets) = omega arith in
        ⊎_elim
        (λ same. absurd (eqb-false to t e (sym same)))
        (λ later.
        subst (Contains (arm i k t ∷ map_from (arm i) (k + 1) targets)) (ap (λ n. arm i n to) there)
        (later_in (arm i k t) (map_from (arm i) (k + 1) targets) (arm i (k + 1 + position_or_len (nat_eq to) targets) to) (behind later)))
        (which_in t targets to c)

-- ---- branches

abbrev Lists : Insn → ℕ → Flow → Branch → Type 0
Lists insn i flow x = Contains (branches_by flow i (targets_of insn)) x

-- the branch that is chosen is one of the instruction
chosen_in : (insn : Insn) (i : ℕ) (outcome : Outcome) (x : Branch) → chosen i insn outcome ≡ Some x → Contains (branches_of i insn) x
chosen_in insn i outcome x e = by (flow_of insn) refl outcome e
  where
    jumps : (flow_of insn ≡ flows.Branches) ⊎ (flow_of insn ≡ flows.Jumps) → HasOne (targets_of insn) → Contains (map (jump i) (targets_of insn)) (jump i (jump_target insn))
    jumps flow one = subst (λ (ts : List ℕ). Contains (map (jump i) ts) (jump i (jump_target insn))) (sym (one_target insn flow one)) (first_in (jump i (jump_target insn)) [])

    tests : (holds : Bool) → flow_of insn ≡ flows.Branches → Contains (sequence i ∷ map (jump i) (targets_of insn)) (cond holds (jump i (jump_target insn)) (sequence i))
    tests true flow = later_in (sequence i) (map (jump i) (targets_of insn)) (jump i (jump_target insn)) (jumps (inl flow) (tests_one insn flow))
    tests false flow = first_in (sequence i) (map (jump i) (targets_of insn))

    by : (flow : Flow) → flow_of insn ≡ flow → (outcome : Outcome) → chosen_by flow i insn outcome ≡ Some x → Lists insn i flow x
    by flows.GoesOn flow one_way e = subst (Lists insn i flows.GoesOn) (same_Some (sequence i) x e) (first_in (sequence i) [])
    by flows.Branches flow (condition holds) e = subst (Lists insn i flows.Branches) (same_Some (cond holds (jump i (jump_target insn)) (sequence i)) x e) (tests holds flow)
    by flows.Jumps flow one_way e = subst (Lists insn i flows.Jumps) (same_Some (jump i (jump_target insn)) x e) (jumps (inr flow) (jumps_one insn flow))
    by flows.Switches flow (key k) e =
        subst (Lists insn i flows.Switches) (same_Some (arm_to i (targets_of insn) (key_target insn k)) x e)
        (subst (λ (n : ℕ). Contains (map_from (arm i) 0 (first_seen (targets_of insn))) (arm i n (key_target insn k)))
        (zero-add (position_or_len (nat_eq (key_target insn k)) (first_seen (targets_of insn))))
        (arm_in i 0 (first_seen (targets_of insn)) (key_target insn k) (first_seen_all (targets_of insn) (key_target insn k) (key_listed insn flow k))))
    by flows.Returns flow one_way e = subst (Lists insn i flows.Returns) (same_Some (exit i) x e) (first_in (exit i) [])
    by flows.Throws flow one_way e = subst (Lists insn i flows.Throws) (same_Some (exit i) x e) (first_in (exit i) [])
    by flow is outcome e = absurd cc

pub chosen_listed : (b : Body) (i : ℕ) (insn : Insn) (outcome : Outcome) (x : Branch) → slice_get b.code i ≡ Some insn → chosen i insn outcome ≡ Some x → Contains (branches b.code) x
chosen_listed b i insn outcome x stands e =
    lists_from branches_of 0 b.code x
    (record { place = i; item = insn; stands = stands; listed = let z : i ≡ 0 + i = omega arith in subst (λ k. Contains (branches_of k insn) x) z (chosen_in insn i outcome x e) })

-- it begins at the instruction, and leads where control goes on
pub chosen_leads : (i : ℕ) (insn : Insn) (outcome : Outcome) (x : Branch) → chosen i insn outcome ≡ Some x → (x.at ≡ i) × (place_of x.way ≡ onward i insn outcome)
chosen_leads i insn outcome x e = by (flow_of insn) outcome e
  where
    tests : (holds : Bool) → (let y : Branch = cond holds (jump i (jump_target insn)) (sequence i) in (y.at ≡ i) × (place_of y.way ≡ Some (cond holds (jump_target insn) (i + 1))))
    tests true = (refl, refl)
    tests false = (refl, refl)

    by : (flow : Flow) (outcome : Outcome) → chosen_by flow i insn outcome ≡ Some x → (x.at ≡ i) × (place_of x.way ≡ onward_by flow i insn outcome)
    by flows.GoesOn one_way e = subst (λ (y : Branch). (y.at ≡ i) × (place_of y.way ≡ Some (i + 1))) (same_Some (sequence i) x e) (refl, refl)
    by flows.Branches (condition holds) e =
        subst (λ (y : Branch). (y.at ≡ i) × (place_of y.way ≡ Some (cond holds (jump_target insn) (i + 1)))) (same_Some (cond holds (jump i (jump_target insn)) (sequence i)) x e) (tests holds)
    by flows.Jumps one_way e = subst (λ (y : Branch). (y.at ≡ i) × (place_of y.way ≡ Some (jump_target insn))) (same_Some (jump i (jump_target insn)) x e) (refl, refl)
    by flows.Switches (key k) e =
        subst (λ (y : Branch). (y.at ≡ i) × (place_of y.way ≡ Some (key_target insn k))) (same_Some (arm_to i (targets_of insn) (key_target insn k)) x e) (refl, refl)
    by flows.Returns one_way e = subst (λ (y : Branch). (y.at ≡ i) × (place_of y.way ≡ None)) (same_Some (exit i) x e) (refl, refl)
    by flows.Throws one_way e = subst (λ (y : Branch). (y.at ≡ i) × (place_of y.way ≡ None)) (same_Some (exit i) x e) (refl, refl)
    by flow outcome e = absurd cc

-- where the condition holds another branch is chosen than where it doesn't
pub condition_chooses : (i : ℕ) (insn : Insn) (x y : Branch) → chosen i insn (condition true) ≡ Some x → chosen i insn (condition false) ≡ Some y → x ≡ y → ⊥
condition_chooses i insn x y p q same = by (flow_of insn) p q
  where
    apart : suc zero ≡ zero → ⊥
    apart e = omega (arith, e)

    by : (flow : Flow) → chosen_by flow i insn (condition true) ≡ Some x → chosen_by flow i insn (condition false) ≡ Some y → ⊥
    by flows.Branches p q =
        apart (ap (λ (z : Branch). z.number) (same_Some (jump i (jump_target insn)) x p) ∙ ap (λ (z : Branch). z.number) same ∙ sym (ap (λ (z : Branch). z.number) (same_Some (sequence i) y q)))
    by flow p q = absurd cc
