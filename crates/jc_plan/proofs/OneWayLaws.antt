-- An edge without a probe leads where nothing else leads.
use Rattle.std.proofs.Common.{◌≡◌, ◌⊎◌, inl, inr, ⊎_elim, ℕ, zero, suc, ◌+◌, ◌<◌, ◌≤◌, Bool, true, false, ◌&&◌, ◌||◌, nat_eq, nat_le, List, [], ◌∷◌, map, take, Some, refl, sym, ap, ◌∙◌, subst, arith, add-one, zero-add}
use Rattle.std.specs.Prelude.{slice_get, Contains}
use Rattle.std.specs.List.{count_by, list_any}
use Rattle.std.proofs.lemmas.Bool.{and_cases, or_parts, or_left, or_right, eq-eqb, leb-false, cases_order, both_ways}
use Rattle.std.proofs.lemmas.List.Sums.{sum_by-cons}
use Rattle.std.proofs.lemmas.Option.{same_Some, none-some}
use Rattle.jc_bytes.specs.PlainLists.{map_from}
use Rattle.jc_bytes.specs.FirstSeen.{first_seen, IsDistinct}
use Rattle.jc_methods.specs.Flow.{flow_of, targets_of, goes_on, falls_at, is_fallen_into}
use Rattle.jc_methods.specs.declared.insn.Insn.{Insn}
use Rattle.jc_methods.specs.declared.insn.Flow.{Flow}
use Rattle.jc_methods.specs.declared.insn.Flow.TheVariants as flows
use Rattle.jc_methods.specs.declared.body.Body.{Body}
use Rattle.jc_methods.specs.declared.body.Handler.{Handler}
use Rattle.jc_bytes.proofs.FirstSeenLaws.{contains_one, first_seen_distinct, first_seen_listed}
use Rattle.jc_bytes.proofs.BooleanLaws.{none_in, which_in, first_in, later_in}
use Rattle.jc_plan.specs.declared.branch.Branch.{Branch}
use Rattle.jc_plan.specs.declared.branch.Way.{Way}
use Rattle.jc_plan.specs.declared.branch.Way.TheVariants.{Falls, Jumps, Switches, Exits}
use Rattle.jc_plan.specs.Edges.{place_of, sequence, jump, arm, exit, branches_by, branches_of, branches}
use Rattle.jc_plan.specs.Entries.{one_if, leads_to, entries, is_multi_target, is_invocation_line}
use Rattle.jc_plan.specs.Probed.{is_probed, is_probed_way, id_of, probe_count, first_id}
use Rattle.jc_plan.specs.Leading.{LeadsTo, IsOneWay}
use Rattle.jc_plan.proofs.ListedLaws.{listed_from}
use Rattle.jc_plan.proofs.CountLaws.{count_cons}
use Rattle.jc_plan.proofs.FlowLaws.{HasTargets, has_targets}
use Rattle.jc_plan.proofs.IdsLaws.{ids_within}

-- ---- counts

count_place : {X : Type 0} (p : X → Bool) (xs : List X) (k : ℕ) (x : X) → slice_get xs k ≡ Some x → p x ≡ true → 1 ≤ count_by p xs
count_place p [] k x h t = absurd (none-some x h)
count_place p (y ∷ xs) zero x h t =
    let e : y ≡ x = same_Some y x h in
    let sure : one_if (p y) ≡ 1 = ap one_if (ap p e ∙ t) in
    omega (arith, count_cons p y xs, sure)
count_place p (y ∷ xs) (suc k) x h t = omega (arith, count_cons p y xs, count_place p xs k x h t)

count_two : {X : Type 0} (p : X → Bool) (xs : List X) (k l : ℕ) (x y : X) → k < l → slice_get xs k ≡ Some x → slice_get xs l ≡ Some y → p x ≡ true → p y ≡ true → 2 ≤ count_by p xs
count_two p [] k l x y lt h g t u = absurd (none-some x h)
count_two p (z ∷ xs) zero zero x y lt h g t u = absurd (omega arith)
count_two p (z ∷ xs) zero (suc l) x y lt h g t u =
    let e : z ≡ x = same_Some z x h in
    let sure : one_if (p z) ≡ 1 = ap one_if (ap p e ∙ t) in
    omega (arith, count_cons p z xs, sure, count_place p xs l y g u)
count_two p (z ∷ xs) (suc k) zero x y lt h g t u = absurd (omega arith)
count_two p (z ∷ xs) (suc k) (suc l) x y lt h g t u = omega (arith, count_cons p z xs, count_two p xs k l x y (omega arith) h g t u)

count_listed : {X : Type 0} (p : X → Bool) (xs : List X) (x : X) → Contains xs x → p x ≡ true → 1 ≤ count_by p xs
count_listed p [] x c t = absurd (none_in x c)
count_listed p (y ∷ xs) x c t =
    ⊎_elim
    (λ same. let sure : one_if (p y) ≡ 1 = ap one_if (ap p same ∙ t) in omega (arith, count_cons p y xs, sure))
    (λ later. omega (arith, count_cons p y xs, count_listed p xs x later t))
    (which_in y xs x c)

any_listed : (i : ℕ) (ts : List ℕ) → Contains ts i → list_any (nat_eq i) ts ≡ true
any_listed i [] c = absurd (none_in i c)
any_listed i (t ∷ ts) c =
    ⊎_elim
    (λ same. or_left (nat_eq i t) (list_any (nat_eq i) ts) (eq-eqb i t (sym same)))
    (λ later. or_right (nat_eq i t) (list_any (nat_eq i) ts) (any_listed i ts later))
    (which_in t ts i c)

-- ---- what jumps has one target

abbrev pub HasOne : List ℕ → Type 0
HasOne ts = (t : ℕ) × (ts ≡ t ∷ [])

pub tests_one : (insn : Insn) → flow_of insn ≡ flows.Branches → HasOne (targets_of insn)
tests_one insn e = subst (λ (f : Flow). HasTargets f (targets_of insn)) e (has_targets insn)

pub jumps_one : (insn : Insn) → flow_of insn ≡ flows.Jumps → HasOne (targets_of insn)
jumps_one insn e = subst (λ (f : Flow). HasTargets f (targets_of insn)) e (has_targets insn)

-- ---- which branches an instruction has

-- one of the branches of the instruction at i
pub data IsOf (insn : Insn) (i : ℕ) (x : Branch) : Type 0 where
  a_sequence : goes_on (flow_of insn) ≡ true → sequence i ≡ x → IsOf insn i x
  a_jump : (to : ℕ) → targets_of insn ≡ to ∷ [] → ((flow_of insn ≡ flows.Branches) ⊎ (flow_of insn ≡ flows.Jumps)) → jump i to ≡ x → IsOf insn i x
  an_arm : (number to : ℕ) → flow_of insn ≡ flows.Switches → Contains (targets_of insn) to
      → Contains (map_from (arm i) 0 (first_seen (targets_of insn))) (arm i number to) → arm i number to ≡ x → IsOf insn i x
  an_exit : ((flow_of insn ≡ flows.Returns) ⊎ (flow_of insn ≡ flows.Throws)) → exit i ≡ x → IsOf insn i x

jump_listed : (i : ℕ) (ts : List ℕ) (x : Branch) → Contains (map (jump i) ts) x → (to : ℕ) × Contains ts to × (jump i to ≡ x)
jump_listed i [] x c = absurd (none_in x c)
jump_listed i (t ∷ ts) x c =
    ⊎_elim
    (λ same. (t, first_in t ts, same))
    (λ later. let more = jump_listed i ts x later in (more.0, later_in t ts more.0 more.1, more.2))
    (which_in (jump i t) (map (jump i) ts) x c)

arm_listed : (i k : ℕ) (ts : List ℕ) (x : Branch) → Contains (map_from (arm i) k ts) x → (number : ℕ) × (to : ℕ) × Contains ts to × (k ≤ number) × (arm i number to ≡ x)
arm_listed i k [] x c = absurd (none_in x c)
arm_listed i k (t ∷ ts) x c =
    ⊎_elim
    (λ same. (k, t, first_in t ts, omega arith, same))
    (λ later. let more = arm_listed i (k + 1) ts x later in let le = more.3 in (more.0, more.1, later_in t ts more.1 more.2, omega (arith, le), more.4))
    (which_in (arm i k t) (map_from (arm i) (k + 1) ts) x c)

jump_is : (insn : Insn) (i : ℕ) (x : Branch) → HasOne (targets_of insn) → ((flow_of insn ≡ flows.Branches) ⊎ (flow_of insn ≡ flows.Jumps)) → Contains (map (jump i) (targets_of insn)) x → IsOf insn i x
jump_is insn i x one flow c =
    let l = jump_listed i (targets_of insn) x c in
    let e : one.0 ≡ l.0 = contains_one one.0 l.0 (subst (λ ts. Contains ts l.0) one.1 l.1) in
    a_jump l.0 (one.1 ∙ ap (λ t. t ∷ []) e) flow l.2

pub is_of : (insn : Insn) (i : ℕ) (x : Branch) → Contains (branches_of i insn) x → IsOf insn i x
is_of insn i x c = by (flow_of insn) refl c
  where
    by : (flow : Flow) → flow_of insn ≡ flow → Contains (branches_by flow i (targets_of insn)) x → IsOf insn i x
    by flows.GoesOn e c = a_sequence (ap goes_on e) (contains_one (sequence i) x c)
    by flows.Branches e c =
        ⊎_elim
        (λ same. a_sequence (ap goes_on e) same)
        (λ later. jump_is insn i x (tests_one insn e) (inl e) later)
        (which_in (sequence i) (map (jump i) (targets_of insn)) x c)
    by flows.Jumps e c = jump_is insn i x (jumps_one insn e) (inr e) c
    by flows.Switches e c =
        let l = arm_listed i 0 (first_seen (targets_of insn)) x c in
        an_arm l.0 l.1 e (first_seen_listed (targets_of insn) l.1 l.2) (subst (Contains (map_from (arm i) 0 (first_seen (targets_of insn)))) (sym l.4) c) l.4
    by flows.Returns e c = an_exit (inl e) (contains_one (exit i) x c)
    by flows.Throws e c = an_exit (inr e) (contains_one (exit i) x c)

at_is : (insn : Insn) (i : ℕ) (x : Branch) → IsOf insn i x → i ≡ x.at
at_is insn i x (a_sequence g e) = ap (λ y. y.at) e
at_is insn i x (a_jump to one f e) = ap (λ y. y.at) e
at_is insn i x (an_arm number to f c d e) = ap (λ y. y.at) e
at_is insn i x (an_exit f e) = ap (λ y. y.at) e

-- a branch of the code, at its instruction
pub record Standing (code : List Insn) (x : Branch) : Type 0 where
  pub insn : Insn
  pub stands : slice_get code x.at ≡ Some insn
  pub listed : Contains (branches_of x.at insn) x
  pub is : IsOf insn x.at x

pub standing : (code : List Insn) (x : Branch) → Contains (branches code) x → Standing code x
standing code x c =
    let l = listed_from branches_of 0 code x c in
    let z : 0 + l.place ≡ l.place = zero-add l.place in
    let listed = subst (λ k. Contains (branches_of k l.item) x) z l.listed in
    let e : l.place ≡ x.at = at_is l.item l.place x (is_of l.item l.place x listed) in
    record {
      insn = l.item;
      stands = subst (λ k. slice_get code k ≡ Some l.item) e l.stands;
      listed = subst (λ k. Contains (branches_of k l.item) x) e listed;
      is = subst (λ k. IsOf l.item k x) e (is_of l.item l.place x listed);
    }

-- ---- arms

-- of distinct targets, an arm is told by its target, and by its number
arm_by_target : (i k : ℕ) (ts : List ℕ) (n m to : ℕ) → IsDistinct ts → Contains (map_from (arm i) k ts) (arm i n to) → Contains (map_from (arm i) k ts) (arm i m to) → n ≡ m
arm_by_target i k [] n m to d c e = absurd (none_in (arm i n to) c)
arm_by_target i k (t ∷ ts) n m to d c e =
    ⊎_elim
    (λ first.
    ⊎_elim
    (λ second. sym (ap (λ y. y.number) first) ∙ ap (λ y. y.number) second)
    (λ later. absurd (d.0 to (target_of_arm (k + 1) ts m to later) (to_is first)))
    (which_in (arm i k t) (map_from (arm i) (k + 1) ts) (arm i m to) e))
    (λ behind.
    ⊎_elim
    (λ second. absurd (d.0 to (target_of_arm (k + 1) ts n to behind) (to_is second)))
    (λ later. arm_by_target i (k + 1) ts n m to d.1 behind later)
    (which_in (arm i k t) (map_from (arm i) (k + 1) ts) (arm i m to) e))
    (which_in (arm i k t) (map_from (arm i) (k + 1) ts) (arm i n to) c)
  where
    switched : Way → ℕ
    switched (Switches to) = to
    switched (Falls to) = 0
    switched (Jumps to) = 0
    switched Exits = 0

    to_is : {p q s r : ℕ} → arm i p s ≡ arm i q r → s ≡ r
    to_is h = ap (λ y. switched y.way) h

    target_of_arm : (l : ℕ) (us : List ℕ) (p s : ℕ) → Contains (map_from (arm i) l us) (arm i p s) → Contains us s
    target_of_arm l us p s c =
        let found = arm_listed i l us (arm i p s) c in
        subst (Contains us) (to_is found.4) found.2

-- ---- an edge without a probe

-- the instruction before it goes on to it
fallen : (code : List Insn) (i : ℕ) (insn : Insn) → slice_get code i ≡ Some insn → goes_on (flow_of insn) ≡ true → is_fallen_into code (i + 1) ≡ true
fallen code i insn h g =
    let e : i + 1 ≡ suc i = add-one i in
    ap (is_fallen_into code) e ∙ ap falls_at h ∙ g

-- what is no multi-target
few_entries : (b : Body) (i : ℕ) → is_multi_target b i ≡ false → (entries b i < 2) × (is_fallen_into b.code i ≡ true → entries b i ≡ 0)
few_entries b i h =
    let parts = or_parts (nat_le 2 (entries b i)) (nat_le 1 (entries b i) && is_fallen_into b.code i) h in (
      leb-false 2 (entries b i) parts.0,
      (λ s.
          ⊎_elim
          (λ none. let lt = leb-false 1 (entries b i) none in omega (arith, lt))
          (λ not_fallen. absurd (both_ways (is_fallen_into b.code i) not_fallen s))
          (and_cases (nat_le 1 (entries b i)) (is_fallen_into b.code i) parts.1)),
    )

no_place : (t : ℕ) → place_of Exits ≡ Some t → ⊥
no_place t e = none-some t e

-- the instruction has it among its targets
leads : (insn : Insn) (t : ℕ) → Contains (targets_of insn) t → leads_to t insn ≡ true
leads insn t c = any_listed t (targets_of insn) c

one_listed : (ts : List ℕ) (t : ℕ) → ts ≡ t ∷ [] → Contains ts t
one_listed ts t e = subst (λ us. Contains us t) (sym e) (first_in t [])

-- how the branch leads there: by sequence, or by a jump of an instruction
data Way_in (code : List Insn) (x : Branch) (t : ℕ) : Type 0 where
  in_sequence : t ≡ x.at + 1 → sequence x.at ≡ x → is_fallen_into code t ≡ true → Way_in code x t
  by_jump : (insn : Insn) → slice_get code x.at ≡ Some insn → leads_to t insn ≡ true → (x.way ≡ Jumps t) ⊎ (x.way ≡ Switches t) → Way_in code x t

way_in : (code : List Insn) (x : Branch) (t : ℕ) → Standing code x → LeadsTo x t → Way_in code x t
way_in code x t s there = by s.is
  where
    by : IsOf s.insn x.at x → Way_in code x t
    by (a_sequence g e) =
        let to : x.at + 1 ≡ t = same_Some (x.at + 1) t (ap (λ y. place_of y.way) e ∙ there) in
        in_sequence (sym to) e (subst (λ k. is_fallen_into code k ≡ true) to (fallen code x.at s.insn s.stands g))
    by (a_jump to one f e) =
        let same : to ≡ t = same_Some to t (ap (λ y. place_of y.way) e ∙ there) in
        by_jump s.insn s.stands (leads s.insn t (subst (Contains (targets_of s.insn)) same (one_listed (targets_of s.insn) to one))) (inl (sym (ap (λ y. y.way) e) ∙ ap Jumps same))
    by (an_arm n to f c d e) =
        let same : to ≡ t = same_Some to t (ap (λ y. place_of y.way) e ∙ there) in
        by_jump s.insn s.stands (leads s.insn t (subst (Contains (targets_of s.insn)) same c)) (inr (sym (ap (λ y. y.way) e) ∙ ap Switches same))
    by (an_exit f e) = absurd (no_place t (ap (λ y. place_of y.way) e ∙ there))

-- how many entries are aimed where an edge without a probe leads
data Entered (b : Body) (x : Branch) (t : ℕ) : Type 0 where
  only_fallen : t ≡ x.at + 1 → sequence x.at ≡ x → entries b t ≡ 0 → Entered b x t
  only_jumped : (insn : Insn) → slice_get b.code x.at ≡ Some insn → leads_to t insn ≡ true → entries b t < 2 → (is_fallen_into b.code t ≡ true → ⊥)
      → (x.way ≡ Jumps t) ⊎ (x.way ≡ Switches t) → Entered b x t

leads_counted : (b : Body) (x : Branch) (t : ℕ) (insn : Insn) → slice_get b.code x.at ≡ Some insn → leads_to t insn ≡ true → 1 ≤ entries b t
leads_counted b x t insn h l = omega (arith, count_place (leads_to t) b.code x.at insn h l)

entered : (b : Body) (x : Branch) (t : ℕ) → Contains (branches b.code) x → is_probed b x ≡ false → LeadsTo x t → Entered b x t
entered b x t c none there = by (way_in b.code x t (standing b.code x c) there)
  where
    by_way : (way : Way) → (way ≡ Jumps t) ⊎ (way ≡ Switches t) → is_probed_way b way ≡ false → is_multi_target b t ≡ false
    by_way way (inl e) h = sym (ap (is_probed_way b) e) ∙ h
    by_way way (inr e) h = sym (ap (is_probed_way b) e) ∙ h

    by : Way_in b.code x t → Entered b x t
    by (in_sequence to e fallen_there) =
        let unprobed : (is_fallen_into b.code (x.at + 1) && (is_multi_target b (x.at + 1) || is_invocation_line b (x.at + 1))) ≡ false = ap (is_probed b) e ∙ none in
        let at_t : (is_fallen_into b.code t && (is_multi_target b t || is_invocation_line b t)) ≡ false =
        subst (λ k. (is_fallen_into b.code k && (is_multi_target b k || is_invocation_line b k)) ≡ false) (sym to) unprobed in
        ⊎_elim
        (λ no. absurd (both_ways (is_fallen_into b.code t) no fallen_there))
        (λ neither. only_fallen to e ((few_entries b t (or_parts (is_multi_target b t) (is_invocation_line b t) neither).0).1 fallen_there))
        (and_cases (is_fallen_into b.code t) (is_multi_target b t || is_invocation_line b t) at_t)
    by (by_jump insn stands l ways) =
        let few = few_entries b t (by_way x.way ways none) in
        let some = leads_counted b x t insn stands l in
        only_jumped insn stands l few.0 (λ s. omega (arith, few.1 s, some)) ways

-- two branches of one instruction that jump to one place
same_jump : (code : List Insn) (x y : Branch) (t : ℕ) → Standing code x → Standing code y → x.at ≡ y.at → (x.way ≡ Jumps t) ⊎ (x.way ≡ Switches t) → (y.way ≡ Jumps t) ⊎ (y.way ≡ Switches t) → y ≡ x
same_jump code x y t s r at wx wy = by s.is (subst (λ k. IsOf r.insn k y) (sym at) r.is)
  where
    insns_same : s.insn ≡ r.insn
    insns_same = same_Some s.insn r.insn (sym s.stands ∙ ap (slice_get code) at ∙ r.stands)

    flow_same : flow_of s.insn ≡ flow_of r.insn
    flow_same = ap flow_of insns_same

    goes_not : (way : Way) → (way ≡ Jumps t) ⊎ (way ≡ Switches t) → place_of way ≡ Some t
    goes_not way (inl e) = ap place_of e
    goes_not way (inr e) = ap place_of e

    lx : place_of x.way ≡ Some t
    lx = goes_not x.way wx

    ly : place_of y.way ≡ Some t
    ly = goes_not y.way wy

    not_falls : (way : Way) (k : ℕ) → (way ≡ Jumps t) ⊎ (way ≡ Switches t) → Falls k ≡ way → ⊥
    not_falls way k (inl e) h = let z : Falls k ≡ Jumps t = h ∙ e in cc
    not_falls way k (inr e) h = let z : Falls k ≡ Switches t = h ∙ e in cc

    not_both : {f : Flow} → (f ≡ flows.Branches) ⊎ (f ≡ flows.Jumps) → f ≡ flows.Switches → ⊥
    not_both (inl e) h = let z : flows.Branches ≡ flows.Switches = sym e ∙ h in cc
    not_both (inr e) h = let z : flows.Jumps ≡ flows.Switches = sym e ∙ h in cc

    by : IsOf s.insn x.at x → IsOf r.insn x.at y → y ≡ x
    by (a_sequence g e) q = absurd (not_falls x.way (x.at + 1) wx (ap (λ z. z.way) e))
    by (an_exit f e) q = absurd (no_place t (ap (λ z. place_of z.way) e ∙ lx))
    by (a_jump to one f e) (a_jump other two g h) =
        let first : to ≡ t = same_Some to t (ap (λ z. place_of z.way) e ∙ lx) in
        let second : other ≡ t = same_Some other t (ap (λ z. place_of z.way) h ∙ ly) in
        sym h ∙ ap (jump x.at) (second ∙ sym first) ∙ e
    by (a_jump to one f e) (a_sequence g h) = absurd (not_falls y.way (x.at + 1) wy (ap (λ z. z.way) h))
    by (a_jump to one f e) (an_arm n other g c d h) = absurd (not_both f (flow_same ∙ g))
    by (a_jump to one f e) (an_exit g h) = absurd (no_place t (ap (λ z. place_of z.way) h ∙ ly))
    by (an_arm n to f c d e) (an_arm m other g c' d' h) =
        let first : to ≡ t = same_Some to t (ap (λ z. place_of z.way) e ∙ lx) in
        let second : other ≡ t = same_Some other t (ap (λ z. place_of z.way) h ∙ ly) in
        let one = subst (λ k. Contains (map_from (arm x.at) 0 (first_seen (targets_of s.insn))) (arm x.at n k)) first d in
        let two = subst (λ k. Contains (map_from (arm x.at) 0 (first_seen (targets_of s.insn))) (arm x.at m k)) second
        (subst (λ insn. Contains (map_from (arm x.at) 0 (first_seen (targets_of insn))) (arm x.at m other)) (sym insns_same) d') in
        let number : n ≡ m = arm_by_target x.at 0 (first_seen (targets_of s.insn)) n m t (first_seen_distinct (targets_of s.insn)) one two in
        sym h ∙ ap (λ k. arm x.at m k) (second ∙ sym first) ∙ ap (λ k. arm x.at k to) (sym number) ∙ e
    by (an_arm n to f c d e) (a_jump other two g h) = absurd (not_both g (sym flow_same ∙ f))
    by (an_arm n to f c d e) (a_sequence g h) = absurd (not_falls y.way (x.at + 1) wy (ap (λ z. z.way) h))
    by (an_arm n to f c d e) (an_exit g h) = absurd (no_place t (ap (λ z. place_of z.way) h ∙ ly))

-- two instructions that jump to one place are two entries
two_jump : (b : Body) (x y : Branch) (t : ℕ) (insn other : Insn) → slice_get b.code x.at ≡ Some insn → slice_get b.code y.at ≡ Some other
    → leads_to t insn ≡ true → leads_to t other ≡ true → entries b t < 2 → x.at ≡ y.at
two_jump b x y t insn other h g l m few =
    ⊎_elim
    (λ same. same)
    (λ apart.
    ⊎_elim
    (λ lt. absurd (omega (arith, few, count_two (leads_to t) b.code x.at y.at insn other lt h g l m)))
    (λ lt. absurd (omega (arith, few, count_two (leads_to t) b.code y.at x.at other insn lt g h m l)))
    apart)
    (cases_order x.at y.at)

-- where an edge without a probe leads, it is the one way in
pub one_way : (b : Body) (x : Branch) (t : ℕ) → Contains (branches b.code) x → is_probed b x ≡ false → LeadsTo x t → IsOneWay b x t
one_way b x t c none there = by (entered b x t c none there)
  where
    first_counted : t ≡ 0 → one_if (nat_eq t 0) ≡ 1
    first_counted e = ap one_if (eq-eqb t 0 e)

    handler_counted : (h : Handler) → Contains b.handlers h → h.target ≡ t → 1 ≤ count_by (λ h. nat_eq h.target t) b.handlers
    handler_counted h d e = count_listed (λ h. nat_eq h.target t) b.handlers h d (eq-eqb h.target t e)

    by : Entered b x t → IsOneWay b x t
    by (only_fallen to e zero_entries) = record {
      leads = there;
      single = λ y d ly. same y (way_in b.code y t (standing b.code y d) ly);
      not_first = λ first. omega (arith, to, first);
      no_handler = λ h d target. omega (arith, zero_entries, handler_counted h d target);
    }
      where
        same : (y : Branch) → Way_in b.code y t → y ≡ x
        same y (in_sequence other f s) = let at : y.at ≡ x.at = omega (arith, to, other) in sym f ∙ ap sequence at ∙ e
        same y (by_jump insn stands l ways) = absurd (omega (arith, zero_entries, leads_counted b y t insn stands l))
    by (only_jumped insn stands l few not_fallen ways) = record {
      leads = there;
      single = λ y d ly. same y (standing b.code y d) (way_in b.code y t (standing b.code y d) ly);
      not_first = λ first. omega (arith, few, first_counted first, count_place (leads_to t) b.code x.at insn stands l);
      no_handler = λ h d target. omega (arith, few, handler_counted h d target, count_place (leads_to t) b.code x.at insn stands l);
    }
      where
        same : (y : Branch) → Standing b.code y → Way_in b.code y t → y ≡ x
        same y s (in_sequence other f fallen_there) = absurd (not_fallen fallen_there)
        same y s (by_jump other stands' l' ways') =
            same_jump b.code x y t (standing b.code x c) s (two_jump b x y t insn other stands stands' l l' few) ways ways'

-- ---- the bodies of a class

-- the ids of a body come before those of a later one
pub firsts_rise : (bodies : List Body) (m n : ℕ) (b : Body) → m < n → slice_get bodies m ≡ Some b → first_id bodies m + probe_count b ≤ first_id bodies n
firsts_rise [] m n b lt h = absurd (none-some b h)
firsts_rise (x ∷ bodies) zero zero b lt h = absurd (omega arith)
firsts_rise (x ∷ bodies) zero (suc n) b lt h =
    let same : x ≡ b = same_Some x b h in
    let count : probe_count x ≡ probe_count b = ap probe_count same in
    omega (arith, sum_by-cons probe_count x (take n bodies), count)
firsts_rise (x ∷ bodies) (suc m) zero b lt h = absurd (omega arith)
firsts_rise (x ∷ bodies) (suc m) (suc n) b lt h =
    omega (arith, sum_by-cons probe_count x (take m bodies), sum_by-cons probe_count x (take n bodies), firsts_rise bodies m n b (omega arith) h)

-- one id, one body
pub one_body : (bodies : List Body) (m n : ℕ) (b c : Body) (x y : Branch) → slice_get bodies m ≡ Some b → slice_get bodies n ≡ Some c
    → Contains (branches b.code) x → Contains (branches c.code) y → is_probed b x ≡ true → is_probed c y ≡ true
    → id_of b (first_id bodies m) x ≡ id_of c (first_id bodies n) y → m ≡ n
one_body bodies m n b c x y h g i j p q e =
    let inside = ids_within b (first_id bodies m) x i p in
    let other = ids_within c (first_id bodies n) y j q in
    let above = inside.0 in
    let below = inside.1 in
    let other_above = other.0 in
    let other_below = other.1 in
    ⊎_elim
    (λ same. same)
    (λ apart.
    ⊎_elim
    (λ lt. absurd (omega (arith, below, other_above, e, firsts_rise bodies m n b lt h)))
    (λ lt. absurd (omega (arith, above, other_below, e, firsts_rise bodies n m c lt g)))
    apart)
    (cases_order m n)

-- each branch begins at its instruction
pub begins_at : (insn : Insn) (i : ℕ) (x : Branch) → Contains (branches_of i insn) x → i ≡ x.at
begins_at insn i x c = at_is insn i x (is_of insn i x c)
