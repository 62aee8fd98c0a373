-- One id, one edge, and no id between them that isn't used.
use Rattle.std.proofs.Common.{◌≡◌, ◌⊎◌, inl, inr, ⊎_elim, ℕ, zero, suc, ◌+◌, ◌-◌, ◌<◌, ◌≤◌, Bool, true, false, ◌||◌, List, [], ◌∷◌, ◌++◌, length, get_or, map, Some, refl, sym, ap, ◌∙◌, subst, arith, zero-add, add-one}
use Rattle.std.specs.Prelude.{Contains, slice_get}
use Rattle.std.specs.List.{count_by}
use Rattle.std.proofs.lemmas.Bool.{and_parts, cases_lt}
use Rattle.std.proofs.lemmas.List.{take_all}
use Rattle.std.proofs.lemmas.List.Elements.{Contains-append_right}
use Rattle.std.proofs.lemmas.Option.{slice_get-get_or}
use Rattle.jc_bytes.specs.PlainLists.{join_from}
use Rattle.jc_methods.specs.Flow.{flow_of, targets_of, goes_on, is_fallen_into}
use Rattle.jc_methods.specs.declared.insn.Insn.{Insn}
use Rattle.jc_methods.specs.declared.insn.Flow.{Flow}
use Rattle.jc_methods.specs.declared.insn.Flow.TheVariants as flows
use Rattle.jc_methods.specs.declared.body.Body.{Body}
use Rattle.jc_bytes.proofs.BooleanLaws.{none_in, which_in, first_in}
use Rattle.jc_bytes.proofs.ListLaws.{each_in}
use Rattle.jc_plan.specs.declared.branch.Branch.{Branch}
use Rattle.jc_plan.specs.declared.branch.Way.{Way}
use Rattle.jc_plan.specs.declared.branch.Way.TheVariants.{Falls, Jumps, Switches, Exits}
use Rattle.jc_plan.specs.Edges.{sequence, jump, branches_by, branches_of, branches}
use Rattle.jc_plan.specs.Entries.{one_if, is_multi_target, is_invocation_line}
use Rattle.jc_plan.specs.Probed.{Position, position_by, position_of, is_probed_way, is_probed, probes_before, probe_count, id_of, IsUsed}
use Rattle.jc_plan.proofs.CountLaws.{count_cons}
use Rattle.jc_plan.proofs.FlowLaws.{IsAt, GoesFrom, all_at, IsRising, all_rise, has_targets}
use Rattle.jc_plan.proofs.ListedLaws.{listed_from, lists_from}
use Rattle.jc_plan.proofs.IdsLaws.{one_position}
use Rattle.jc_plan.proofs.NumberingLaws.{own_by, own, fallen_next, in_front, below, before_own, before_next}
use Rattle.jc_plan.proofs.PlannedProbesLaws.{count_below, in_front_more}

-- ---- one position, one branch

same_branch : (x y : Branch) → x.at ≡ y.at → x.number ≡ y.number → x.way ≡ y.way → x ≡ y
same_branch x y a n w = λ k. record { at = a k; number = n k; way = w k }

rising_low : (first : ℕ) (xs : List Branch) (y : Branch) → IsRising first xs → Contains xs y → first ≤ y.number
rising_low first [] y r c = absurd (none_in y c)
rising_low first (x ∷ xs) y r c =
    let f = r.0 in
    ⊎_elim (λ same. omega (arith, ap (λ (z : Branch). z.number) same)) (λ later. omega (arith, rising_low (x.number + 1) xs y r.1 later)) (which_in x xs y c)

-- in a list in which numbers rise one number is that of one branch
rising_once : (first : ℕ) (xs : List Branch) (x y : Branch) → IsRising first xs → Contains xs x → Contains xs y → x.number ≡ y.number → x ≡ y
rising_once first [] x y r c d e = absurd (none_in x c)
rising_once first (z ∷ zs) x y r c d e =
    ⊎_elim
    (λ a. ⊎_elim (λ o. sym a ∙ o)
    (λ o. absurd (omega (arith, ap (λ (v : Branch). v.number) a, rising_low (z.number + 1) zs y r.1 o)))
    (which_in z zs y d))
    (λ a. ⊎_elim (λ o. absurd (omega (arith, ap (λ (v : Branch). v.number) o, rising_low (z.number + 1) zs x r.1 a)))
    (λ o. rising_once (z.number + 1) zs x y r.1 a o e)
    (which_in z zs y d))
    (which_in z zs x c)

-- a branch of the code is one of an instruction
record Listed (code : List Insn) (x : Branch) : Type 0 where
  place : ℕ
  insn : Insn
  stands : slice_get code place ≡ Some insn
  listed : Contains (branches_of place insn) x
  at : IsAt place x

listed : (code : List Insn) (x : Branch) → Contains (branches code) x → Listed code x
listed code x c =
    let l = listed_from branches_of 0 code x c in
    let here : Contains (branches_of l.place l.item) x = subst (λ (k : ℕ). Contains (branches_of k l.item) x) (zero-add l.place) l.listed in
    record {
      place = l.place;
      insn = l.item;
      stands = l.stands;
      listed = here;
      at = each_in (IsAt l.place) (branches_of l.place l.item) x (all_at l.place (flow_of l.item) (targets_of l.item)) here;
    }

-- the probe of such a branch stands at the branch's own instruction
abbrev HasOwnPosition : Way → Type 0
HasOwnPosition way = (at number : ℕ) → position_by way at number ≡ record { at = at; number = 1 + number }

-- a sequence, or a branch whose probe stands at its own instruction
way_cases : (way : Way) → ((to : ℕ) × (way ≡ Falls to)) ⊎ HasOwnPosition way
way_cases (Falls to) = inl (to, refl)
way_cases (Jumps to) = inr (λ at number. refl)
way_cases (Switches to) = inr (λ at number. refl)
way_cases Exits = inr (λ at number. refl)

module _ (code : List Insn) where
  both_fall : (x y : Branch) (l : Listed code x) (m : Listed code y) (a o : ℕ) → x.way ≡ Falls a → y.way ≡ Falls o → position_of x ≡ position_of y → x ≡ y
  both_fall x y l m a o v w p =
      let s : GoesFrom l.place x.number (Falls a) = subst (GoesFrom l.place x.number) v l.at.goes in
      let t : GoesFrom m.place y.number (Falls o) = subst (GoesFrom m.place y.number) w m.at.goes in
      let q : position_by (Falls a) x.at x.number ≡ position_by (Falls o) y.at y.number =
      sym (ap (λ (z : Way). position_by z x.at x.number) v) ∙ p ∙ ap (λ (z : Way). position_by z y.at y.number) w in
      let e : a ≡ o = ap (λ (z : Position). z.at) q in
      let i = l.at.at in
      let j = m.at.at in
      let s0 = s.0 in
      let t0 = t.0 in
      same_branch x y (omega (arith, e, i, j, s0, t0)) (s.1 ∙ sym t.1) (v ∙ ap Falls e ∙ sym w)

  one_falls : (x y : Branch) (a : ℕ) → x.way ≡ Falls a → HasOwnPosition y.way → position_of x ≡ position_of y → ⊥
  one_falls x y a v w p =
      let q : 0 ≡ 1 + y.number = ap (λ (z : Position). z.number) (sym (ap (λ (z : Way). position_by z x.at x.number) v) ∙ p ∙ w y.at y.number) in
      omega (arith, q)

  both_own : (x y : Branch) (l : Listed code x) (m : Listed code y) → HasOwnPosition x.way → HasOwnPosition y.way
      → position_of x ≡ position_of y → x ≡ y
  both_own x y l m v w p =
      let q = sym (v x.at x.number) ∙ p ∙ w y.at y.number in
      let at : x.at ≡ y.at = ap (λ (z : Position). z.at) q in
      let up : 1 + x.number ≡ 1 + y.number = ap (λ (z : Position). z.number) q in
      let number : x.number ≡ y.number = omega (arith, up) in
      let place : m.place ≡ l.place = sym m.at.at ∙ sym at ∙ l.at.at in
      let here : Some m.insn ≡ Some l.insn = sym m.stands ∙ ap (slice_get code) place ∙ l.stands in
      let same : m.insn ≡ l.insn = cc in
      let other : Contains (branches_of l.place l.insn) y =
      subst (λ (z : Insn). Contains (branches_of l.place z) y) same (subst (λ (k : ℕ). Contains (branches_of k m.insn) y) place m.listed) in
      rising_once 0 (branches_of l.place l.insn) x y (all_rise (flow_of l.insn) l.place (targets_of l.insn) (has_targets l.insn)) l.listed other number

  pub one_branch : (x y : Branch) → Contains (branches code) x → Contains (branches code) y → position_of x ≡ position_of y → x ≡ y
  one_branch x y c d p =
      let l = listed code x c in
      let m = listed code y d in
      ⊎_elim
      (λ v. ⊎_elim (λ w. both_fall x y l m v.0 w.0 v.1 w.1 p) (λ w. absurd (one_falls x y v.0 v.1 w p)) (way_cases y.way))
      (λ v. ⊎_elim (λ w. absurd (one_falls y x w.0 w.1 v (sym p))) (λ w. both_own x y l m v w p) (way_cases y.way))
      (way_cases x.way)

-- one id, one edge
pub one_edge : (b : Body) (first : ℕ) (x y : Branch) → Contains (branches b.code) x → Contains (branches b.code) y → is_probed b x ≡ true → is_probed b y ≡ true
    → id_of b first x ≡ id_of b first y → x ≡ y
one_edge b first x y c d probed other e = one_branch b.code x y c d (one_position b first x y c d probed other e)

-- ---- no gap

-- the item that passes, behind so many that do
record Passes {X : Type 0} (p : X → Bool) (xs : List X) (n : ℕ) : Type 0 where
  pre : List X
  item : X
  post : List X
  split : xs ≡ pre ++ item ∷ post
  passes : p item ≡ true
  count : count_by p pre ≡ n

passing : {X : Type 0} (p : X → Bool) (xs : List X) (n : ℕ) → n < count_by p xs → Passes p xs n
passing p [] n lt = absurd (omega arith)
passing {X = X} p (x ∷ xs) n lt = by (p x) n refl (omega (arith, lt, count_cons p x xs)) (passing p xs)
  where
    by : (t : Bool) (n : ℕ) → p x ≡ t → n < one_if (p x) + count_by p xs → ((n : ℕ) → n < count_by p xs → Passes p xs n) → Passes p (x ∷ xs) n
    by true zero is lt rest = record { pre = []; item = x; post = xs; split = refl; passes = is; count = refl }
    by true (suc n) is lt rest =
        let one : one_if (p x) ≡ 1 = ap one_if is in
        let more = rest n (omega (arith, lt, one)) in
        record {
          pre = x ∷ more.pre;
          item = more.item;
          post = more.post;
          split = ap (λ (l : List X). x ∷ l) more.split;
          passes = more.passes;
          count = let e = more.count in omega (arith, count_cons p x more.pre, one, e);
        }
    by false n is lt rest =
        let none : one_if (p x) ≡ 0 = ap one_if is in
        let more = rest n (omega (arith, lt, none)) in
        record {
          pre = x ∷ more.pre;
          item = more.item;
          post = more.post;
          split = ap (λ (l : List X). x ∷ l) more.split;
          passes = more.passes;
          count = let e = more.count in omega (arith, count_cons p x more.pre, none, e);
        }

module _ (b : Body) where
  own_is_probed : (way : Way) → own_by b way ≡ true → is_probed_way b way ≡ true
  own_is_probed (Falls to) h = absurd cc
  own_is_probed (Jumps to) h = h
  own_is_probed (Switches to) h = h
  own_is_probed Exits h = h

  own_position : (way : Way) → own_by b way ≡ true → HasOwnPosition way
  own_position (Falls to) h at number = absurd cc
  own_position (Jumps to) h at number = refl
  own_position (Switches to) h at number = refl
  own_position Exits h at number = refl

  has_sequence : (flow : Flow) (k : ℕ) (targets : List ℕ) → goes_on flow ≡ true → Contains (branches_by flow k targets) (sequence k)
  has_sequence flows.GoesOn k targets h = first_in (sequence k) []
  has_sequence flows.Branches k targets h = first_in (sequence k) (map (jump k) targets)
  has_sequence flows.Jumps k targets h = absurd cc
  has_sequence flows.Switches k targets h = absurd cc
  has_sequence flows.Returns k targets h = absurd cc
  has_sequence flows.Throws k targets h = absurd cc

  -- a branch that has so many probed edges in front of it
  record Found (n : ℕ) : Type 0 where
    branch : Branch
    listed : Contains (branches b.code) branch
    probed : is_probed b branch ≡ true
    count : probes_before b (position_of branch) ≡ n

  in_code : (i : ℕ) (insn : Insn) (x : Branch) → slice_get b.code i ≡ Some insn → Contains (branches_of i insn) x → Contains (branches b.code) x
  in_code i insn x stands c =
      lists_from branches_of 0 b.code x
      (record { place = i; item = insn; stands = stands; listed = subst (λ (k : ℕ). Contains (branches_of k insn) x) (sym (zero-add i)) c })

  found_own : (i n : ℕ) (insn : Insn) → i < length b.code → slice_get b.code i ≡ Some insn → insn ≡ get_or b.code i insn
      → in_front b i ≤ n → n < in_front b i + count_by (own b) (branches_of i insn) → Found n
  found_own i n insn lt stands is low high =
      let p = passing (own b) (branches_of i insn) (n - in_front b i) (omega (arith, low, high)) in
      let x = p.item in
      let here : Contains (branches_of i insn) x = subst (λ (l : List Branch). Contains l x) (sym p.split) (Contains-append_right p.pre (x ∷ p.post) x (first_in x p.post)) in
      let at = each_in (IsAt i) (branches_of i insn) x (all_at i (flow_of insn) (targets_of insn)) here in
      let rising : IsRising 0 (p.pre ++ x ∷ p.post) = subst (IsRising 0) p.split (all_rise (flow_of insn) i (targets_of insn) (has_targets insn)) in
      let position : position_of x ≡ record { at = i; number = 1 + x.number } =
      own_position x.way p.passes x.at x.number ∙ ap (λ (k : ℕ). record { at = k; number = 1 + x.number }) at.at in
      let number : count_by (below b x.number) (branches_of i insn) ≡ count_by (own b) p.pre = ap (count_by (below b x.number)) p.split ∙ count_below b p.pre x p.post rising in
      let before = before_own b i x.number insn lt is in
      let so_many = p.count in
      record {
        branch = x;
        listed = in_code i insn x stands here;
        probed = own_is_probed x.way p.passes;
        count = ap (probes_before b) position ∙ (let e : probes_before b (record { at = i; number = 1 + x.number }) ≡ n = omega (arith, before, number, so_many, low) in e);
      }

  found_lead : (i n : ℕ) (insn : Insn) → i < length b.code → slice_get b.code i ≡ Some insn → insn ≡ get_or b.code i insn
      → is_probed_way b (Falls (i + 1)) ≡ true → n ≡ in_front b i + count_by (own b) (branches_of i insn) → Found n
  found_lead i n insn lt stands is probed e =
      let falls = (and_parts (is_fallen_into b.code (i + 1)) (is_multi_target b (i + 1) || is_invocation_line b (i + 1)) probed).0 in
      record {
        branch = sequence i;
        listed = in_code i insn (sequence i) stands (has_sequence (flow_of insn) i (targets_of insn) (sym (fallen_next b.code i insn lt is) ∙ falls));
        probed = probed;
        count = before_next b i insn lt is ∙ sym e;
      }

  -- how many ids come before that of the fall-through out of an instruction
  abbrev in_front_of_next : ℕ → Insn → ℕ
  in_front_of_next i insn = in_front b i + count_by (own b) (branches_of i insn)

  find : (i : ℕ) → i ≤ length b.code → (n : ℕ) → n < in_front b i → Found n
  find zero le n lt = absurd (omega (arith, lt))
  find (suc i) le n lt = here (get_some b.code i (omega arith)) (find i (omega arith) n)
    where
      get_some : (code : List Insn) (i : ℕ) → i < length code → (x : Insn) × (x ≡ get_or code i x)
      get_some [] i lt = absurd (omega arith)
      get_some (x ∷ code) zero lt = (x, refl)
      get_some (x ∷ code) (suc i) lt = get_some code i (omega arith)

      here : (x : Insn) × (x ≡ get_or b.code i x) → (n < in_front b i → Found n) → Found n
      here (x, is) earlier =
          let inside : i < length b.code = omega arith in
          let stands : slice_get b.code i ≡ Some x = slice_get-get_or b.code i x inside ∙ ap Some (sym is) in
          let more = in_front_more b i x inside is in
          let one : in_front b (suc i) ≡ in_front b (i + 1) = ap (in_front b) (sym (add-one i)) in
          ⊎_elim (λ before. earlier before)
          (λ low.
          ⊎_elim (λ high. found_own i n x inside stands is low high)
          (λ behind. lead (is_probed_way b (Falls (i + 1))) refl inside stands behind (omega (arith, lt, more, one)))
          (cases_lt n (in_front b i + count_by (own b) (branches_of i x))))
          (cases_lt n (in_front b i))
        where
          lead : (t : Bool) → is_probed_way b (Falls (i + 1)) ≡ t → i < length b.code → slice_get b.code i ≡ Some x
              → in_front_of_next i x ≤ n → n < in_front_of_next i x + one_if (is_probed_way b (Falls (i + 1))) → Found n
          lead true probed inside stands le high = let a : one_if (is_probed_way b (Falls (i + 1))) ≡ 1 = ap one_if probed in found_lead i n x inside stands is probed (omega (arith, le, high, a))
          lead false probed inside stands le high = let a : one_if (is_probed_way b (Falls (i + 1))) ≡ 0 = ap one_if probed in absurd (omega (arith, le, high, a))

  -- each id from the first to the last is that of a probed edge
  pub each_used : (first id : ℕ) → first ≤ id → id < first + probe_count b → IsUsed b first id
  each_used first id low high =
      let whole : in_front b (length b.code) ≡ probe_count b = ap (λ (l : List Insn). count_by (is_probed b) (join_from branches_of 0 l)) (take_all (length b.code) b.code (omega arith)) in
      let f = find (length b.code) (omega arith) (id - first) (omega (arith, low, high, whole)) in
      let so_many = f.count in
      record { branch = f.branch; listed = f.listed; probed = f.probed; has_id = omega (arith, so_many, low) }
