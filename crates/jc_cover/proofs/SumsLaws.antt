-- Counters put together from instructions and methods are the counters.
use Rattle.std.proofs.Common.{◌≡◌, ℕ, ◌+◌, ◌-◌, ◌<◌, ◌≤◌, Bool, true, false, cond, not, ◌||◌, List, [], ◌∷◌, ◌++◌, length, get_or, take, drop, refl, sym, ap, ap₂, ◌∙◌, subst, arith}
use Rattle.std.specs.Prelude.{nat_le, nat_lt}
use Rattle.std.specs.List.{count_by, sum_by, flat_map, list_any}
use Rattle.std.proofs.lemmas.Bool.{false_from_ne_true, leb-true, le-leb, lt-ltb}
use Rattle.std.proofs.lemmas.List.{drop_all}
use Rattle.std.proofs.lemmas.List.Sums.{sum_by-cons, get_or-le-sum_by}
use Rattle.jc_bytes.proofs.AppendingLaws.{drop_is}
use Rattle.jc_plan.specs.Entries.{one_if}
use Rattle.jc_plan.proofs.CountLaws.{count_cons, count_join}
use Rattle.jc_cover.specs.declared.coverage.Count.{Count}
use Rattle.jc_cover.specs.declared.sums.Sums.{Sums}
use Rattle.jc_cover.specs.Counters.{Method, is_covered, is_covered_method, count_of, all_insns, branching, covered_branches, covered_paths, missed_paths, complexity_count, whole}
use Rattle.jc_cover.specs.Sums.{no_items, one_item, plus_count, plus, no_sums, IsSmallCount, AreSmall, branch_values, paths, path_values, insn_sums, insns_sums, own_sums, method_sums, methods_sums, insns_weight}
use Rattle.jc_cover.proofs.TotalLaws.{count_whole, branch_whole, paths_whole}
use Rattle.jc_cover.proofs.SmallLaws.{branching_few}

-- ---- adding

same_count : (a b : Count) → a.missed ≡ b.missed → a.covered ≡ b.covered → a ≡ b
same_count a b m c = λ i. record { missed = m i; covered = c i }

same_sums : (a b : Sums) → a.instruction ≡ b.instruction → a.branch ≡ b.branch → a.complexity ≡ b.complexity → a.method ≡ b.method → a ≡ b
same_sums a b i r c m = λ k. record { instruction = i k; branch = r k; complexity = c k; method = m k }

count_assoc : (a b c : Count) → plus_count a (plus_count b c) ≡ plus_count (plus_count a b) c
count_assoc a b c = same_count (plus_count a (plus_count b c)) (plus_count (plus_count a b) c) (omega arith) (omega arith)

pub plus_assoc : (a b c : Sums) → plus a (plus b c) ≡ plus (plus a b) c
plus_assoc a b c =
    same_sums (plus a (plus b c)) (plus (plus a b) c) (count_assoc a.instruction b.instruction c.instruction) (count_assoc a.branch b.branch c.branch)
    (count_assoc a.complexity b.complexity c.complexity) (count_assoc a.method b.method c.method)

count_none : (a : Count) → plus_count no_items a ≡ a
count_none a = same_count (plus_count no_items a) a (omega arith) (omega arith)

pub plus_none : (a : Sums) → plus no_sums a ≡ a
plus_none a = same_sums (plus no_sums a) a (count_none a.instruction) (count_none a.branch) (count_none a.complexity) (count_none a.method)

count_end : (a : Count) → plus_count a no_items ≡ a
count_end a = same_count (plus_count a no_items) a (omega arith) (omega arith)

pub plus_end : (a : Sums) → plus a no_sums ≡ a
plus_end a = same_sums (plus a no_sums) a (count_end a.instruction) (count_end a.branch) (count_end a.complexity) (count_end a.method)

-- what is a part of something small is small
part_count : (a b c : Count) → plus_count a b ≡ c → IsSmallCount c → IsSmallCount a
part_count a b c e s =
    let m = s.0 in
    let n = s.1 in
    (omega (arith, ap (λ (k : Count). k.missed) e, m), omega (arith, ap (λ (k : Count). k.covered) e, n))

pub part_small : (a b c : Sums) → plus a b ≡ c → AreSmall c → AreSmall a
part_small a b c e s = record {
  instruction = part_count a.instruction b.instruction c.instruction (ap (λ (k : Sums). k.instruction) e) s.instruction;
  branch = part_count a.branch b.branch c.branch (ap (λ (k : Sums). k.branch) e) s.branch;
  complexity = part_count a.complexity b.complexity c.complexity (ap (λ (k : Sums). k.complexity) e) s.complexity;
  method = part_count a.method b.method c.method (ap (λ (k : Sums). k.method) e) s.method;
}

-- ---- one instruction

pub any_counted : {X : Type 0} (p : X → Bool) (xs : List X) → nat_lt 0 (count_by p xs) ≡ list_any p xs
any_counted p [] = refl
any_counted p (x ∷ xs) = ap (nat_lt 0) (count_cons p x xs) ∙ by (p x) (any_counted p xs)
  where
    by : (t : Bool) → nat_lt 0 (count_by p xs) ≡ list_any p xs → nat_lt 0 (one_if t + count_by p xs) ≡ (t || list_any p xs)
    by true h = let e : one_if true ≡ 1 = refl in lt-ltb 0 (one_if true + count_by p xs) (omega (arith, e))
    by false h = ap (nat_lt 0) (zero_plus (count_by p xs)) ∙ h
      where
        zero_plus : (n : ℕ) → 0 + n ≡ n
        zero_plus n = omega arith

-- ---- instructions of a method

module _ where
  branch_cons : (v : List Bool) (insns : List (List Bool))
      → count_of (λ (value : Bool). value) (flat_map (λ values. values) (branching (v ∷ insns))) ≡ plus_count (branch_values v)
      (count_of (λ (value : Bool). value) (flat_map (λ values. values) (branching insns)))
  branch_cons v insns = by (nat_le 2 (length v))
    where
      rest : List Bool
      rest = flat_map (λ values. values) (branching insns)

      by : (t : Bool) → count_of (λ (value : Bool). value) (flat_map (λ values. values) (cond t (v ∷ branching insns) (branching insns)))
          ≡ plus_count (cond t (count_of (λ (value : Bool). value) v) no_items) (count_of (λ (value : Bool). value) rest)
      by true =
          same_count (count_of (λ (value : Bool). value) (v ++ rest)) (plus_count (count_of (λ (value : Bool). value) v) (count_of (λ (value : Bool). value) rest))
          (count_join (λ (value : Bool). not value) v rest) (count_join (λ (value : Bool). value) v rest)
      by false = sym (count_none (count_of (λ (value : Bool). value) rest))

  -- missed and covered branches of an instruction
  whole_branches : (v : List Bool) → count_by (λ (value : Bool). not value) v + covered_branches v ≡ length v
  whole_branches [] = refl
  whole_branches (x ∷ v) = let e = one x in omega (arith, count_cons (λ (value : Bool). not value) x v, count_cons (λ (value : Bool). value) x v, whole_branches v, e)
    where
      one : (t : Bool) → one_if (not t) + one_if t ≡ 1
      one true = refl
      one false = refl

  path_same : (v : List Bool) → paths (count_of (λ (value : Bool). value) v) ≡ record { missed = missed_paths v; covered = covered_paths v }
  path_same v =
      let e = whole_branches v in
      same_count (paths (count_of (λ (value : Bool). value) v)) (record { missed = missed_paths v; covered = covered_paths v })
      (ap (λ n. n - 1 - covered_paths v) e) refl

  abbrev path_count : List (List Bool) → Count
  path_count insns = record { missed = sum_by missed_paths (branching insns); covered = sum_by covered_paths (branching insns) }

  path_cons : (v : List Bool) (insns : List (List Bool)) → path_count (v ∷ insns) ≡ plus_count (path_values v) (path_count insns)
  path_cons v insns = by (nat_le 2 (length v))
    where
      by : (t : Bool) → record { missed = sum_by missed_paths (cond t (v ∷ branching insns) (branching insns)); covered = sum_by covered_paths (cond t (v ∷ branching insns) (branching insns)) }
          ≡ plus_count (cond t (paths (count_of (λ (value : Bool). value) v)) no_items) (path_count insns)
      by true =
          same_count (record { missed = sum_by missed_paths (v ∷ branching insns); covered = sum_by covered_paths (v ∷ branching insns) })
          (plus_count (paths (count_of (λ (value : Bool). value) v)) (path_count insns))
          (sum_by-cons missed_paths v (branching insns) ∙ ap (λ (c : Count). c.missed + sum_by missed_paths (branching insns)) (sym (path_same v)))
          (sum_by-cons covered_paths v (branching insns))
      by false = sym (count_none (path_count insns))

  insn_cons : (v : List Bool) (insns : List (List Bool)) → count_of is_covered (v ∷ insns) ≡ plus_count (one_item (is_covered v)) (count_of is_covered insns)
  insn_cons v insns =
      same_count (count_of is_covered (v ∷ insns)) (plus_count (one_item (is_covered v)) (count_of is_covered insns))
      (count_cons (λ values. not (is_covered values)) v insns) (count_cons is_covered v insns)

-- the counts of instructions, and no method
abbrev pub counted_insns : List (List Bool) → Sums
counted_insns insns = record {
  instruction = count_of is_covered insns;
  branch = count_of (λ value. value) (flat_map (λ values. values) (branching insns));
  complexity = path_count insns;
  method = no_items;
}

pub insns_counted : (insns : List (List Bool)) → insns_sums insns ≡ counted_insns insns
insns_counted [] = refl
insns_counted (v ∷ insns) =
    ap (plus (insn_sums v)) (insns_counted insns)
    ∙ same_sums (plus (insn_sums v) (counted_insns insns)) (counted_insns (v ∷ insns)) (sym (insn_cons v insns)) (sym (branch_cons v insns)) (sym (path_cons v insns)) (count_none no_items)

insns_join : (a b : List (List Bool)) → insns_sums (a ++ b) ≡ plus (insns_sums a) (insns_sums b)
insns_join [] b = sym (plus_none (insns_sums b))
insns_join (v ∷ a) b = ap (plus (insn_sums v)) (insns_join a b) ∙ plus_assoc (insn_sums v) (insns_sums a) (insns_sums b)

-- ---- methods

-- the counts of methods alone
abbrev own_all : List Method → Sums
own_all ms = record { instruction = no_items; branch = no_items; complexity = count_of is_covered_method ms; method = count_of is_covered_method ms }

count_swap : (a b c d : Count) → plus_count (plus_count a b) (plus_count c d) ≡ plus_count (plus_count a c) (plus_count b d)
count_swap a b c d = same_count (plus_count (plus_count a b) (plus_count c d)) (plus_count (plus_count a c) (plus_count b d)) (omega arith) (omega arith)

plus_swap : (a b c d : Sums) → plus (plus a b) (plus c d) ≡ plus (plus a c) (plus b d)
plus_swap a b c d =
    same_sums (plus (plus a b) (plus c d)) (plus (plus a c) (plus b d)) (count_swap a.instruction b.instruction c.instruction d.instruction)
    (count_swap a.branch b.branch c.branch d.branch) (count_swap a.complexity b.complexity c.complexity d.complexity) (count_swap a.method b.method c.method d.method)

own_cons : (m : Method) (ms : List Method) → own_all (m ∷ ms) ≡ plus (own_sums (is_covered_method m)) (own_all ms)
own_cons m ms =
    let e : count_of is_covered_method (m ∷ ms) ≡ plus_count (one_item (is_covered_method m)) (count_of is_covered_method ms) =
    same_count (count_of is_covered_method (m ∷ ms)) (plus_count (one_item (is_covered_method m)) (count_of is_covered_method ms))
    (count_cons (λ n. not (is_covered_method n)) m ms) (count_cons is_covered_method m ms) in
    same_sums (own_all (m ∷ ms)) (plus (own_sums (is_covered_method m)) (own_all ms)) (sym (count_none no_items)) (sym (count_none no_items)) e e

split_sums : (ms : List Method) → methods_sums ms ≡ plus (own_all ms) (insns_sums (all_insns ms))
split_sums [] = refl
split_sums (m ∷ ms) =
    ap (plus (method_sums m.insns)) (split_sums ms)
    ∙ plus_swap (own_sums (is_covered_method m)) (insns_sums m.insns) (own_all ms) (insns_sums (all_insns ms))
    ∙ ap₂ plus (sym (own_cons m ms)) (sym (insns_join m.insns (all_insns ms)))

-- the sums are the counters but that of lines
pub methods_counted : (ms : List Method) → methods_sums ms ≡ record {
  instruction = count_of is_covered (all_insns ms);
  branch = count_of (λ value. value) (flat_map (λ values. values) (branching (all_insns ms)));
  complexity = complexity_count ms (all_insns ms);
  method = count_of is_covered_method ms;
}
methods_counted ms =
    split_sums ms ∙ ap (plus (own_all ms)) (insns_counted (all_insns ms))
    ∙ same_sums (plus (own_all ms) (counted_insns (all_insns ms)))
    (record {
      instruction = count_of is_covered (all_insns ms);
      branch = count_of (λ (value : Bool). value) (flat_map (λ values. values) (branching (all_insns ms)));
      complexity = complexity_count ms (all_insns ms);
      method = count_of is_covered_method ms;
    })
    (count_none (count_of is_covered (all_insns ms))) (count_none (count_of (λ (value : Bool). value) (flat_map (λ values. values) (branching (all_insns ms)))))
    refl (count_end (count_of is_covered_method ms))

-- ---- sizes

-- what so many instructions and branches add at most
record Within (insns : List (List Bool)) (s : Sums) : Type 0 where
  instruction : whole s.instruction ≤ length insns
  branch : whole s.branch ≤ sum_by length insns
  complexity : whole s.complexity ≤ sum_by length insns
  method : whole s.method ≡ 0

insns_within : (insns : List (List Bool)) → Within insns (insns_sums insns)
insns_within insns = subst (Within insns) (sym (insns_counted insns)) (record {
  instruction = omega (arith, count_whole is_covered insns);
  branch = omega (arith, branch_whole insns, branching_few length (λ v. omega arith) insns);
  complexity = omega (arith, paths_whole (branching insns), branching_few (λ v. length v - 1) (λ v. omega arith) insns);
  method = refl;
})

pub small_count : (c : Count) → whole c < 4294967296 → IsSmallCount c
small_count c lt = (omega arith, omega arith)

pub small_method : (insns : List (List Bool)) (t : Bool) → insns_weight insns < 4294967296 → AreSmall (plus (own_sums t) (insns_sums insns))
small_method insns t lt =
    let s = insns_sums insns in
    let w = insns_within insns in
    let i = w.instruction in
    let b = w.branch in
    let c = w.complexity in
    let m = w.method in
    let o : one_if (not t) + one_if t ≡ 1 = one t in
    record {
      instruction = small_count (plus_count no_items s.instruction) (omega (arith, lt, i));
      branch = small_count (plus_count no_items s.branch) (omega (arith, lt, b));
      complexity = small_count (plus_count (one_item t) s.complexity) (omega (arith, lt, c, o));
      method = small_count (plus_count (one_item t) s.method) (omega (arith, lt, m, o));
    }
  where
    one : (u : Bool) → one_if (not u) + one_if u ≡ 1
    one true = refl
    one false = refl

pub small_insns : (insns : List (List Bool)) → insns_weight insns < 4294967296 → AreSmall (insns_sums insns)
small_insns insns lt =
    let s = insns_sums insns in
    let w = insns_within insns in
    let i = w.instruction in
    let b = w.branch in
    let c = w.complexity in
    let m = w.method in
    record {
      instruction = small_count s.instruction (omega (arith, lt, i));
      branch = small_count s.branch (omega (arith, lt, b));
      complexity = small_count s.complexity (omega (arith, lt, c));
      method = small_count s.method (omega (arith, lt, m));
    }

-- an instruction has fewer branches than the method has instructions and branches
pub few_values : (insns : List (List Bool)) (k : ℕ) (values : List Bool) → k < length insns → values ≡ get_or insns k values → length values < insns_weight insns
few_values insns k values lt is = let le : length values ≤ sum_by length insns = subst (λ (v : List Bool). length v ≤ sum_by length insns) (sym is)
    (get_or-le-sum_by length insns k values lt) in omega (arith, le)

-- ---- on the way

-- one instruction more
pub insn_more : (insns : List (List Bool)) (k : ℕ) (values : List Bool) (sums next : Sums) → k < length insns → values ≡ get_or insns k values → next ≡ plus sums (insn_sums values)
    → plus sums (insns_sums (drop k insns)) ≡ insns_sums insns → plus next (insns_sums (drop (k + 1) insns)) ≡ insns_sums insns
insn_more insns k values sums next lt is put before =
    ap (λ (s : Sums). plus s (insns_sums (drop (k + 1) insns))) put
    ∙ sym (plus_assoc sums (insn_sums values) (insns_sums (drop (k + 1) insns)))
    ∙ sym (ap (λ (l : List (List Bool)). plus sums (insns_sums l)) (drop_is insns k values lt is)) ∙ before

-- what is put together so far stays small
pub insn_small : (insns : List (List Bool)) (k : ℕ) (values : List Bool) (sums : Sums) → insns_weight insns < 4294967296 → k < length insns → values ≡ get_or insns k values
    → plus sums (insns_sums (drop k insns)) ≡ insns_sums insns → AreSmall (plus sums (insn_sums values))
insn_small insns k values sums few lt is before =
    part_small (plus sums (insn_sums values)) (insns_sums (drop (k + 1) insns)) (insns_sums insns)
    (insn_more insns k values sums (plus sums (insn_sums values)) lt is refl before) (small_insns insns few)

pub all_insns_put : (insns : List (List Bool)) (k : ℕ) (sums : Sums) → length insns ≤ k → plus sums (insns_sums (drop k insns)) ≡ insns_sums insns → sums ≡ insns_sums insns
all_insns_put insns k sums le before = sym (ap (λ (l : List (List Bool)). plus sums (insns_sums l)) (drop_all k insns le) ∙ plus_end sums) ∙ before

-- whether an instruction is covered, by the sums
pub covered_told : (insns : List (List Bool)) → nat_lt 0 ((insns_sums insns).instruction.covered) ≡ list_any is_covered insns
covered_told insns = ap (λ (s : Sums). nat_lt 0 (s.instruction.covered)) (insns_counted insns) ∙ any_counted is_covered insns

-- ---- the branches of an instruction

-- so many of the branches are counted
pub record BranchesCounted (values : List Bool) (k : ℕ) (count : Count) : Type 0 where
  pub missed : count.missed ≡ count_by (λ (value : Bool). not value) (take k values)
  pub covered : count.covered ≡ count_by (λ (value : Bool). value) (take k values)
  pub so_many : count.missed + count.covered ≡ k

-- ---- what an instruction adds

pub some_branches : (values : List Bool) (c : Count) → c ≡ count_of (λ (value : Bool). value) values → c.missed + c.covered ≡ length values
some_branches values c e = let a = ap (λ (x : Count). x.missed) e in let b = ap (λ (x : Count). x.covered) e in omega (arith, a, b, whole_branches values)

pub plain_insn : (values : List Bool) (c one : Count) → c ≡ count_of (λ (value : Bool). value) values → one ≡ one_item (nat_lt 0 c.covered) → length values < 2
    → record { instruction = one; branch = no_items; complexity = no_items; method = no_items } ≡ insn_sums values
plain_insn values c one e f lt =
    let t : nat_le 2 (length values) ≡ false = false_from_ne_true (nat_le 2 (length values)) (λ h. let le = leb-true 2 (length values) h in omega (arith, le, lt)) in
    same_sums (record { instruction = one; branch = no_items; complexity = no_items; method = no_items }) (insn_sums values)
    (f ∙ ap (λ (x : Count). one_item (nat_lt 0 x.covered)) e ∙ ap one_item (any_counted (λ (value : Bool). value) values))
    (sym (ap (λ s. cond s (count_of (λ (value : Bool). value) values) no_items) t)) (sym (ap (λ s. cond s (paths (count_of (λ (value : Bool). value) values)) no_items) t)) refl

pub branching_insn : (values : List Bool) (c one path : Count) → c ≡ count_of (λ (value : Bool). value) values → one ≡ one_item (nat_lt 0 c.covered) → path ≡ paths c → 2 ≤ length values
    → record { instruction = one; branch = c; complexity = path; method = no_items } ≡ insn_sums values
branching_insn values c one path e f p le =
    let t : nat_le 2 (length values) ≡ true = le-leb 2 (length values) le in
    same_sums (record { instruction = one; branch = c; complexity = path; method = no_items }) (insn_sums values)
    (f ∙ ap (λ (x : Count). one_item (nat_lt 0 x.covered)) e ∙ ap one_item (any_counted (λ (value : Bool). value) values))
    (e ∙ sym (ap (λ s. cond s (count_of (λ (value : Bool). value) values) no_items) t)) (p ∙ ap paths e ∙ sym (ap (λ s. cond s (paths (count_of (λ (value : Bool). value) values)) no_items) t)) refl
