-- Entries, counted one by one.
use Rattle.std.proofs.Common.{◌≡◌, ℕ, zero, suc, ◌+◌, ◌*◌, ◌<◌, ◌≤◌, Bool, true, false, List, ◌++◌, length, take, get_or, replicate, map, nat_eq, refl, sym, ◌∙◌, ap, subst, arith}
use Rattle.std.specs.Prelude.{All}
use Rattle.std.specs.List.{count_by}
use Rattle.std.proofs.lemmas.List.Elements.{All-from_recursion, All-get_or}
use Rattle.std.proofs.lemmas.List.Sums.{count_by-le-length}
use Rattle.std.proofs.lemmas.Grind.{get_or_default_zero}
use Rattle.std.specs.Cmp.{nat_eq_equiv}
use Rattle.jc_bytes.specs.PlainLists.{places, join_from}
use Rattle.jc_methods.specs.Flow.{flow_of, targets_of}
use Rattle.jc_methods.specs.InsnUse.{LeadsWithin}
use Rattle.jc_methods.specs.WellMade.{insns_and_arms}
use Rattle.jc_methods.specs.declared.insn.Insn.{Insn}
use Rattle.jc_methods.specs.declared.body.Body.{Body}
use Rattle.jc_methods.specs.declared.body.Handler.{Handler}
use Rattle.jc_plan.specs.declared.branch.Branch.{Branch}
use Rattle.jc_plan.specs.Edges.{branches, branches_of}
use Rattle.jc_plan.specs.Entries.{one_if, entries, leads_to}
use Rattle.jc_plan.specs.InsnFacts.{enters, EntersWithin}
use Rattle.jc_plan.proofs.PlacesLaws.{same_as_mapped, joins_one}
use Rattle.jc_plan.proofs.CountLaws.{count_join}
use Rattle.jc_plan.proofs.FlowLaws.{all_entered, few_branches, few_in_front, length_join, branches_within}

zeros : (n i : ℕ) → ◌≡◌ {A = ℕ} (get_or (replicate n 0) i 0) 0
zeros zero i = refl
zeros (suc n) zero = refl
zeros (suc n) (suc i) = zeros n i

pub one_most : (t : Bool) → one_if t ≤ 1
one_most true = omega arith
one_most false = omega arith

-- the counts of the entries of a body, with its exception rows and its branches
module _ (b : Body) (rows : List Handler) (listed : List Branch) (same_rows : rows ≡ b.handlers) (same_branches : listed ≡ branches b.code)
    (none one : List ℕ) (empty : none ≡ replicate (length b.code) 0) (first : (i : ℕ) → get_or one i 0 ≡ get_or none i 0 + one_if (nat_eq 0 i)) where
  nothing : (i : ℕ) → get_or none i 0 ≡ 0
  nothing i = ap (λ (l : List ℕ). get_or l i 0) empty ∙ zeros (length b.code) i

  pub room_for_rows : length b.handlers < 4294967296 → (i : ℕ) → get_or one i 0 + 2 * length rows < 18446744073709551616
  room_for_rows few i = let size : length rows ≡ length b.handlers = ap length same_rows in omega (arith, first i, nothing i, one_most (nat_eq 0 i), few, size)

  module _ (more : List ℕ) (second : (i : ℕ) → get_or more i 0 ≡ get_or one i 0 + count_by (λ h. nat_eq h.start i) rows + count_by (λ h. nat_eq h.target i) rows) where
    pub room_for_branches : length b.handlers < 4294967296 → insns_and_arms b.code ≤ 65535 → (i : ℕ) → get_or more i 0 + length listed < 18446744073709551616
    room_for_branches few small i =
        let size : length rows ≡ length b.handlers = ap length same_rows in
        let all : length listed ≡ length (branches b.code) = ap length same_branches in
        omega (
          arith,
          first i,
          nothing i,
          one_most (nat_eq 0 i),
          second i,
          few,
          size,
          all,
          small,
          few_branches b.code,
          count_by-le-length (λ (h : Handler). nat_eq h.start i) rows,
          count_by-le-length (λ (h : Handler). nat_eq h.target i) rows,
        )

    pub entries_counted : (all : List ℕ) → length all ≡ length b.code → ((i : ℕ) → get_or all i 0 ≡ get_or more i 0 + count_by (enters i) listed) → all ≡ map (entries b) (places b.code)
    entries_counted all size third = same_as_mapped (entries b) all (length b.code) size each
      where
        each : (i d : ℕ) → i < length b.code → get_or all i d ≡ entries b i
        each i d lt =
            let one_first : one_if (nat_eq 0 i) ≡ one_if (nat_eq i 0) = ap one_if (nat_eq_equiv.symm 0 i) in
            let jumps : count_by (enters i) listed ≡ count_by (leads_to i) b.code = ap (count_by (enters i)) same_branches ∙ all_entered i b.code in
            let starts : count_by (λ (h : Handler). nat_eq h.start i) rows ≡ count_by (λ (h : Handler). nat_eq h.start i) b.handlers = ap (count_by (λ (h : Handler). nat_eq h.start i)) same_rows in
            let targets : count_by (λ (h : Handler). nat_eq h.target i) rows ≡ count_by (λ (h : Handler). nat_eq h.target i) b.handlers =
            ap (count_by (λ (h : Handler). nat_eq h.target i)) same_rows in
            get_or_default_zero all i d (let l : i < length all = omega (arith, size) in l)
            ∙ (let e : get_or all i 0 ≡ entries b i = omega (arith, nothing i, one_first, jumps, starts, targets, first i, second i, third i) in e)

-- ---- one instruction more

-- the entries by the instructions in front of one, and those by it
module _ (code : List Insn) (n : ℕ) (insn : Insn) (lt : n < length code) (is : insn ≡ get_or code n insn) where
  abbrev before : List Branch
  before = join_from branches_of 0 (take n code)

  joined : before ++ branches_of n insn ≡ join_from branches_of 0 (take (n + 1) code)
  joined = joins_one branches_of code n insn before (before ++ branches_of n insn) lt is refl refl

  pub entered_next : (i : ℕ) → count_by (enters i) (join_from branches_of 0 (take (n + 1) code)) ≡ count_by (enters i)
      (join_from branches_of 0 (take n code)) + count_by (enters i) (branches_of n insn)
  entered_next i = sym (ap (count_by (enters i)) joined) ∙ count_join (enters i) before (branches_of n insn)

  pub entered_few : (i : ℕ) → count_by (enters i) (join_from branches_of 0 (take n code)) + length (branches_of n insn) ≤ length (branches code)
  entered_few i =
      let front : length (join_from branches_of 0 (take (n + 1) code)) ≤ length (branches code) = few_in_front 0 (n + 1) code in
      let size : length before + length (branches_of n insn) ≡ length (join_from branches_of 0 (take (n + 1) code)) = sym (length_join before (branches_of n insn)) ∙ ap length joined in
      let some : count_by (enters i) before ≤ length before = count_by-le-length (enters i) before in
      omega (arith, front, size, some)

  pub enters_within : (count : ℕ) → All (LeadsWithin count) code → All (EntersWithin count) (branches_of n insn)
  enters_within count leads =
      All-from_recursion (EntersWithin count) (branches_of n insn)
      (branches_within count n (flow_of insn) (targets_of insn) (subst (LeadsWithin count) (sym is) (All-get_or (LeadsWithin count) code n insn lt leads)))
