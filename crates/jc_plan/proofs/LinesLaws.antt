-- The tests for invocation lines and probed edges.
use Rattle.std.proofs.Common.{◌≡◌, ◌⊎◌, ◌↔◌, inl, inr, ⊎_elim, ℕ, zero, suc, ◌+◌, ◌-◌, ◌<◌, ◌≤◌, true, ◌&&◌, ◌||◌, not, nat_eq, List, [], ◌∷◌, drop, Some, None, refl, sym, ap, ◌∙◌, subst, arith, IsTrue}
use Rattle.std.specs.Prelude.{slice_get}
use Rattle.std.proofs.lemmas.Bool.{and_parts, and_from, or_cases, or_left, or_right, eqb-true, eq-eqb, not-true, not_from_false, false_from_ne_true, both_ways, cases_lt}
use Rattle.jc_methods.specs.declared.insn.Insn.{Insn}
use Rattle.jc_methods.specs.declared.body.Body.{Body}
use Rattle.jc_methods.specs.declared.body.LineAt.{LineAt}
use Rattle.jc_methods.specs.Flow.{is_fallen_into}
use Rattle.jc_plan.specs.declared.branch.Branch.{Branch}
use Rattle.jc_plan.specs.declared.branch.Way.{Way}
use Rattle.jc_plan.specs.declared.branch.Way.TheVariants.{Falls, Jumps, Switches, Exits}
use Rattle.jc_plan.specs.Entries.{IsLineStart, IsInvocationLine, is_line_start, is_call, calls_from, is_invocation_line, is_multi_target}
use Rattle.jc_plan.specs.Probed.{IsProbedWay, is_probed_way, IsProbed, is_probed}
use Rattle.jc_bytes.proofs.BooleanLaws.{none_in, which_in, first_in, later_in}

start_found : (lines : List LineAt) (i : ℕ) → is_line_start lines i ≡ true → IsLineStart lines i
start_found [] i h = absurd cc
start_found (l ∷ lines) i h =
    ⊎_elim
    (λ here. (l, first_in l lines, eqb-true l.at i here))
    (λ later. let more = start_found lines i later in (more.0, later_in l lines more.0 more.1, more.2))
    (or_cases (nat_eq l.at i) (is_line_start lines i) h)

start_tested : (lines : List LineAt) (i : ℕ) → IsLineStart lines i → is_line_start lines i ≡ true
start_tested [] i s = absurd (none_in s.0 s.1)
start_tested (l ∷ lines) i s =
    ⊎_elim
    (λ same. or_left (nat_eq l.at i) (is_line_start lines i) (eq-eqb l.at i (ap (λ x. x.at) same ∙ s.2)))
    (λ later. or_right (nat_eq l.at i) (is_line_start lines i) (start_tested lines i (s.0, later, s.2)))
    (which_in l lines s.0 s.1)

-- a call in the code, so many places behind the first one, before the next line starts
record Calls (lines : List LineAt) (at : ℕ) (code : List Insn) : Type 0 where
  far : ℕ
  insn : Insn
  stands : slice_get code far ≡ Some insn
  calls : is_call insn ≡ true
  before_next : (next : ℕ) → at < next → next ≤ at + far → IsLineStart lines next → ⊥

calls_found : (lines : List LineAt) (at : ℕ) (code : List Insn) → calls_from lines at code ≡ true → Calls lines at code
calls_found lines at [] h = absurd cc
calls_found lines at (insn ∷ code) h =
    ⊎_elim
    (λ here. record { far = 0; insn = insn; stands = refl; calls = here; before_next = λ next l g s. omega arith })
    (λ later.
    let both = and_parts (not (is_line_start lines (at + 1))) (calls_from lines (at + 1) code) later in
    let more = calls_found lines (at + 1) code both.1 in
    let none = not-true (is_line_start lines (at + 1)) both.0 in
    record {
      far = suc more.far;
      insn = more.insn;
      stands = more.stands;
      calls = more.calls;
      before_next = λ next l g s.
          ⊎_elim
          (λ at_next. both_ways (is_line_start lines (at + 1)) none (start_tested lines (at + 1) (subst (IsLineStart lines) at_next s)))
          (λ behind. more.before_next next behind (omega arith) s)
          (next_or_later at next l);
    })
    (or_cases (is_call insn) (not (is_line_start lines (at + 1)) && calls_from lines (at + 1) code) h)
  where
    next_or_later : (at next : ℕ) → at < next → (next ≡ at + 1) ⊎ (at + 1 < next)
    next_or_later at next l = ⊎_elim (λ lt. inr lt) (λ ge. inl (omega arith)) (cases_lt (at + 1) next)

calls_tested : (lines : List LineAt) (at far : ℕ) (code : List Insn) (insn : Insn) → slice_get code far ≡ Some insn → is_call insn ≡ true
    → ((next : ℕ) → at < next → next ≤ at + far → IsLineStart lines next → ⊥) → calls_from lines at code ≡ true
calls_tested lines at far [] insn h c before = cc
calls_tested lines at zero (x ∷ code) insn h c before =
    let same : x ≡ insn = cc in
    or_left (is_call x) (not (is_line_start lines (at + 1)) && calls_from lines (at + 1) code) (ap is_call same ∙ c)
calls_tested lines at (suc far) (x ∷ code) insn h c before =
    let none = false_from_ne_true (is_line_start lines (at + 1)) (λ s. before (at + 1) (omega arith) (omega arith) (start_found lines (at + 1) s)) in
    or_right (is_call x) (not (is_line_start lines (at + 1)) && calls_from lines (at + 1) code)
    (and_from (not (is_line_start lines (at + 1))) (calls_from lines (at + 1) code) (not_from_false (is_line_start lines (at + 1)) none)
    (calls_tested lines (at + 1) far code insn h c (λ next l g s. before next (omega arith) (omega arith) s)))

get_dropped : (code : List Insn) (i k : ℕ) → slice_get (drop i code) k ≡ slice_get code (i + k)
get_dropped code zero k = let e : k ≡ 0 + k = omega arith in ap (slice_get code) e
get_dropped [] (suc i) k = sym (nothing (suc i + k))
  where
    nothing : (k : ℕ) → slice_get {X = Insn} ([]) k ≡ None
    nothing k = refl
get_dropped (x ∷ code) (suc i) k =
    let e : suc (i + k) ≡ suc i + k = omega arith in
    get_dropped code i k ∙ ap (slice_get (x ∷ code)) e

pub line_tested : (b : Body) (i : ℕ) → IsTrue (is_invocation_line b i) ↔ IsInvocationLine b i
line_tested b i = (to, from)
  where
    to : is_invocation_line b i ≡ true → IsInvocationLine b i
    to h =
        let both = and_parts (is_line_start b.lines i) (calls_from b.lines i (drop i b.code)) h in
        let c = calls_found b.lines i (drop i b.code) both.1 in
        record {
          start = start_found b.lines i both.0;
          call = i + c.far;
          insn = c.insn;
          stands = sym (get_dropped b.code i c.far) ∙ c.stands;
          calls = c.calls;
          behind = omega arith;
          before_next = c.before_next;
        }

    from : IsInvocationLine b i → is_invocation_line b i ≡ true
    from l =
        let behind = l.behind in
        let e : l.call ≡ i + (l.call - i) = omega arith in
        and_from (is_line_start b.lines i) (calls_from b.lines i (drop i b.code)) (start_tested b.lines i l.start)
        (calls_tested b.lines i (l.call - i) (drop i b.code) l.insn
        (get_dropped b.code i (l.call - i) ∙ ap (slice_get b.code) (sym e) ∙ l.stands) l.calls
        (λ next a g s. l.before_next next a (omega arith) s))

pub way_tested : (b : Body) (x : Branch) → IsTrue (is_probed b x) ↔ IsProbed b x
way_tested b x = by x.way
  where
    by : (way : Way) → IsTrue (is_probed_way b way) ↔ IsProbedWay b way
    by (Falls i) = (
      (λ h.
          let both = and_parts (is_fallen_into b.code i) (is_multi_target b i || is_invocation_line b i) h in
          (both.0, ⊎_elim (λ m. inl m) (λ l. inr ((line_tested b i).0 l)) (or_cases (is_multi_target b i) (is_invocation_line b i) both.1))),
      (λ p. and_from (is_fallen_into b.code i) (is_multi_target b i || is_invocation_line b i) p.0
          (⊎_elim (λ m. or_left (is_multi_target b i) (is_invocation_line b i) m) (λ l. or_right (is_multi_target b i) (is_invocation_line b i) ((line_tested b i).1 l)) p.1)),
    )
    by (Jumps i) = ((λ h. h), (λ h. h))
    by (Switches i) = ((λ h. h), (λ h. h))
    by Exits = ((λ h. tt), (λ h. refl))
