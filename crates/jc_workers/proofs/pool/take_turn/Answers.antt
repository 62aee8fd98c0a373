use Rattle.std.proofs.Common.{rules, ℕ, ◌≡◌, ◌+◌, ◌<◌, ◌≤◌, ◌++◌, ◌∷◌, [], List, length, arith, refl, ap, sym, ◌∙◌, subst, inl, inr, ⊎_elim, length-append}
use Rattle.std.specs.Prelude.{Contains}
use Rattle.std.specs.List.Sorted.{IsStrictlyIncreasing}
use Rattle.jc_workers.specs.Claims.{DrawerSeen}
use Rattle.jc_workers.specs.Ran.{EndsOf}
use Rattle.jc_workers.specs.Drawing.{cases_in, GoesPast, HavePassed}
use Rattle.jc_workers.proofs.NumberLaws.{has_new, has_old, has_one, rises, cases_more, cases_past}
use Rattle.jc_workers.proofs.RanLaws.{nothing, no_ends, same_ends, more_ends}
use Rattle.jc_workers.proofs.pool.take_turn.Goals as goal
use Rattle.jc_workers.proofs.pool.take_turn.Goals.{else-drawing-test, then-drawing-test+then-number-cases}

pub drawing-init : goal.drawing-init
drawing-init g c =
    let i = c.requires.turn in
    let cases = c.args.work.now.cases in
    let numbers = c.args.turn.drawer.numbers in
    let none : (k : ℕ) → Contains numbers k → ⊥ = λ k h. nothing k (subst (λ (l : List ℕ). Contains l k) i.3 h) in (
      i.0.0,
      i.0.1,
      λ a. a,
      subst (λ (l : List ℕ). g.S.CaseSeat.ran c.args.turn.seat c.args.work.now.board.now c.args.runner.now (cases_in cases l)) (sym i.3) i.1,
      i.2,
      omega (arith, i.4),
      ap length i.3,
      inl refl,
      subst (EndsOf cases (g.C.CaseRunner.end_of c.args.runner.now) (Contains numbers)) (sym c.new-ends.ensures.items)
          (no_ends cases (g.C.CaseRunner.end_of c.args.runner.now) (Contains numbers) none),
      λ k lt. absurd (omega (arith, lt, ap length i.3)),
      λ k lt h. absurd (none k h),
      c.in_ok-world.ensures,
      c.in_ok-known.ensures,
    )

pub drawing-preserved : goal.drawing-preserved
drawing-preserved g c =
    let i = c.drawing.invariant in
    let runner = c.args.runner.now in
    let board = c.args.work.now.board.now in
    let cases = c.args.work.now.cases in
    let end_of = g.C.CaseRunner.end_of runner in
    let numbers = c.drawing.drawer.numbers in
    let k = c.draw-number.result in
    let new = c.draw-number.ensures.numbers in
    let run = c.in_ok-end.ensures in
    let next = c.in_ok-end.next in
    let there : k < cases = omega arith in
    let above = c.draw-number.ensures.above in
    let counts : length c.draw-number.new.self.numbers ≡ c.drawing.counter + 1 = omega (arith, ap length new, length-append numbers (k ∷ []), i.6) in
    let high : c.drawing.counter + 1 ≤ k + 1 = ⊎_elim (λ z. omega (arith, z)) (λ t. omega (arith, t.2, above t.0 t.1)) i.7 in (
      run.seat.0,
      run.seat.1 ∙ i.1,
      λ a. run.seat.2 (i.2 a),
      subst (λ (l : List ℕ). g.S.CaseSeat.ran next board runner l) (sym (ap (cases_in cases) new ∙ cases_more cases numbers k there))
          (run.ran (cases_in cases numbers) i.3),
      c.draw-number.ensures.claims ∙ i.4,
      omega (arith, c.draw-number.ensures.budget, i.5),
      counts,
      inr (k, subst (λ (l : List ℕ). Contains l k) (sym new) (has_new numbers k), high),
      subst (λ (l : List ℕ). EndsOf cases end_of (Contains l) c.push.new.self.items) (sym new)
          (rw c.in_ok-push.ensures.items
          (more_ends cases (Contains numbers) (Contains (numbers ++ k ∷ [])) k there (λ n _ h. has_old numbers k n h) (λ n _ h. has_one numbers k n h)
          (has_new numbers k) end_of c.drawing.ends.items c.in_ok-end.end run.end i.8)),
      subst IsStrictlyIncreasing (sym new) (rises numbers k i.9 above),
      subst (λ (l : List ℕ). HavePassed cases (g.G.Gate.passed c.args.gate.now) (Contains l)) (sym new)
          (λ n low h. ⊎_elim (λ old. i.10 n low old) (λ e. subst (λ m. g.G.Gate.passed c.args.gate.now (m + 1)) (sym e) (search rules))
          (has_one numbers k n h)),
      run.world,
      run.known,
    )

-- the last number is no case
past : (cases : ℕ) (numbers : List ℕ) (k n : ℕ) → cases ≤ k → n < cases → Contains (numbers ++ k ∷ []) n → Contains numbers n
past cases numbers k n high low h = ⊎_elim (λ old. old) (λ e. absurd (omega (arith, high, low, e))) (has_one numbers k n h)

pub returns-clause-drew : goal.returns-clause-drew
returns-clause-drew g c =
    let i = c.drawing.invariant in
    let runner = c.args.runner.now in
    let board = c.args.work.now.board.now in
    let n = c.args.work.now.cases in
    let end_of = g.C.CaseRunner.end_of runner in
    let passed = g.G.Gate.passed c.args.gate.now in
    let ends = c.drawing.ends.items in
    let numbers = c.drawing.drawer.numbers in
    let Here : DrawerSeen → Type 0 = λ d. g.S.CaseSeat.ran c.drawing.seat board runner (cases_in n d.numbers) × (d.table ≡ c.args.work.now.claims.now.table)
    × (length d.numbers + d.budget ≡ n + 1) × GoesPast n d.numbers × EndsOf n end_of (Contains d.numbers) ends × IsStrictlyIncreasing d.numbers
    × HavePassed n passed (Contains d.numbers) in
    let all = elim c.drawing-test.branch as (λ _. Here c.drawing-test.drawer) [
      | else-drawing-test w ↦ subst Here (sym w.drawer-is) (
        i.3,
        i.4,
        omega (arith, i.5, i.6),
        ⊎_elim (λ z. absurd (omega (arith, z, w.drawing-test.false))) (λ t. (t.0, t.1, omega (arith, t.2, w.drawing-test.false))) i.7,
        i.8,
        i.9,
        i.10,
      )
      | then-drawing-test+then-number-cases w ↦
          let k = w.draw-number.result in
          let new = w.draw-number.ensures.numbers in
          let high = w.if-number-cases.true in
          subst Here (sym w.drawer-is) (
            subst (λ (l : List ℕ). g.S.CaseSeat.ran c.drawing.seat board runner l) (sym (ap (cases_in n) new ∙ cases_past n numbers k high)) i.3,
            w.draw-number.ensures.claims ∙ i.4,
            omega (arith, ap length new, length-append numbers (k ∷ []), i.6, i.5, w.draw-number.ensures.budget),
            (k, subst (λ (l : List ℕ). Contains l k) (sym new) (has_new numbers k), high),
            subst (λ (l : List ℕ). EndsOf n end_of (Contains l) ends) (sym new)
                (same_ends n (Contains numbers) (Contains (numbers ++ k ∷ [])) (λ j _ h. has_old numbers k j h)
                (λ j low h. past n numbers k j high low h) end_of ends i.8),
            subst IsStrictlyIncreasing (sym new) (rises numbers k i.9 w.draw-number.ensures.above),
            subst (λ (l : List ℕ). HavePassed n passed (Contains l)) (sym new) (λ j low h. i.10 j low (past n numbers k j high low h)),
          )
    ] in
    ((i.0, i.1), all.0, all.1, all.2, all.3, all.4, all.5, all.6)
