use Rattle.std.proofs.Common.{◌≡◌, ◌+◌, ◌*◌, ◌<◌, ◌⊎◌, ℕ, length, vec_len}
use Rattle.std.specs.Prelude.{Contains, Some, slice_get}
use Rattle.jc_workers.specs.Drawing.{AllDrew, GoesPast, HavePassed, cases_in}
use Rattle.jc_workers.proofs.results.collect.Given as goal

abbrev pub invariant-joining : goal.invariant-joining
invariant-joining g l = g.S.CaseSeat.at l.seat l.board × (g.S.CaseSeat.part l.seat + 2048 * vec_len l.gave ≡ 65536)
    × g.S.CaseSeat.ran l.seat l.board l.runner (cases_in (g.C.CaseRunner.cases l.runner) l.drawer.numbers)
    × AllDrew (λ s. g.S.CaseSeat.at s l.board × (g.S.CaseSeat.part s ≡ 2048)) (λ s cases. g.S.CaseSeat.ran s l.board l.runner cases) l.fn.claims.table
    (g.C.CaseRunner.cases l.runner) (g.C.CaseRunner.end_of l.runner) (g.G.Gate.passed l._gate) l.gave.items
    × (l.drawer.table ≡ l.fn.claims.table)
    × (length l.drawer.numbers + l.drawer.budget + vec_len l.gave * (g.C.CaseRunner.cases l.runner + 1) ≡ l.fn.claims.budget)
    × ((0 < vec_len l.gave) ⊎ GoesPast (g.C.CaseRunner.cases l.runner) l.drawer.numbers)
    × (vec_len l.ends ≡ g.C.CaseRunner.cases l.runner)
    × ((k : ℕ) → k < g.C.CaseRunner.cases l.runner → Contains l.drawer.numbers k → slice_get l.ends.items k ≡ Some (Some (g.C.CaseRunner.end_of l.runner k)))
    × HavePassed (g.C.CaseRunner.cases l.runner) (g.G.Gate.passed l._gate) (Contains l.drawer.numbers)

abbrev pub decreases-joining : goal.decreases-joining
decreases-joining g l = vec_len l.gave
