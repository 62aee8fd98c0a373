use Rattle.std.proofs.Common.{ℕ, ◌≡◌, subst}
use Rattle.jc_workers.specs.Drawing.{DidDraw}
use Rattle.jc_workers.proofs.alone.run_alone.Goals as goal

pub collect_one-requires-clause-only : goal.collect_one-requires-clause-only
collect_one-requires-clause-only g c =
    let runner = c.args.runner.now in
    let board = c.args.board.now in
    subst (λ (n : ℕ). DidDraw {E = g.row.C-End.Denot} {S = g.row.S.Denot} (λ s. g.S.CaseSeat.at s board × (g.S.CaseSeat.part s ≡ 65536))
    (λ s cases. g.S.CaseSeat.ran s board runner cases) c.in_ok-claims.claims.table n (g.C.CaseRunner.end_of runner) (g.G.Gate.passed c.args.gate.now)
    c.in_ok-only.only) c.case_count-cases.ensures c.in_ok-only.ensures.drew
