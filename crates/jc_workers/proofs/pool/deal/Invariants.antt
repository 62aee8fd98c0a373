use Rattle.std.proofs.Common.{◌≡◌, ◌+◌, ◌*◌, [], vec_len}
use Rattle.jc_workers.specs.Drawing.{AreTurns}
use Rattle.jc_workers.proofs.pool.deal.Given as goal

abbrev pub invariant-dealing : goal.invariant-dealing
invariant-dealing g l = g.S.CaseSeat.at l.whole.seat l.work.board.now × g.S.CaseSeat.ran l.whole.seat l.work.board.now l._runner []
    × (g.S.CaseSeat.part l.whole.seat + 2048 * l.counter ≡ 65536)
    × (l.whole.drawer.table ≡ l.initial.whole.drawer.table) × (l.whole.drawer.numbers ≡ l.initial.whole.drawer.numbers)
    × (l.whole.drawer.budget + l.counter * (l.work.cases + 1) ≡ l.workers * (l.work.cases + 1))
    × AreTurns (λ s. g.S.CaseSeat.at s l.work.board.now × (g.S.CaseSeat.part s ≡ l.work.part)) (λ s cases. g.S.CaseSeat.ran s l.work.board.now l._runner cases)
    l.work.claims.now.table (l.work.cases + 1) l.turns.items
    × (vec_len l.turns ≡ l.counter)
