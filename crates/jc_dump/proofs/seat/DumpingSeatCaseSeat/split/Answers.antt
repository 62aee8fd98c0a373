use Rattle.std.proofs.Common.{[], sym, subst}
use Rattle.jc_dump.specs.HasRun.{HasRun}
use Rattle.jc_dump.proofs.RunLaws.{none, without}
use Rattle.jc_dump.proofs.seat.DumpingSeatCaseSeat.split.Goals as goal

pub returns-clause-ran : goal.returns-clause-ran
returns-clause-ran g c = λ runner cases ran.
    let b = c.args.board.now in
    let was = c.args.self.now in
    let e = c.split-seat.ensures in
    without b.every b.board.counts (g.C.CaseRunner.hits runner) cases was.seat c.split-seat.new.self was.dumps.items e.hits.0 e.hits.1 e.taken.0 e.taken.1
    e.alone.0 ran

pub returns-clause-new : goal.returns-clause-new
returns-clause-new g c = λ runner.
    let b = c.args.board.now in
    let e = c.split-seat.ensures.new in
    let hits = g.C.CaseRunner.hits runner in
    subst (HasRun b.every b.board.counts hits [] c.split-seat.result) (sym c.new-dumps.ensures.items)
    (none b.every b.board.counts hits c.split-seat.result e.0 e.1 e.2)
