use Rattle.jc_dump.proofs.RunLaws.{both}
use Rattle.jc_dump.proofs.seat.DumpingSeatCaseSeat.join.Goals as goal

pub returns-clause-ran : goal.returns-clause-ran
returns-clause-ran g c = λ runner xs ys ran more.
    let b = c.args.board.now in
    let e = c.join.ensures in
    both b.every b.board.counts (g.C.CaseRunner.hits runner) xs ys c.args.self.now.seat c.args.other.seat c.join.new.self c.args.self.now.dumps.items
    c.args.other.dumps.items c.append.new.self.items c.in_ok-append.ensures.items e.hits.0 e.hits.1 e.taken.0 e.taken.1 e.part.1 ran more
