use Rattle.jc_dump.proofs.RunLaws.{one_more}
use Rattle.jc_dump.proofs.seat.DumpingSeatCaseSeat.run_case.Goals as goal

pub returns-clause-ran : goal.returns-clause-ran
returns-clause-ran g c = λ cases ran.
    let b = c.args.board.now in
    let run = c.in_ok-end.ensures in
    one_more b.every b.board.counts (g.C.CaseRunner.hits c.args.runner.now) c.requires.board.0.2 cases c.args.case c.args.self.seat c.in_ok-end.seat
    c.args.self.dumps.items ran run.since run.gained c.take_due.new.seat c.take_due.new.dumps.items c.in_ok-take_due.ensures.taken
