use Rattle.std.proofs.Common.{arith, subst}
use Rattle.jc_programs.specs.declared.run_end.CaseEnd.{CaseEnd}
use Rattle.jc_workers.specs.Cases.{case_at, end_under}
use Rattle.jc_workers.specs.Drawing.{AllDrew}
use Rattle.jc_dump.specs.declared.seat.DumpingSeat.{DumpingSeat}
use Rattle.jc_dump.specs.OnBoard.{IsSeatOf, RanFrom}
use Rattle.jc_dump.proofs.running.run_beside.Goals as goal

pub collect-requires-clause-gave : goal.collect-requires-clause-gave
collect-requires-clause-gave g c =
    let runner = c.args.runner.now in
    let program = runner.program.now in
    let plan = runner.plan.now in
    let gave = c.in_ok-gave.gave in (
      omega (arith, c.in_ok-gave.ensures.0, c.in_ok-turns.ensures.turns.1, c.requires.workers.0),
      subst (λ n. AllDrew {E = CaseEnd} {S = DumpingSeat} (IsSeatOf c.args.board.now 2048) (RanFrom c.args.board.now program plan)
          c.in_ok-claims.claims.table n (λ k. end_under program (case_at plan k)) (g.G.Gate.passed c.args.gate.now) gave.items)
          c.len-cases.ensures c.in_ok-gave.ensures.1,
    )
