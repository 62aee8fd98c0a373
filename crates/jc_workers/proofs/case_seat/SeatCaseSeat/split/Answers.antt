use Rattle.std.proofs.Common.{sym, subst}
use Rattle.std.specs.Prelude.{Contains}
use Rattle.jc_workers.specs.Ran.{HitsOf}
use Rattle.jc_workers.proofs.RanLaws.{none_ran}
use Rattle.jc_workers.proofs.case_seat.SeatCaseSeat.split.Goals as goal

pub returns-clause-ran : goal.returns-clause-ran
returns-clause-ran g c = λ runner cases ran.
    subst (HitsOf (g.C.CaseRunner.cases runner) (g.C.CaseRunner.hits runner) (Contains cases)) (sym c.split.ensures.hits.0) ran

pub returns-clause-new : goal.returns-clause-new
returns-clause-new g c = λ runner. none_ran (g.C.CaseRunner.cases runner) (g.C.CaseRunner.hits runner) c.split.result.hits c.split.ensures.hits.1
