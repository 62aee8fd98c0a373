use Rattle.std.proofs.Common.{sym}
use Rattle.jc_instrument.proofs.ClassWalkLaws.{end_analysed, end_refused}
use Rattle.jc_instrument.proofs.class_walk.ClassWalk.end.Goals as goal

pub returns-in-Some-clause-refused : goal.returns-in-Some-clause-refused
returns-in-Some-clause-refused c = λ bytes handed is. end_refused bytes c.args.self.now handed is c.in-Some.refusal (sym c.in-Some.ensures)

pub returns-in-None-clause-ends : goal.returns-in-None-clause-ends
returns-in-None-clause-ends c = λ bytes handed is. end_analysed bytes c.args.self.now handed is (sym c.in-None.ensures)
