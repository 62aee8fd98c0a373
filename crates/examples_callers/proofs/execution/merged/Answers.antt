use Rattle.std.proofs.Common.{[], inr}
use Rattle.std.proofs.lemmas.Result.{err_from_is_err_and}
use Rattle.examples_callers.proofs.execution.merged.Goals as goal

pub returns-in_err-read-2-clause-refused : goal.returns-in_err-read-2-clause-refused
returns-in_err-read-2-clause-refused c =
    let p = err_from_is_err_and c.from_residual-in_err-read-2.result c.from_residual-in_err-read-2.ensures.1 in
    let a = c.in_ok-read.ensures.union [] c.in_ok-store.ensures.union in
    rw (p.1, p.2) (inr (a.0, c.read.new.self, a.1, a.2, c.in_err-read-2.ensures.refused))

pub returns-clause-union : goal.returns-clause-union
returns-clause-union c =
    let a = c.in_ok-read.ensures.union [] c.in_ok-store.ensures.union in
    let b = c.in_ok-read-2.ensures.union a.0 a.2 in
    (a.0, b.0, c.read-2.new.self, a.1, b.1, b.2, c.in_ok-write.ensures.text)
