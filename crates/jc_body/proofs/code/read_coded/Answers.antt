use Rattle.std.proofs.Common.{rules}
use Rattle.std.proofs.lemmas.Result.{err_from_is_err_and}
use Rattle.jc_body.proofs.ReadingLaws.{stopped_refusal}
use Rattle.jc_body.proofs.code.read_coded.Goals as goal

pub returns-in_err-decoded-in-Some-clause-refused : goal.returns-in_err-decoded-in-Some-clause-refused
returns-in_err-decoded-in-Some-clause-refused c = λ major owner.
    let p = err_from_is_err_and c.from_residual-in_err-decoded-in-Some.result c.from_residual-in_err-decoded-in-Some.ensures.1 in
    rw (p.1, p.2) (stopped_refusal major c.args.pool.now owner c.args.method.now c.args.number c.in-Some.items c.deref.result.now (search rules)
    (search rules) c.in_err-decoded-in-Some.field-0.0 c.in_err-decoded-in-Some.ensures.refused)
