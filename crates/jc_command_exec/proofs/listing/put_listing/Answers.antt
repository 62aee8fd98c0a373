use Rattle.std.proofs.Common.{[], None, ◌∙◌, arith}
use Rattle.std.proofs.lemmas.Result.{err_from_is_err_and}
use Rattle.jc_command_work.specs.Step.{to_out}
use Rattle.jc_command_work.proofs.AnsweredLaws.{none_made}
use Rattle.jc_command_work.proofs.Reaching.{writes_start, write_failed, write_made, writes_made}
use Rattle.jc_command_exec.proofs.listing.put_listing.Goals as goal

pub returns-in_default : goal.returns-in_default
returns-in_default g c landed contents failed err reads writes errs = none_made landed _ _ _

pub putting-init : goal.putting-init
putting-init g c landed contents failed err reads writes errs = writes_start landed to_out c.args.listing.now _ _

pub returns-in_err-line : goal.returns-in_err-line
returns-in_err-line g c landed contents failed err reads writes errs =
    let p = err_from_is_err_and c.from_residual.result c.from_residual.ensures.1 in
    rw (p.1, p.2) ((c.putting.invariant landed contents failed err reads writes errs).ended _ _ None (none_made landed _ _ _))

pub returns-in_err-put_out : goal.returns-in_err-put_out
returns-in_err-put_out g c landed contents failed err reads writes errs =
    let p = err_from_is_err_and c.from_residual-in_err-put_out.result c.from_residual-in_err-put_out.ensures.1 in
    rw (p.1, p.2)
    (write_failed landed to_out c.args.listing.now c.putting.place [] (omega (arith, c.putting-test.true, c.in-Some.ensures)) c.deref.result.now
    (c.deref.ensures.value ∙ c.in_ok-line.ensures) _ _ _ _ _ _ (c.putting.invariant landed contents failed err reads writes errs) _
    (c.in_err-put_out.ensures.does landed contents failed err reads writes errs))

pub putting-preserved : goal.putting-preserved
putting-preserved g c landed contents failed err reads writes errs =
    write_made landed to_out c.args.listing.now c.putting.place [] (omega (arith, c.putting-test.true, c.in-Some.ensures)) c.deref.result.now
    (c.deref.ensures.value ∙ c.in_ok-line.ensures) _ _ _ _ _ _ (c.putting.invariant landed contents failed err reads writes errs)
    (c.in_ok-put_out.ensures.does landed contents failed err reads writes errs)

pub returns : goal.returns
returns g c landed contents failed err reads writes errs =
    writes_made landed to_out c.args.listing.now c.putting.place (omega (arith, c.putting-test.false, c.in-Some.ensures)) _ _ _ _
    (c.putting.invariant landed contents failed err reads writes errs)
