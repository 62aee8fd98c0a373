use Rattle.std.proofs.Common.{ℕ, List, subst}
use Rattle.std.proofs.lemmas.Result.{err_from_is_err_and}
use Rattle.jc_command_work.specs.Part.{writing}
use Rattle.jc_command_work.specs.Step.{to_out}
use Rattle.jc_command_work.specs.Ending.{DoesOut}
use Rattle.jc_command_work.specs.Seen.{stop_seen}
use Rattle.jc_command_sample.proofs.OutLaws.{stopped, written}
use Rattle.jc_command_sample.proofs.work.sample.Goals as goal

pub returns-in_err-line : goal.returns-in_err-line
returns-in_err-line g c landed contents failed err reads writes errs =
    let p = err_from_is_err_and c.from_residual.result c.from_residual.ensures.1 in
    rw (p.1, p.2) (stopped c.args.methods landed _ _ (stop_seen c.in_err-line.field-0.0) c.in_err-line.ensures)

pub returns : goal.returns
returns g c =
    let old = g.O.Sink.told c.args.out.now in
    let new = g.O.Sink.told c.put_out.new.out in
    let outs = g.O.Sink.faults c.args.out.now in
    let outs' = g.O.Sink.faults c.put_out.new.out in
    written c.args.methods c.in_ok-line.line.items old new outs outs' c.put_out.result c.in_ok-line.ensures
    (subst (λ (l : List ℕ). DoesOut (writing (to_out l)) (λ _. tt) stop_seen old new outs outs' c.put_out.result) c.deref.ensures.value c.put_out.ensures.does)
