use Rattle.std.proofs.lemmas.Result.{err_from_is_err_and}
use Rattle.jc_command_work.specs.Seen.{write_seen}
use Rattle.jc_command_work.proofs.Reaching.{write_failed, write_made, writes_made}
use Rattle.jc_command_work.proofs.References.{references_then}
use Rattle.jc_command_work.proofs.output.write_all.Goals as goal

pub writing-preserved : goal.writing-preserved
writing-preserved g c = (
  references_then c.writing.invariant.0 c.in_ok-write_one.ensures.does.0,
  write_made g.F.Files.landed write_seen c.args.writes.now c.writing.write-index c.write-item.result c.writing-test.true c.write-item.result
      c.write-item.is _ _ _ _ _ _ c.writing.invariant.1 c.in_ok-write_one.ensures.does.1,
)

pub returns-in_err-write_one-clause-does : goal.returns-in_err-write_one-clause-does
returns-in_err-write_one-clause-does g c =
    let p = err_from_is_err_and c.from_residual.result c.from_residual.ensures.1 in
    rw (p.1, p.2) (
      references_then c.writing.invariant.0 c.in_err-write_one.ensures.does.0,
      write_failed g.F.Files.landed write_seen c.args.writes.now c.writing.write-index c.write-item.result c.writing-test.true c.write-item.result
          c.write-item.is _ _ _ _ _ _ c.writing.invariant.1 _ c.in_err-write_one.ensures.does.1,
    )

pub returns-clause-does : goal.returns-clause-does
returns-clause-does g c = (c.writing.invariant.0, writes_made g.F.Files.landed write_seen c.args.writes.now c.writing.write-index c.writing-test.false _ _ _ _ c.writing.invariant.1)
