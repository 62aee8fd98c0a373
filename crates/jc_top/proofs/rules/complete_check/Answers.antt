use Rattle.jc_command_work.specs.Seen.{stop_seen}
use Rattle.jc_top.proofs.CheckLaws.{closed_all, closed_some}
use Rattle.jc_top.proofs.rules.complete_check.Goals as goal

pub returns-in-Ok-write_all : goal.returns-in-Ok-write_all
returns-in-Ok-write_all g c =
    rw (c.in-Ok.is, c.status_by.ensures) (
      c.in-Ok-write_all.ensures.does.0,
      closed_all g.F.Files.landed c.deref.result.now c.in-Ok.checked.writes.items c.deref.ensures.value c.in-Ok.checked.holds _ _ _ _ c.in-Ok-write_all.ensures.does.1,
    )

pub returns : goal.returns
returns g c =
    let F = g.F.Files in
    let O = g.O.Sink in
    rw c.in-Ok.is (
      c.in-Err-write_all.ensures.does.0,
      closed_some F.landed c.deref.result.now c.in-Ok.checked.writes.items c.deref.ensures.value c.in-Ok.checked.holds _ _ _ _ _ _ (stop_seen c.in-Err-write_all.stop)
          c.report-in-Err-write_all.result c.in-Err-write_all.ensures.does.1
          (c.report-in-Err-write_all.ensures (F.contents c.write_all.new.outside.files.now) (F.failed_path c.write_all.new.outside.files.now) (O.told c.write_all.new.outside.out.now)
          (F.read_faults c.write_all.new.outside.files.now) (F.write_faults c.write_all.new.outside.files.now) (O.faults c.write_all.new.outside.out.now)),
    )
