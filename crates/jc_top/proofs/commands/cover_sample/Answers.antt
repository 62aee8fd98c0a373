use Rattle.std.proofs.Common.{refl}
use Rattle.jc_command_work.specs.Seen.{stop_seen}
use Rattle.jc_command_sample.specs.SampleWork.{sample_work}
use Rattle.jc_top.proofs.CommandLaws.{ran_done, ran_stopped}
use Rattle.jc_top.proofs.commands.cover_sample.Goals as goal

pub returns-in-Ok : goal.returns-in-Ok
returns-in-Ok g c =
    let F = g.F.Files in
    let E = g.E.Sink in
    let files = c.args.outside.now.files.now in
    let err = c.args.outside.now.err.now in (
      (refl, refl, refl),
      ran_done F.landed (sample_work c.args.methods) _ _ _ _
          (c.in-Ok.ensures F.landed (F.contents files) (F.failed_path files) (E.told err) (F.read_faults files) (F.write_faults files) (E.faults err)),
    )

pub returns-in-Err : goal.returns-in-Err
returns-in-Err g c =
    let F = g.F.Files in
    let O = g.O.Sink in
    let E = g.E.Sink in
    let files = c.args.outside.now.files.now in
    let err = c.args.outside.now.err.now in (
      (refl, refl, refl),
      ran_stopped F.landed (sample_work c.args.methods) _ _ _ _ _ _ (stop_seen c.in-Err.stop) c.report.result
          (c.in-Err.ensures F.landed (F.contents files) (F.failed_path files) (E.told err) (F.read_faults files) (F.write_faults files) (E.faults err))
          (c.report.ensures (F.contents files) (F.failed_path files) (O.told c.sample.new.out) (F.read_faults files) (F.write_faults files) (O.faults c.sample.new.out)),
    )
