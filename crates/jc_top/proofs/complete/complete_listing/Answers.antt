use Rattle.std.proofs.Common.{map, refl}
use Rattle.jc_command_work.specs.Seen.{stop_seen}
use Rattle.jc_command_work.specs.Step.{to_out}
use Rattle.jc_top.proofs.CommandLaws.{made_all, made_some}
use Rattle.jc_top.proofs.complete.complete_listing.Goals as goal

pub returns : goal.returns
returns g c =
    let F = g.F.Files in
    let E = g.E.Sink in
    let files = c.args.outside.now.files.now in
    let err = c.args.outside.now.err.now in
    rw c.in-Ok.is (
      (refl, refl, refl),
      made_all F.landed (map to_out c.in-Ok.listing) _ _ _ _
          (c.in_default.ensures F.landed (F.contents files) (F.failed_path files) (E.told err) (F.read_faults files) (F.write_faults files) (E.faults err)),
    )

pub returns-in-Err-put_listing : goal.returns-in-Err-put_listing
returns-in-Err-put_listing g c =
    let F = g.F.Files in
    let O = g.O.Sink in
    let E = g.E.Sink in
    let files = c.args.outside.now.files.now in
    let err = c.args.outside.now.err.now in
    rw c.in-Ok.is (
      (refl, refl, refl),
      made_some F.landed (map to_out c.in-Ok.listing) _ _ _ _ _ _ (stop_seen c.in-Err-put_listing.stop) c.report-in-Err-put_listing.result
          (c.in-Err-put_listing.ensures F.landed (F.contents files) (F.failed_path files) (E.told err) (F.read_faults files) (F.write_faults files) (E.faults err))
          (c.report-in-Err-put_listing.ensures (F.contents files) (F.failed_path files) (O.told c.put_listing.new.out)
          (F.read_faults files) (F.write_faults files) (O.faults c.put_listing.new.out)),
    )
