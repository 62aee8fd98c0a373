use Rattle.std.proofs.Common.{[], ◌∷◌, Some, map, refl}
use Rattle.jc_paths.specs.Looks.{file_view}
use Rattle.jc_command_work.specs.Part.{reading}
use Rattle.jc_command_work.specs.Seen.{stop_seen}
use Rattle.jc_top.specs.Work.{lining}
use Rattle.jc_top.proofs.CommandLaws.{ends_behind, ends_before}
use Rattle.jc_top.proofs.rules.lines.Goals as goal

pub returns-in_default : goal.returns-in_default
returns-in_default g c = rw c.in_default.is (c.lines_of_files.ensures [] refl)

pub returns-in-Ok : goal.returns-in-Ok
returns-in-Ok g c =
    let O = g.O.Sink in
    let E = g.E.Sink in
    let path = c.in-Some.path.now in
    let d = c.in-Ok.ensures in
    let ends = c.lines_of_files-in-Ok.ensures (d.0 ∷ []) (d.0, refl, d.2) in
    rw c.in-Some.is (
      ends.0,
      ends_behind g.F.Files.landed (reading path)
          (λ text. lining (Some path) (text ∷ []) (map file_view c.args.words.now.files.items)) _ _ d.0 _ _ _ _ c.lines_of_files-in-Ok.result
          (d.1 (O.told c.args.outside.now.out.now) (E.told c.args.outside.now.err.now) (O.faults c.args.outside.now.out.now)
          (E.faults c.args.outside.now.err.now)) ends.1,
    )

pub returns-in-Err : goal.returns-in-Err
returns-in-Err g c =
    let F = g.F.Files in
    let O = g.O.Sink in
    let E = g.E.Sink in
    let path = c.in-Some.path.now in
    rw c.in-Some.is (
      (refl, refl, refl),
      ends_before F.landed (reading path)
          (λ text. lining (Some path) (text ∷ []) (map file_view c.args.words.now.files.items)) _ _ _ _ _ _ (stop_seen c.in-Err.stop) c.report.result
          (c.in-Err.ensures.1 (O.told c.args.outside.now.out.now) (E.told c.args.outside.now.err.now) (O.faults c.args.outside.now.out.now) (E.faults c.args.outside.now.err.now))
          (c.report.ensures (F.contents c.read_alone.new.files) (F.failed_path c.read_alone.new.files) (O.told c.args.outside.now.out.now) (F.read_faults c.read_alone.new.files)
          (F.write_faults c.read_alone.new.files) (O.faults c.args.outside.now.out.now)),
    )
