use Rattle.std.proofs.Common.{[], ap, map, refl}
use Rattle.jc_paths.specs.Looks.{file_view}
use Rattle.jc_command_work.specs.Seen.{words_of, stop_seen}
use Rattle.jc_command_refs.specs.RefsAnswers.{RefsFiles}
use Rattle.jc_top.proofs.CommandLaws.{completed, ends_same, listed_ends, unlisted_ends}
use Rattle.jc_top.proofs.commands.refs.Goals as goal

pub returns-in-Err : goal.returns-in-Err
returns-in-Err g c =
    let F = g.F.Files in
    let O = g.O.Sink in
    let E = g.E.Sink in (
      (refl, refl, refl),
      unlisted_ends F.landed (map file_view c.args.words.now) RefsFiles _ _ _ _ _ _ (stop_seen c.in-Err.stop) c.report.result
          (c.in-Err.ensures.does (O.told c.args.outside.now.out.now) (E.told c.args.outside.now.err.now) (O.faults c.args.outside.now.out.now) (E.faults c.args.outside.now.err.now))
          (c.report.ensures (F.contents c.list_files.new.files) (F.failed_path c.list_files.new.files) (O.told c.args.outside.now.out.now) (F.read_faults c.list_files.new.files)
          (F.write_faults c.list_files.new.files) (O.faults c.args.outside.now.out.now)),
    )

pub returns : goal.returns
returns g c =
    let F = g.F.Files in
    let O = g.O.Sink in
    let E = g.E.Sink in
    let paths = words_of c.in-Ok.paths.items in
    let listed = words_of c.deref.result.now in (
      c.complete.ensures.0,
      listed_ends F.landed (map file_view c.args.words.now) RefsFiles _ _ paths _ _ _ _ c.complete.result
          (c.in-Ok.ensures.does (O.told c.args.outside.now.out.now) (E.told c.args.outside.now.err.now) (O.faults c.args.outside.now.out.now) (E.faults c.args.outside.now.err.now))
          (ends_same F.landed (λ _. RefsFiles) [] [] listed paths refl (ap words_of c.deref.ensures.value) _ _ _ _ c.complete.result
          (completed F.landed listed (RefsFiles listed) _ _ _ _ _ _ c.prepare_refs-prepared.result c.complete.result
          (c.prepare_refs-prepared.ensures (O.told c.args.outside.now.out.now) (E.told c.args.outside.now.err.now)
          (O.faults c.args.outside.now.out.now) (E.faults c.args.outside.now.err.now)) c.complete.ensures.1)),
    )
