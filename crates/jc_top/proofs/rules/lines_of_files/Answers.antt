use Rattle.std.proofs.Common.{[], ◌++◌, ap, map, refl}
use Rattle.jc_paths.specs.Looks.{file_view}
use Rattle.jc_command_work.specs.Seen.{words_of, stop_seen}
use Rattle.jc_command_rules.specs.LinesAnswers.{LinesAnswers}
use Rattle.jc_command_classes.specs.ReportSteps.{exec_path}
use Rattle.jc_top.specs.Work.{lining}
use Rattle.jc_top.proofs.CommandLaws.{completed, ends_on, ends_same, listed_ends, unlisted_ends}
use Rattle.jc_top.proofs.rules.lines_of_files.Goals as goal

pub returns-in-Err : goal.returns-in-Err
returns-in-Err g c known is =
    let F = g.F.Files in
    let O = g.O.Sink in
    let E = g.E.Sink in
    let words = map file_view c.deref.result.now in (
      (refl, refl, refl),
      ends_on F.landed (λ files. lining (exec_path c.args.exec) known files)
          words (map file_view c.args.words.now.files.items) (ap (map file_view) c.deref.ensures.value) _ _ _ _ c.report.result
          (unlisted_ends F.landed words
          (λ paths read. LinesAnswers (exec_path c.args.exec) paths
          (known ++ read)) _ _ _ _ _ _ (stop_seen c.in-Err.stop) c.report.result
          (c.in-Err.ensures.does (O.told c.args.outside.now.out.now) (E.told c.args.outside.now.err.now) (O.faults c.args.outside.now.out.now) (E.faults c.args.outside.now.err.now))
          (c.report.ensures (F.contents c.list_files.new.files) (F.failed_path c.list_files.new.files) (O.told c.args.outside.now.out.now) (F.read_faults c.list_files.new.files)
          (F.write_faults c.list_files.new.files) (O.faults c.args.outside.now.out.now))),
    )

pub returns : goal.returns
returns g c known is =
    let F = g.F.Files in
    let O = g.O.Sink in
    let E = g.E.Sink in
    let words = map file_view c.deref.result.now in
    let paths = words_of c.in-Ok.paths.items in
    let listed = words_of c.deref-2.result.now in (
      c.complete.ensures.0,
      ends_on F.landed (λ files. lining (exec_path c.args.exec) known files)
          words (map file_view c.args.words.now.files.items) (ap (map file_view) c.deref.ensures.value) _ _ _ _ c.complete.result
          (listed_ends F.landed words
          (λ paths read. LinesAnswers (exec_path c.args.exec) paths
          (known ++ read)) _ _ paths _ _ _ _ c.complete.result
          (c.in-Ok.ensures.does (O.told c.args.outside.now.out.now) (E.told c.args.outside.now.err.now) (O.faults c.args.outside.now.out.now) (E.faults c.args.outside.now.err.now))
          (ends_same F.landed (λ _ ps read. LinesAnswers (exec_path c.args.exec) ps
          (known ++ read)) [] [] listed paths refl (ap words_of c.deref-2.ensures.value) _ _ _ _ c.complete.result
          (completed F.landed listed
          (λ read. LinesAnswers (exec_path c.args.exec) listed
          (known ++ read)) _ _ _ _ _ _ c.prepare_lines-prepared.result c.complete.result
          (c.prepare_lines-prepared.ensures known is (O.told c.args.outside.now.out.now) (E.told c.args.outside.now.err.now)
          (O.faults c.args.outside.now.out.now) (E.faults c.args.outside.now.err.now)) c.complete.ensures.1))),
    )
