use Rattle.std.proofs.Common.{List, ◌++◌, ap, map, refl}
use Rattle.jc_paths.specs.Looks.{file_view}
use Rattle.jc_rules.specs.declared.rule.Rule.{Rule}
use Rattle.jc_command_work.specs.Folders.{files_of}
use Rattle.jc_command_work.specs.Seen.{words_of, stop_seen}
use Rattle.jc_command_classes.specs.ReportSteps.{exec_path}
use Rattle.jc_command_rules.specs.CheckAnswers.{CheckAnswers}
use Rattle.jc_top.specs.Work.{checking, judged}
use Rattle.jc_top.proofs.CheckLaws.{check_completed}
use Rattle.jc_top.proofs.CommandLaws.{ends_before, ends_behind, ends_on}
use Rattle.jc_top.proofs.rules.check_files.Goals as goal

pub returns-in-Err : goal.returns-in-Err
returns-in-Err g c known is =
    let F = g.F.Files in
    let O = g.O.Sink in
    let E = g.E.Sink in
    let words = map file_view c.deref.result.now in
    let rules = c.args.words.now.rules.items in (
      (refl, refl, refl),
      ends_on F.landed (λ files. checking rules (exec_path c.args.exec) known files)
          words (map file_view c.args.words.now.files.items) (ap (map file_view) c.deref.ensures.value) _ _ _ _ c.report.result
          (ends_before F.landed (files_of words)
          (λ paths. judged paths (λ read. CheckAnswers rules (exec_path c.args.exec) paths (known ++ read))) _ _ _ _ _ _ (stop_seen c.in-Err.stop) c.report.result
          (c.in-Err.ensures.does (O.told c.args.outside.now.out.now) (E.told c.args.outside.now.err.now) (O.faults c.args.outside.now.out.now) (E.faults c.args.outside.now.err.now))
          (c.report.ensures (F.contents c.list_files.new.files) (F.failed_path c.list_files.new.files) (O.told c.args.outside.now.out.now) (F.read_faults c.list_files.new.files)
          (F.write_faults c.list_files.new.files) (O.faults c.args.outside.now.out.now))),
    )

pub returns : goal.returns
returns g c known is =
    let F = g.F.Files in
    let O = g.O.Sink in
    let E = g.E.Sink in
    let words = map file_view c.deref.result.now in
    let rules = c.args.words.now.rules.items in
    let given = c.deref-2.result.now in
    let paths = words_of c.in-Ok.paths.items in
    let listed = words_of c.deref-3.result.now in (
      c.complete_check.ensures.0,
      ends_on F.landed (λ files. checking rules (exec_path c.args.exec) known files)
          words (map file_view c.args.words.now.files.items) (ap (map file_view) c.deref.ensures.value) _ _ _ _ c.complete_check.result
          (ends_behind F.landed (files_of words)
          (λ ps. judged ps (λ read. CheckAnswers rules (exec_path c.args.exec) ps (known ++ read))) _ _ paths _ _ _ _ c.complete_check.result
          (c.in-Ok.ensures.does (O.told c.args.outside.now.out.now) (E.told c.args.outside.now.err.now) (O.faults c.args.outside.now.out.now) (E.faults c.args.outside.now.err.now))
          (ends_on F.landed (λ ps. judged ps (λ read. CheckAnswers rules (exec_path c.args.exec) ps (known ++ read)))
          listed paths (ap words_of c.deref-3.ensures.value) _ _ _ _ c.complete_check.result
          (ends_on F.landed (λ (rs : List Rule). judged listed (λ read. CheckAnswers rs (exec_path c.args.exec) listed (known ++ read)))
          given rules c.deref-2.ensures.value _ _ _ _ c.complete_check.result
          (check_completed F.landed listed (λ read. CheckAnswers given (exec_path c.args.exec) listed (known ++ read)) _ _ _ _ _ _
          c.prepare_check-prepared.result c.complete_check.result
          (c.prepare_check-prepared.ensures known is (O.told c.args.outside.now.out.now) (E.told c.args.outside.now.err.now)
          (O.faults c.args.outside.now.out.now) (E.faults c.args.outside.now.err.now)) c.complete_check.ensures.1)))),
    )
