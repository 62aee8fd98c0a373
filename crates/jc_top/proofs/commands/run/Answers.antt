use Rattle.std.proofs.Common.{ℕ, List, ap, map, refl}
use Rattle.jc_paths.specs.Looks.{file_view}
use Rattle.jc_command_words.specs.Seen.{mode_seen}
use Rattle.jc_command_dumped.specs.DumpedAnswers.{DumpedAnswers}
use Rattle.jc_command_work.specs.Answered.{answered}
use Rattle.jc_command_work.specs.Part.{Command, reading, ◌>>=◌}
use Rattle.jc_command_work.specs.Seen.{words_of, stop_seen}
use Rattle.jc_command_work.specs.Step.{Word}
use Rattle.jc_top.specs.Work.{nothing_taken, on_files, run_answers}
use Rattle.jc_top.proofs.CommandLaws.{ends_behind, ends_before, ends_on, listed_ends, unlisted_ends}
use Rattle.jc_top.proofs.commands.run.Goals as goal

pub returns-in-Err : goal.returns-in-Err
returns-in-Err g c =
    let F = g.F.Files in
    let O = g.O.Sink in
    let E = g.E.Sink in
    let w = c.args.words.now in
    let rest : List ℕ → Command = λ text. on_files (map file_view w.files.items)
    (run_answers (DumpedAnswers nothing_taken) w.plan.now w.destfile.now (mode_seen w.mode) text) in (
      nothing_taken,
      (
        (refl, refl, refl),
        ends_before F.landed (reading w.plan.now) rest _ _ _ _ _ _ (stop_seen c.in-Err.stop) c.report.result
            (c.in-Err.ensures.does (O.told c.args.outside.now.out.now) (E.told c.args.outside.now.err.now) (O.faults c.args.outside.now.out.now)
            (E.faults c.args.outside.now.err.now))
            (c.report.ensures (F.contents c.read_one.new.files) (F.failed_path c.read_one.new.files) (O.told c.args.outside.now.out.now)
            (F.read_faults c.read_one.new.files)
            (F.write_faults c.read_one.new.files) (O.faults c.args.outside.now.out.now)),
      ),
    )

pub returns-in-Err-list_files : goal.returns-in-Err-list_files
returns-in-Err-list_files g c =
    let F = g.F.Files in
    let O = g.O.Sink in
    let E = g.E.Sink in
    let w = c.args.words.now in
    let words = map file_view c.deref.result.now in
    let answers : List ℕ → List Word → List (List ℕ) → _ = run_answers (DumpedAnswers nothing_taken) w.plan.now w.destfile.now (mode_seen w.mode) in (
      nothing_taken,
      (
        (refl, refl, refl),
        ends_on F.landed (λ files. reading w.plan.now >>= λ text. on_files files (answers text)) words (map file_view w.files.items)
            (ap (map file_view) c.deref.ensures.value) _ _ _ _ c.report-in-Err-list_files.result
            (ends_behind F.landed (reading w.plan.now) (λ text. on_files words (answers text)) _ _ c.in-Ok.text _ _ _ _ c.report-in-Err-list_files.result
            (c.in-Ok.ensures.does (O.told c.args.outside.now.out.now) (E.told c.args.outside.now.err.now) (O.faults c.args.outside.now.out.now)
            (E.faults c.args.outside.now.err.now))
            (unlisted_ends F.landed words (answers c.in-Ok.text) _ _ _ _ _ _ (stop_seen c.in-Err-list_files.stop) c.report-in-Err-list_files.result
            (c.in-Err-list_files.ensures.does (O.told c.args.outside.now.out.now) (E.told c.args.outside.now.err.now) (O.faults c.args.outside.now.out.now)
            (E.faults c.args.outside.now.err.now))
            (c.report-in-Err-list_files.ensures (F.contents c.list_files.new.files) (F.failed_path c.list_files.new.files) (O.told c.args.outside.now.out.now)
            (F.read_faults c.list_files.new.files) (F.write_faults c.list_files.new.files) (O.faults c.args.outside.now.out.now)))),
      ),
    )

pub returns : goal.returns
returns g c =
    let F = g.F.Files in
    let O = g.O.Sink in
    let E = g.E.Sink in
    let w = c.args.words.now in
    let words = map file_view c.deref.result.now in
    let taken = c.run_listed.ensures.0 in
    let ran = c.run_listed.ensures.1 in
    let answers : List ℕ → List Word → List (List ℕ) → _ = run_answers (DumpedAnswers taken) w.plan.now w.destfile.now (mode_seen w.mode) in
    let paths = words_of c.in-Ok-list_files.paths.items in (
      taken,
      (
        ran.0,
        ends_on F.landed (λ files. reading w.plan.now >>= λ text. on_files files (answers text)) words (map file_view w.files.items)
            (ap (map file_view) c.deref.ensures.value) _ _ _ _ c.run_listed.result
            (ends_behind F.landed (reading w.plan.now) (λ text. on_files words (answers text)) _ _ c.in-Ok.text _ _ _ _ c.run_listed.result
            (c.in-Ok.ensures.does (O.told c.args.outside.now.out.now) (E.told c.args.outside.now.err.now) (O.faults c.args.outside.now.out.now)
            (E.faults c.args.outside.now.err.now))
            (listed_ends F.landed words (answers c.in-Ok.text) _ _ paths _ _ _ _ c.run_listed.result
            (c.in-Ok-list_files.ensures.does (O.told c.args.outside.now.out.now) (E.told c.args.outside.now.err.now) (O.faults c.args.outside.now.out.now)
            (E.faults c.args.outside.now.err.now))
            (ends_on F.landed (λ ps. answered ps (answers c.in-Ok.text ps)) (words_of c.deref-2.result.now) paths
            (ap words_of c.deref-2.ensures.value) _ _ _ _ c.run_listed.result ran.1))),
      ),
    )
