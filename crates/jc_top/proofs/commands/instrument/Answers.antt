use Rattle.std.proofs.Common.{ap, map, refl, ◌∙◌}
use Rattle.jc_paths.specs.Paths.{in_folder}
use Rattle.jc_paths.specs.Looks.{file_view}
use Rattle.jc_command_work.specs.Answered.{answered}
use Rattle.jc_command_work.specs.Seen.{words_of, stop_seen}
use Rattle.jc_command_classes.specs.Instrument.{InstrumentAnswers}
use Rattle.jc_top.specs.Work.{on_files}
use Rattle.jc_top.proofs.CommandLaws.{completed, ends_on, ends_same, listed_ends, memory_ends, unlisted_ends}
use Rattle.jc_top.proofs.commands.instrument.Goals as goal

pub returns-in-Err : goal.returns-in-Err
returns-in-Err g c =
    let F = g.F.Files in
    let O = g.O.Sink in
    let E = g.E.Sink in
    let words = map file_view c.deref.result.now in (
      (refl, refl, refl),
      ends_on F.landed (λ files. on_files files (λ paths. InstrumentAnswers (map (in_folder c.args.words.now.dest.now) paths) paths)) words
          (map file_view c.args.words.now.files.items) (ap (map file_view) c.deref.ensures.value) _ _ _ _ c.report.result
          (unlisted_ends F.landed words (λ paths. InstrumentAnswers (map (in_folder c.args.words.now.dest.now) paths) paths) _ _ _ _ _ _ (stop_seen c.in-Err.stop) c.report.result
          (c.in-Err.ensures.does (O.told c.args.outside.now.out.now) (E.told c.args.outside.now.err.now) (O.faults c.args.outside.now.out.now) (E.faults c.args.outside.now.err.now))
          (c.report.ensures (F.contents c.list_files.new.files) (F.failed_path c.list_files.new.files) (O.told c.args.outside.now.out.now) (F.read_faults c.list_files.new.files)
          (F.write_faults c.list_files.new.files) (O.faults c.args.outside.now.out.now))),
    )

pub returns-in-Err-all_in_folder : goal.returns-in-Err-all_in_folder
returns-in-Err-all_in_folder g c =
    let F = g.F.Files in
    let O = g.O.Sink in
    let E = g.E.Sink in
    let words = map file_view c.deref.result.now in
    let paths = words_of c.in-Ok.paths.items in (
      (refl, refl, refl),
      ends_on F.landed (λ files. on_files files (λ paths. InstrumentAnswers (map (in_folder c.args.words.now.dest.now) paths) paths)) words
          (map file_view c.args.words.now.files.items) (ap (map file_view) c.deref.ensures.value) _ _ _ _ _
          (listed_ends F.landed words (λ paths. InstrumentAnswers (map (in_folder c.args.words.now.dest.now) paths) paths) _ _ paths _ _ _ _ _
          (c.in-Ok.ensures.does (O.told c.args.outside.now.out.now) (E.told c.args.outside.now.err.now) (O.faults c.args.outside.now.out.now) (E.faults c.args.outside.now.err.now))
          (memory_ends F.landed (answered paths (InstrumentAnswers (map (in_folder c.args.words.now.dest.now) paths) paths)) _ _)),
    )

pub returns : goal.returns
returns g c =
    let F = g.F.Files in
    let O = g.O.Sink in
    let E = g.E.Sink in
    let words = map file_view c.deref.result.now in
    let paths = words_of c.in-Ok.paths.items in
    let listed = words_of c.deref-3.result.now in
    let targets = words_of c.deref-4.result.now in
    let joined = ap words_of c.deref-4.ensures.value ∙ c.in-Ok-all_in_folder.ensures ∙ ap (λ l. map (in_folder c.args.words.now.dest.now) (words_of l)) c.deref-2.ensures.value in (
      c.complete.ensures.0,
      ends_on F.landed (λ files. on_files files (λ paths. InstrumentAnswers (map (in_folder c.args.words.now.dest.now) paths) paths)) words
          (map file_view c.args.words.now.files.items) (ap (map file_view) c.deref.ensures.value) _ _ _ _ c.complete.result
          (listed_ends F.landed words (λ ps. InstrumentAnswers (map (in_folder c.args.words.now.dest.now) ps) ps) _ _ paths _ _ _ _ c.complete.result
          (c.in-Ok.ensures.does (O.told c.args.outside.now.out.now) (E.told c.args.outside.now.err.now) (O.faults c.args.outside.now.out.now) (E.faults c.args.outside.now.err.now))
          (ends_same F.landed (λ ts ps. InstrumentAnswers ts ps) targets (map (in_folder c.args.words.now.dest.now) paths) listed paths joined
          (ap words_of c.deref-3.ensures.value) _ _ _ _ c.complete.result
          (completed F.landed listed (InstrumentAnswers targets listed) _ _ _ _ _ _ c.prepare_instrument-prepared.result c.complete.result
          (c.prepare_instrument-prepared.ensures (O.told c.args.outside.now.out.now) (E.told c.args.outside.now.err.now)
          (O.faults c.args.outside.now.out.now) (E.faults c.args.outside.now.err.now)) c.complete.ensures.1))),
    )
