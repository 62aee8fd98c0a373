use Rattle.std.proofs.Common.{ℕ, List, ap, map, refl}
use Rattle.jc_paths.specs.Looks.{file_view}
use Rattle.jc_paths.specs.Paths.{FileText}
use Rattle.jc_command_words.specs.declared.words.CoverWords.{CoverWords}
use Rattle.jc_command_work.specs.declared.status.Status.TheVariants as status
use Rattle.jc_command_work.specs.Part.{Command, reading, ◌>>=◌}
use Rattle.jc_command_work.specs.Folders.{files_of}
use Rattle.jc_command_work.specs.Seen.{words_of, stop_seen}
use Rattle.jc_headline.specs.CoverWork.{Cover, covering, cover_work}
use Rattle.jc_top.proofs.CommandLaws.{ends_behind, ends_before, ends_on, memory_ends, ran_done, ran_stopped}
use Rattle.jc_top.proofs.commands.cover.Goals as goal

-- what the words say, with these files
abbrev cover_of : CoverWords → List FileText → Cover
cover_of w files = record { dest = w.dest.now; plan = w.plan.now; exec = w.destfile.now; csv = w.csv.now; name = w.name.now; files = files }

pub returns-in-Err : goal.returns-in-Err
returns-in-Err g c =
    let F = g.F.Files in
    let O = g.O.Sink in
    let E = g.E.Sink in
    let k : Cover = cover_of c.args.words.now (map file_view c.args.words.now.files.items) in
    let listing : List ℕ → Command = λ text. files_of k.files >>= (λ paths. covering k text paths) in (
      (refl, refl, refl),
      ends_before F.landed (reading k.plan) listing _ _ _ _ _ _ (stop_seen c.in-Err.stop) c.report.result
          (c.in-Err.ensures.does (O.told c.args.outside.now.out.now) (E.told c.args.outside.now.err.now) (O.faults c.args.outside.now.out.now) (E.faults c.args.outside.now.err.now))
          (c.report.ensures (F.contents c.read_one.new.files) (F.failed_path c.read_one.new.files) (O.told c.args.outside.now.out.now) (F.read_faults c.read_one.new.files)
          (F.write_faults c.read_one.new.files) (O.faults c.args.outside.now.out.now)),
    )

pub returns-in-Err-list_files : goal.returns-in-Err-list_files
returns-in-Err-list_files g c =
    let F = g.F.Files in
    let O = g.O.Sink in
    let E = g.E.Sink in
    let words = map file_view c.deref.result.now in
    let k : Cover = cover_of c.args.words.now words in
    let listing : List ℕ → Command = λ text. files_of k.files >>= (λ paths. covering k text paths) in (
      (refl, refl, refl),
      ends_on F.landed (λ files. cover_work (cover_of c.args.words.now files)) words (map file_view c.args.words.now.files.items)
          (ap (map file_view) c.deref.ensures.value) _ _ _ _ c.report-in-Err-list_files.result
          (ends_behind F.landed (reading k.plan) listing _ _ c.in-Ok.text _ _ _ _ c.report-in-Err-list_files.result
          (c.in-Ok.ensures.does (O.told c.args.outside.now.out.now) (E.told c.args.outside.now.err.now) (O.faults c.args.outside.now.out.now) (E.faults c.args.outside.now.err.now))
          (ends_before F.landed (files_of k.files) (λ paths. covering k c.in-Ok.text paths) _ _ _ _ _ _ (stop_seen c.in-Err-list_files.stop) c.report-in-Err-list_files.result
          (c.in-Err-list_files.ensures.does (O.told c.args.outside.now.out.now) (E.told c.args.outside.now.err.now) (O.faults c.args.outside.now.out.now) (E.faults c.args.outside.now.err.now))
          (c.report-in-Err-list_files.ensures (F.contents c.list_files.new.files) (F.failed_path c.list_files.new.files) (O.told c.args.outside.now.out.now)
          (F.read_faults c.list_files.new.files) (F.write_faults c.list_files.new.files) (O.faults c.args.outside.now.out.now)))),
    )

pub returns-in-Err-all_in_folder : goal.returns-in-Err-all_in_folder
returns-in-Err-all_in_folder g c =
    let F = g.F.Files in
    let O = g.O.Sink in
    let E = g.E.Sink in
    let words = map file_view c.deref.result.now in
    let k : Cover = cover_of c.args.words.now words in
    let listing : List ℕ → Command = λ text. files_of k.files >>= (λ paths. covering k text paths) in
    let text = c.in-Ok.text in
    let paths = words_of c.in-Ok-list_files.paths.items in (
      (refl, refl, refl),
      ends_on F.landed (λ files. cover_work (cover_of c.args.words.now files)) words (map file_view c.args.words.now.files.items)
          (ap (map file_view) c.deref.ensures.value) _ _ _ _ _
          (ends_behind F.landed (reading k.plan) listing _ _ text _ _ _ _ _
          (c.in-Ok.ensures.does (O.told c.args.outside.now.out.now) (E.told c.args.outside.now.err.now) (O.faults c.args.outside.now.out.now) (E.faults c.args.outside.now.err.now))
          (ends_behind F.landed (files_of k.files) (λ ps. covering k text ps) _ _ paths _ _ _ _ _
          (c.in-Ok-list_files.ensures.does (O.told c.args.outside.now.out.now) (E.told c.args.outside.now.err.now) (O.faults c.args.outside.now.out.now) (E.faults c.args.outside.now.err.now))
          (memory_ends F.landed (covering k text paths) _ _))),
    )

pub returns-in-Ok-cover : goal.returns-in-Ok-cover
returns-in-Ok-cover g c =
    let F = g.F.Files in
    let O = g.O.Sink in
    let E = g.E.Sink in
    let words = map file_view c.deref.result.now in
    let k : Cover = cover_of c.args.words.now words in
    let listing : List ℕ → Command = λ text. files_of k.files >>= (λ paths. covering k text paths) in
    let text = c.in-Ok.text in
    let paths = words_of c.in-Ok-list_files.paths.items in
    let listed = words_of c.deref-3.result.now in (
      (c.in-Ok-cover.ensures words).0,
      ends_on F.landed (λ files. cover_work (cover_of c.args.words.now files)) words (map file_view c.args.words.now.files.items)
          (ap (map file_view) c.deref.ensures.value) _ _ _ _ status.Done
          (ends_behind F.landed (reading k.plan) listing _ _ text _ _ _ _ status.Done
          (c.in-Ok.ensures.does (O.told c.args.outside.now.out.now) (E.told c.args.outside.now.err.now) (O.faults c.args.outside.now.out.now) (E.faults c.args.outside.now.err.now))
          (ends_behind F.landed (files_of k.files) (λ ps. covering k text ps) _ _ paths _ _ _ _ status.Done
          (c.in-Ok-list_files.ensures.does (O.told c.args.outside.now.out.now) (E.told c.args.outside.now.err.now) (O.faults c.args.outside.now.out.now) (E.faults c.args.outside.now.err.now))
          (ends_on F.landed (λ ps. covering k text ps) listed paths (ap words_of c.deref-3.ensures.value) _ _ _ _ status.Done
          (ran_done F.landed (covering k text listed) _ _ _ _ (c.in-Ok-cover.ensures words).1)))),
    )

pub returns : goal.returns
returns g c =
    let F = g.F.Files in
    let O = g.O.Sink in
    let E = g.E.Sink in
    let words = map file_view c.deref.result.now in
    let k : Cover = cover_of c.args.words.now words in
    let listing : List ℕ → Command = λ text. files_of k.files >>= (λ paths. covering k text paths) in
    let text = c.in-Ok.text in
    let paths = words_of c.in-Ok-list_files.paths.items in
    let listed = words_of c.deref-3.result.now in (
      (c.in-Err-cover.ensures words).0,
      ends_on F.landed (λ files. cover_work (cover_of c.args.words.now files)) words (map file_view c.args.words.now.files.items)
          (ap (map file_view) c.deref.ensures.value) _ _ _ _ c.report-in-Err-cover.result
          (ends_behind F.landed (reading k.plan) listing _ _ text _ _ _ _ c.report-in-Err-cover.result
          (c.in-Ok.ensures.does (O.told c.args.outside.now.out.now) (E.told c.args.outside.now.err.now) (O.faults c.args.outside.now.out.now) (E.faults c.args.outside.now.err.now))
          (ends_behind F.landed (files_of k.files) (λ ps. covering k text ps) _ _ paths _ _ _ _ c.report-in-Err-cover.result
          (c.in-Ok-list_files.ensures.does (O.told c.args.outside.now.out.now) (E.told c.args.outside.now.err.now) (O.faults c.args.outside.now.out.now) (E.faults c.args.outside.now.err.now))
          (ends_on F.landed (λ ps. covering k text ps) listed paths (ap words_of c.deref-3.ensures.value) _ _ _ _ c.report-in-Err-cover.result
          (ran_stopped F.landed (covering k text listed) _ _ _ _ _ _ (stop_seen c.in-Err-cover.stop) c.report-in-Err-cover.result (c.in-Err-cover.ensures words).1
          (c.report-in-Err-cover.ensures (F.contents c.cover.new.outside.files.now) (F.failed_path c.cover.new.outside.files.now) (O.told c.cover.new.outside.out.now)
          (F.read_faults c.cover.new.outside.files.now) (F.write_faults c.cover.new.outside.files.now) (O.faults c.cover.new.outside.out.now)))))),
    )
