use Rattle.std.proofs.Common.{ℕ, List, Option}
use Rattle.jc_paths.specs.Looks.{file_view}
use Rattle.jc_command_work.specs.Step.{outside, counts}
use Rattle.jc_command_work.specs.Seen.{words_of}
use Rattle.jc_command_work.proofs.FolderLaws.{Lists}
use Rattle.jc_command_work.proofs.folders.all_paths.Given as goal

-- the paths of the words that are left come behind the paths so far
abbrev pub invariant-listing : goal.invariant-listing
invariant-listing g l =
    let F = g.F.Files in
    (out err : Option (List ℕ)) (outs errs : ℕ) → Lists F.landed file_view l.words l.word-index
    (outside (F.contents l.fn.files) (F.failed_path l.fn.files) out err) (outside (F.contents l.files) (F.failed_path l.files) out err)
    (counts (F.read_faults l.fn.files) (F.write_faults l.fn.files) outs errs) (counts (F.read_faults l.files) (F.write_faults l.files) outs errs) (words_of l.paths.items)
