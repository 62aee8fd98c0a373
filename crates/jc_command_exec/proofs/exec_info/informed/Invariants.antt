use Rattle.std.proofs.Common.{◌≡◌, ℕ, List, Option, Bor, length}
use Rattle.jc_command_work.specs.Seen.{texts_of}
use Rattle.jc_command_work.specs.Step.{outside, counts}
use Rattle.jc_command_work.proofs.Reaching.{Reads}
use Rattle.jc_command_exec.specs.Informing.{ListsAll}
use Rattle.jc_command_exec.proofs.exec_info.informed.Given as goal

-- what has come of the files so far; whatever is read of the paths that are left comes behind their texts
abbrev pub invariant-informing : goal.invariant-informing
invariant-informing g l =
    let F = g.F.Files in
    (texts : List (List ℕ)) × (length texts ≡ l.index) × ListsAll (texts_of l.fn.paths) texts l.listed.refused l.listed.listing
    × ((out err : Option (List ℕ)) (outs errs : ℕ) → Reads F.landed (λ (t : Bor (List ℕ)). t.now) l.fn.paths l.index
    (outside (F.contents l.fn.files) (F.failed_path l.fn.files) out err) (outside (F.contents l.files) (F.failed_path l.files) out err)
    (counts (F.read_faults l.fn.files) (F.write_faults l.fn.files) outs errs) (counts (F.read_faults l.files) (F.write_faults l.files) outs errs) texts)
