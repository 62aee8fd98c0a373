use Rattle.std.proofs.Common.{ℕ, List, Option, Bor}
use Rattle.jc_command_work.specs.Step.{outside, counts}
use Rattle.jc_command_work.proofs.Reaching.{Reads}
use Rattle.jc_command_work.proofs.input_files.read_texts.Given as goal

-- whatever is read of the paths that are left comes behind the texts so far
abbrev pub invariant-reading : goal.invariant-reading
invariant-reading g l =
    let F = g.F.Files in
    (out err : Option (List ℕ)) (outs errs : ℕ) → Reads F.landed (λ (t : Bor (List ℕ)). t.now) l.paths l.path-index
    (outside (F.contents l.fn.files) (F.failed_path l.fn.files) out err) (outside (F.contents l.files) (F.failed_path l.files) out err)
    (counts (F.read_faults l.fn.files) (F.write_faults l.fn.files) outs errs) (counts (F.read_faults l.files) (F.write_faults l.files) outs errs) l.texts.items
