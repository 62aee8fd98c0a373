use Rattle.std.proofs.Common.{◌≡◌, ◌≤◌, ℕ, List, [], ◌∷◌, length, ◌∙◌, subst, arith}
use Rattle.jc_bytes.specs.ByteLists.{AreBytes}
use Rattle.jc_bytes.specs.Reader.{most_read}
use Rattle.jc_link_programs.specs.Linking.{IsProgramOf}
use Rattle.jc_command_run.proofs.FitLaws.{fit_records}
use Rattle.jc_command_sample.proofs.LineLaws.{isn't_linked}
use Rattle.jc_command_sample.proofs.OneFileLaws.{said_reason}
use Rattle.jc_command_sample.proofs.work.linked.Goals as goal

pub returns-in-Ok-clause-fits : goal.returns-in-Ok-clause-fits
returns-in-Ok-clause-fits c =
    let same : c.deref-2.result.now ≡ c.args.bytes ∷ [] = c.deref-2.ensures.value ∙ c.in_ok-files.ensures in
    fit_records (c.args.bytes ∷ []) c.in-Ok.program (subst AreBytes c.deref.ensures c.are_bytes.ensures, tt)
    (subst (λ (l : List (List ℕ)). IsProgramOf l c.in-Ok.program) same c.in-Ok.ensures.linked)

pub returns-in-Err-Said-Class-clause-linked : goal.returns-in-Err-Said-Class-clause-linked
returns-in-Err-Said-Class-clause-linked c =
    let w = c.in-Err-Said-Class in
    let same : c.deref-2.result.now ≡ c.args.bytes ∷ [] = c.deref-2.ensures.value ∙ c.in_ok-files.ensures in
    let short : length c.args.bytes ≤ most_read = omega (arith, c.if-len-gt-MOST_READ.false, c.len.ensures) in
    let why = said_reason c.args.bytes c.deref-2.result.now w.field-0 w.field-0-0 w.field-0-0-0 w.refusal same w.field-0-is w.field-0-0-is w.ensures.refused in
    rw c.class_stop-in-Err-Said-Class.ensures (isn't_linked c.args.bytes short w.refusal why)
