use Rattle.std.proofs.Common.{List, None, ap, subst}
use Rattle.std.proofs.lemmas.Result.{err_from_is_err_and}
use Rattle.jc_command_work.specs.Seen.{texts_of}
use Rattle.jc_command_work.specs.Step.{Word, AreTexts}
use Rattle.jc_command_work.proofs.AnsweredLaws.{were_read}
use Rattle.jc_command_work.proofs.input_files.read_at.Goals as goal

pub returns-in_err-texts-clause-does : goal.returns-in_err-texts-clause-does
returns-in_err-texts-clause-does g c out err outs errs =
    let p = err_from_is_err_and c.from_residual.result c.from_residual.ensures.1 in
    rw (p.1, p.2, ← c.deref.ensures.value) (c.in_err-texts.ensures out err outs errs)

pub invariant_of-result : goal.invariant_of-result
invariant_of-result g c =
    let came = (c.in_ok-texts.ensures None None 0 0).1 in
    subst (λ (ps : List Word). AreTexts ps c.in_ok-texts.texts.items) (ap texts_of c.deref.ensures.value) (were_read g.F.Files.landed _ _ _ _ came)

pub returns-clause-does : goal.returns-clause-does
returns-clause-does g c out err outs errs = rw (← c.deref.ensures.value) (c.in_ok-texts.ensures out err outs errs)
