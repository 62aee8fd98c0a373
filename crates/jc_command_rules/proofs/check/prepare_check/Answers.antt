use Rattle.std.proofs.Common.{ℕ, List, ◌++◌, subst}
use Rattle.std.proofs.lemmas.Result.{err_from_is_err_and}
use Rattle.jc_command_work.specs.Answered.{AnswersAs}
use Rattle.jc_command_work.specs.Part.{Outcome}
use Rattle.jc_command_work.specs.Seen.{words_of, stop_seen}
use Rattle.jc_command_work.specs.Step.{Word}
use Rattle.jc_command_work.proofs.AnsweredLaws.{prepared_as, unprepared}
use Rattle.jc_command_classes.specs.ReportSteps.{exec_path}
use Rattle.jc_command_rules.specs.CheckAnswers.{Verdict, CheckAnswers}
use Rattle.jc_command_rules.specs.Printing.{verdict_seen}
use Rattle.jc_command_rules.proofs.check.prepare_check.Goals as goal

pub returns-in_err-inputs : goal.returns-in_err-inputs
returns-in_err-inputs g c known is out err outs errs =
    let paths = words_of c.args.paths.now in
    let Answers : List (List ℕ) → Outcome Verdict → Type 0 = λ read. CheckAnswers c.args.rules.now (exec_path c.args.exec) paths (known ++ read) in
    let p = err_from_is_err_and c.from_residual.result c.from_residual.ensures.1 in
    rw (p.1, p.2) (unprepared g.F.Files.landed paths Answers _ _ _ _ (stop_seen c.in_err-inputs.field-0.0) (c.in_err-inputs.ensures.does out err outs errs))

pub returns : goal.returns
returns g c known is out err outs errs =
    let paths = words_of c.args.paths.now in
    let texts = c.in_ok-inputs.inputs.texts in
    let Answers : List (List ℕ) → Outcome Verdict → Type 0 = λ read. CheckAnswers c.args.rules.now (exec_path c.args.exec) paths (known ++ read) in
    prepared_as g.F.Files.landed paths Answers verdict_seen _ _ _ _ texts c.judged_of.result (c.in_ok-inputs.ensures.does out err outs errs)
    (subst (λ (ps : List Word). AnswersAs verdict_seen (CheckAnswers c.args.rules.now (exec_path c.args.exec) ps (known ++ texts)) c.judged_of.result)
    c.in_ok-inputs.ensures.paths (c.judged_of.ensures known is))
