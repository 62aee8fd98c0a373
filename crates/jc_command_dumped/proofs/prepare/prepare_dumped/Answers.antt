use Rattle.std.proofs.Common.{◌∷◌, List, ℕ, subst}
use Rattle.std.proofs.lemmas.Result.{err_from_is_err_and}
use Rattle.jc_command_work.specs.Answered.{AnswersWith}
use Rattle.jc_command_work.specs.Seen.{words_of, stop_seen}
use Rattle.jc_command_work.specs.Step.{Word}
use Rattle.jc_command_work.proofs.AnsweredLaws.{prepared, unprepared}
use Rattle.jc_command_dumped.specs.DumpedAnswers.{DumpedFiles, DumpedAnswers}
use Rattle.jc_command_dumped.specs.OptionsSeen.{dumping_seen}
use Rattle.jc_command_dumped.proofs.AnswerLaws.{no_dumps}
use Rattle.jc_command_dumped.proofs.prepare.prepare_dumped.Goals as goal

pub returns-in_err-inputs : goal.returns-in_err-inputs
returns-in_err-inputs g c = (
  no_dumps,
  (λ out err outs errs.
      let p = err_from_is_err_and c.from_residual.result c.from_residual.ensures.1 in
      let paths = words_of c.args.paths.now in
      rw (p.1, p.2) (unprepared g.F.Files.landed paths
      (λ (read : List (List ℕ)). DumpedAnswers no_dumps (dumping_seen c.args.options.now) paths (c.args.plan_text.now ∷ read)) _ _ _ _
      (stop_seen c.in_err-inputs.field-0.0) (c.in_err-inputs.ensures.does out err outs errs))),
)

pub returns : goal.returns
returns g c =
    let decided = c.decided.ensures in
    let taken = decided.0 in
    let paths = words_of c.args.paths.now in
    let texts = c.in_ok-inputs.inputs.texts in (
      taken,
      (λ out err outs errs.
          prepared g.F.Files.landed paths
          (λ (read : List (List ℕ)). DumpedAnswers taken (dumping_seen c.args.options.now) paths (c.args.plan_text.now ∷ read)) _ _ _ _
          texts c.decided.result (c.in_ok-inputs.ensures.does out err outs errs)
          (subst (λ (ps : List Word). AnswersWith (DumpedFiles taken (dumping_seen c.args.options.now) ps c.args.plan_text.now texts) c.decided.result)
          c.in_ok-inputs.ensures.paths decided.1)),
    )
