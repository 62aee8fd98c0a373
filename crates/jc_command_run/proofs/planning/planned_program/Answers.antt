use Rattle.std.proofs.Common.{List, ℕ, inl, inr, subst, arith}
use Rattle.std.proofs.lemmas.Result.{err_from_is_err_and}
use Rattle.jc_bytes.specs.Failing.{Said}
use Rattle.jc_link_programs.specs.Linking.{IsProgramOf, IsLinkClash}
use Rattle.jc_command_run.proofs.FitLaws.{fit_records}
use Rattle.jc_command_run.proofs.DecidedLaws.{are_bytes}
use Rattle.jc_command_run.proofs.planning.planned_program.Goals as goal

pub link_or_clash-requires-clause-few : goal.link_or_clash-requires-clause-few
link_or_clash-requires-clause-few c = omega (arith, c.texts.ensures.each, c.requires.few)

pub link_stop-requires : goal.link_stop-requires
link_stop-requires c = subst (λ (ts : List (List ℕ)). Said c.in-Err.fail (IsLinkClash ts)) c.texts.ensures.texts c.in-Err.ensures.refused

pub returns-in_err-run_plan-clause-refused : goal.returns-in_err-run_plan-clause-refused
returns-in_err-run_plan-clause-refused c =
    let p = err_from_is_err_and c.from_residual.result c.from_residual.ensures.1 in
    rw (p.1, p.2) (inl c.in_err-run_plan.ensures.refused)

pub returns-in-Ok-clause-program : goal.returns-in-Ok-clause-program
returns-in-Ok-clause-program c = (
  subst (λ (ts : List (List ℕ)). IsProgramOf ts c.in-Ok.program) c.texts.ensures.texts c.in-Ok.ensures.linked,
  c.in-Ok.ensures.program,
  fit_records c.texts.result.now c.in-Ok.program (are_bytes c.args.inputs.now.paths c.texts.result.now c.texts.ensures.read) c.in-Ok.ensures.linked,
)

pub returns-in-Err-clause-refused : goal.returns-in-Err-clause-refused
returns-in-Err-clause-refused c = inr (c.in_ok-run_plan.run_plan, c.in_ok-run_plan.ensures.plan, c.link_stop.ensures)
