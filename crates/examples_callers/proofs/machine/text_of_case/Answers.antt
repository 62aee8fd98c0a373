use Rattle.std.proofs.Common.{◌≡◌, ◌∙◌, IfOk, ap, subst}
use Rattle.jc_programs.specs.declared.run_end.CaseEnd.{CaseEnd}
use Rattle.jc_programs.specs.Turns.{turns_in}
use Rattle.jc_machine_model.specs.CaseEnds.{case_end_in, case_end}
use Rattle.jc_machine_model.specs.CaseText.{case_text}
use Rattle.examples_callers.proofs.CaseLaws.{whole_run}
use Rattle.examples_callers.proofs.machine.text_of_case.Goals as goal

pub returns : goal.returns
returns c =
    let program = c.args.program.now in
    let case = c.args.case.now in
    let left : c.in_ok-end.end ≡ case_end program case (turns_in case) =
    c.in_ok-end.ensures program c.run.ensures.fits
    ∙ (ap (case_end_in program) c.run.ensures.world
    ∙ ap (case_end_in program) (whole_run program c.in_ok-world.world case c.args.entries.now c.requires.entries c.in_ok-world.ensures.world)) in
    subst (λ (end : CaseEnd). IfOk c.case_text.result (λ text. text.items ≡ case_text program 1 end)) left c.case_text.ensures
