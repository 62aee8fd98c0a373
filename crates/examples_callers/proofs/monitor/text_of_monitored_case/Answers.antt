use Rattle.std.proofs.Common.{◌≡◌, ◌∙◌, IfOk, ap, subst}
use Rattle.jc_programs.specs.declared.run_end.CaseEnd.{CaseEnd}
use Rattle.jc_programs.specs.Turns.{turns_in}
use Rattle.jc_machine_model.specs.CaseEnds.{case_end_in}
use Rattle.jc_machine_model.specs.CaseText.{case_text}
use Rattle.jc_monitor_model.specs.MonitorWorld.{MonitorWorld}
use Rattle.jc_monitor_model.specs.MonitorRun.{monitor_run}
use Rattle.examples_callers.proofs.MonitorCaseLaws.{whole_monitor_run}
use Rattle.examples_callers.proofs.monitor.text_of_monitored_case.Goals as goal

pub returns : goal.returns
returns c =
    let program = c.args.program.now in
    let case = c.args.case.now in
    let left : c.in_ok-end.end ≡ case_end_in program (monitor_run program case (turns_in case)).world =
    c.in_ok-end.ensures program c.run.ensures.fits
    ∙ (ap (λ (n : MonitorWorld). case_end_in program n.world) c.run.ensures.world
    ∙ ap (λ (n : MonitorWorld). case_end_in program n.world)
    (whole_monitor_run program c.in_ok-world.world case c.args.entries.now c.requires.entries c.in_ok-world.ensures.world c.in_ok-world.ensures.threads)) in
    subst (λ (end : CaseEnd). IfOk c.case_text.result (λ text. text.items ≡ case_text program 1 end)) left c.case_text.ensures
