use Rattle.std.proofs.Common.{◌≡◌, ℕ, List, sym, ap, ◌∙◌, subst}
use Rattle.std.specs.Prelude.{IfOk}
use Rattle.jc_programs.specs.declared.run_end.CaseEnd.{CaseEnd}
use Rattle.jc_programs.specs.Probes.{IsHit}
use Rattle.jc_programs.specs.Turns.{AreThreads}
use Rattle.jc_machine.specs.Hits.{Gained}
use Rattle.jc_machine_model.specs.Begin.{entries_of}
use Rattle.jc_machine_model.specs.CaseEnds.{case_end_in}
use Rattle.jc_monitor_model.specs.MonitorWorld.{MonitorWorld}
use Rattle.jc_monitor_world.specs.Monitored.{without_hits}
use Rattle.jc_workers.proofs.CaseLaws.{each_ok}
use Rattle.jc_command_monitored.proofs.CaseLaws.{entries_fit, whole_run}
use Rattle.jc_command_monitored.proofs.cases.run_case.Goals as goal

pub begin-requires-clause-entries : goal.begin-requires-clause-entries
begin-requires-clause-entries c =
    let program = c.args.program.now in
    entries_fit program c.args.case.now c.requires.entries c.as_slice-2.result.now
    (c.as_slice-2.ensures ∙ c.in_ok-entries.ensures ∙ ap (entries_of program) c.as_slice.ensures)

pub run-requires-clause-threads : goal.run-requires-clause-threads
run-requires-clause-threads c = subst (λ (n : ℕ). AreThreads n c.args.case.now.schedule) (sym c.in_ok-world.ensures.threads) c.requires.case.threads

pub returns-clause-end : goal.returns-clause-end
returns-clause-end c =
    let program = c.args.program.now in
    let entries = c.as_slice-2.result.now in
    let are = entries_fit program c.args.case.now c.requires.entries entries (c.as_slice-2.ensures ∙ c.in_ok-entries.ensures ∙ ap (entries_of program) c.as_slice.ensures) in
    let whole = whole_run program c.args.case.now entries are c.in_ok-world.world c.in_ok-world.ensures.world c.in_ok-world.ensures.threads in
    subst (λ (left : CaseEnd). IfOk c.end.result (λ end. end ≡ left))
    (ap (λ (m : MonitorWorld). case_end_in program m.world) (c.run.ensures.world ∙ ap without_hits whole)) (c.end.ensures program c.run.ensures.fits)

pub returns-clause-hits : goal.returns-clause-hits
returns-clause-hits c =
    let program = c.args.program.now in
    let entries = c.as_slice-2.result.now in
    let are = entries_fit program c.args.case.now c.requires.entries entries (c.as_slice-2.ensures ∙ c.in_ok-entries.ensures ∙ ap (entries_of program) c.as_slice.ensures) in
    let whole = whole_run program c.args.case.now entries are c.in_ok-world.world c.in_ok-world.ensures.world c.in_ok-world.ensures.threads in
    each_ok c.end.result _
    (λ _. subst (λ (m : MonitorWorld). Gained (IsHit c.args.sink.now) m.world.hits (IsHit c.run.new.sink)) whole c.run.ensures.hits)
