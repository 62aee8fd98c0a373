use Rattle.std.proofs.Common.{◌↔◌, ℕ, Bool, List, length, ap, sym, ◌∙◌, subst, arith}
use Rattle.std.proofs.lemmas.List.{length-map}
use Rattle.jc_programs.specs.declared.run_end.CaseEnd.{CaseEnd}
use Rattle.jc_programs.specs.Probes.{counts_of, IsHit}
use Rattle.jc_monitor_runs.specs.MonitorTexts.{monitor_case_end, monitor_case_hits}
use Rattle.jc_command_run.specs.Texts.{end_texts}
use Rattle.jc_command_run.proofs.EntryLaws.{have_entries}
use Rattle.jc_command_run.proofs.HitLaws.{probe, same_counts, same_store}
use Rattle.jc_command_monitored.specs.MonitoredHits.{IsMonitoredHit}
use Rattle.jc_command_monitored.proofs.CaseLaws.{same_texts}
use Rattle.jc_command_monitored.proofs.program.run_monitored.Goals as goal

pub run_cases-requires-clause-entries : goal.run_cases-requires-clause-entries
run_cases-requires-clause-entries g c = have_entries c.args.program.now c.args.plan.now c.requires.entries

pub hit_store-requires-clause-counts : goal.hit_store-requires-clause-counts
hit_store-requires-clause-counts g c = ap counts_of c.bits.ensures ∙ c.in_ok-ends.ensures.counts ∙ same_counts c.args.program.now

pub texts_of-requires : goal.texts_of-requires
texts_of-requires g c =
    let cases = c.args.plan.now.cases in
    let many = ap (λ (l : List CaseEnd). length l) (c.deref.ensures.value ∙ c.in_ok-ends.ensures.ends) ∙ length-map cases (monitor_case_end c.args.program.now) in
    omega (arith, many, c.requires.plan.few)

pub returns-clause-store : goal.returns-clause-store
returns-clause-store g c =
    let program = c.args.program.now in
    let plan = c.args.plan.now in
    let ran = c.in_ok-ends.ensures in
    let are = subst (λ (hits : List (List Bool)). (class id : ℕ) → IsHit hits class id ↔ IsMonitoredHit program plan (probe class id)) (sym c.bits.ensures) ran.hits in
    c.in_ok-store.ensures ∙ same_store program (monitor_case_hits program) plan c.bits.result.now are (ap counts_of c.bits.ensures ∙ ran.counts)

pub returns-clause-text : goal.returns-clause-text
returns-clause-text g c =
    c.in_ok-text.ensures ∙ ap (end_texts c.args.program.now 1) (c.deref.ensures.value ∙ c.in_ok-ends.ensures.ends)
    ∙ same_texts c.args.program.now 1 c.args.plan.now.cases
