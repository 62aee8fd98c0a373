use Rattle.std.proofs.Common.{◌≤◌, ℕ, List, length, Ok, Err, sym, ◌∙◌, ap, subst}
use Rattle.std.proofs.lemmas.Result.{err_from_is_err_and}
use Rattle.jc_bytes.specs.Reader.{most_read}
use Rattle.jc_programs.specs.Turns.{IsRunPlan}
use Rattle.jc_programs.specs.declared.run_plan.RunPlan.{RunPlan}
use Rattle.jc_machine_laws.specs.Frameless.{frameless}
use Rattle.jc_command_work.specs.Seen.{stop_seen}
use Rattle.jc_command_sample.specs.SampleWork.{HaveEntries, sample_text}
use Rattle.jc_command_sample.proofs.BytesLaws.{sample_short}
use Rattle.jc_command_sample.proofs.LineLaws.{entries_of, counted_so, counting_ends, runs}
use Rattle.jc_command_sample.proofs.PlanLaws.{sample_is_plan}
use Rattle.jc_command_sample.proofs.work.run_sample.Goals as goal

pub run_program-requires-clause-plan : goal.run_program-requires-clause-plan
run_program-requires-clause-plan g c _ _ = subst IsRunPlan (sym c.in_ok-plan.ensures) (sample_is_plan c.args.methods c.requires.methods.0)

pub run_program-requires-clause-entries : goal.run_program-requires-clause-entries
run_program-requires-clause-entries g c _ _ = entries_of c.args.program.now c.in_ok-plan.plan c.in_ok-check_entries.ensures

pub file_counters-requires : goal.file_counters-requires
file_counters-requires g c = subst (λ (l : List ℕ). length l ≤ most_read) (sym c.requires.bytes) (sample_short c.args.methods c.requires.methods.1)

pub returns-in_err-counters : goal.returns-in_err-counters
returns-in_err-counters g c =
    let n = c.args.methods in
    let program = c.args.program.now in
    let have = subst (λ (p : RunPlan). HaveEntries (frameless program) p tt) c.in_ok-plan.ensures c.in_ok-check_entries.ensures in
    let p = err_from_is_err_and c.from_residual-in_err-counters.result c.from_residual-in_err-counters.ensures.1 in
    rw (p.1, p.2) (counting_ends n c.args.probes (frameless program) have (stop_seen c.in_err-counters.field-0.0)
    (counted_so program c.in_ok-plan.plan n c.args.bytes.now c.in_ok-ran.ran.store (Err c.in_err-counters.field-0.0) c.in_ok-plan.ensures
    c.requires.bytes c.in_ok-ran.ensures.store c.in_err-counters.ensures))

pub returns : goal.returns
returns g c =
    let n = c.args.methods in
    let program = c.args.program.now in
    let counters = c.in_ok-counters.counters in
    let have = subst (λ (p : RunPlan). HaveEntries (frameless program) p tt) c.in_ok-plan.ensures c.in_ok-check_entries.ensures in
    let count = c.len.ensures ∙ ap (λ (p : RunPlan). length p.cases) c.in_ok-plan.ensures in
    runs n c.args.probes (frameless program) have counters c.in_ok-sample_text.field-0.items
    (counted_so program c.in_ok-plan.plan n c.args.bytes.now c.in_ok-ran.ran.store (Ok counters) c.in_ok-plan.ensures c.requires.bytes c.in_ok-ran.ensures.store c.in_ok-counters.ensures)
    (c.in_ok-sample_text.ensures ∙ ap (λ (k : ℕ). sample_text n c.args.probes k counters) count)
