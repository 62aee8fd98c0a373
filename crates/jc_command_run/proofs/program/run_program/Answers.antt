use Rattle.std.proofs.Common.{List, length, ap, ◌∙◌, arith}
use Rattle.std.proofs.lemmas.List.{length-map}
use Rattle.jc_programs.specs.declared.run_end.CaseEnd.{CaseEnd}
use Rattle.jc_machine_model.specs.Run.{case_hits}
use Rattle.jc_workers.specs.Cases.{end_under}
use Rattle.jc_command_run.specs.Texts.{end_texts}
use Rattle.jc_command_run.proofs.EntryLaws.{have_entries}
use Rattle.jc_command_run.proofs.HitLaws.{same_counts, same_store}
use Rattle.jc_command_run.proofs.TextLaws.{same_texts}
use Rattle.jc_command_run.proofs.program.run_program.Goals as goal

pub run_plan-requires-clause-entries : goal.run_plan-requires-clause-entries
run_plan-requires-clause-entries g c _ _ = have_entries c.args.program.now c.args.plan.now c.requires.entries

pub hit_store-requires-clause-counts : goal.hit_store-requires-clause-counts
hit_store-requires-clause-counts g c = c.in_ok-ends.ensures.counts ∙ same_counts c.args.program.now

pub texts_of-requires : goal.texts_of-requires
texts_of-requires g c =
    let cases = c.args.plan.now.cases in
    let many = ap (λ (l : List CaseEnd). length l) (c.deref.ensures.value ∙ c.in_ok-ends.ensures.ends) ∙ length-map cases (end_under c.args.program.now) in
    omega (arith, many, c.requires.plan.few)

pub returns-clause-store : goal.returns-clause-store
returns-clause-store g c =
    let ran = c.in_ok-ends.ensures in
    c.in_ok-store.ensures ∙ same_store c.args.program.now (case_hits c.args.program.now) c.args.plan.now c.in_ok-ends.field-0.hits ran.hits ran.counts

pub returns-clause-text : goal.returns-clause-text
returns-clause-text g c =
    c.in_ok-text.ensures ∙ ap (end_texts c.args.program.now 1) (c.deref.ensures.value ∙ c.in_ok-ends.ensures.ends)
    ∙ same_texts c.args.program.now 1 c.args.plan.now.cases
