use Rattle.std.proofs.Common.{◌≡◌, ◌<◌, length, sym, ◌∙◌, subst₂, arith, slice_index_or}
use Rattle.jc_programs.specs.Entries.{AreEntries}
use Rattle.jc_workers.specs.Cases.{case_at, no_case}
use Rattle.jc_workers.proofs.CaseLaws.{read, entries_at}
use Rattle.jc_workers.proofs.plan_runner.PlanRunnerCaseRunner.begin.Goals as goal

pub begin-requires-clause-entries : goal.begin-requires-clause-entries
begin-requires-clause-entries c =
    let program = c.args.self.now.program.now in
    let plan = c.args.self.now.plan.now in
    let entries = c.args.self.now.entries.items in
    let some : 0 < length plan.cases = omega (arith, c.requires.plan_is.some) in
    let case_is : c.index-deref-0.result ≡ case_at plan 0 =
    read plan.cases c.deref.result.now 0 c.index-deref-0.result no_case c.index-deref-0.is c.deref.ensures some in
    let entries_is : c.deref-2.result.now ≡ slice_index_or entries 0 c.index.result.now = c.deref-2.ensures ∙ c.index.ensures in
    subst₂ (λ case es. AreEntries program case.threads es) (sym case_is) (sym entries_is)
    (entries_at program plan entries c.requires 0 some c.index.result.now)
