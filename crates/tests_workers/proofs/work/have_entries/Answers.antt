use Rattle.std.proofs.Common.{◌≡◌, ◌<◌, ◌≤◌, List, length, get_or, subst}
use Rattle.jc_programs.specs.declared.run_plan.Case.{Case}
use Rattle.tests_workers.specs.Begin.{Begin}
use Rattle.tests_workers.proofs.BeginLaws.{one_more_case, all_cases}
use Rattle.tests_workers.proofs.work.have_entries.Goals as goal

pub seeking-preserved : goal.seeking-preserved
seeking-preserved c =
    let program = c.args.program.now in
    let i = c.seeking.case-index in
    let case = c.case-item.result in
    let same = c.as_slice-case-items.ensures in
    let within = subst (λ (cases : List Case). i < length cases) same c.seeking-test.true in
    let is = subst (λ (cases : List Case). case ≡ get_or cases i case) same c.case-item.is in
    let begins = subst (Begin program) c.deref.ensures (c.begin.ensures c.if-not-begin.false) in
    one_more_case program c.args.plan.now.cases i case within is begins c.seeking.invariant

pub returns : goal.returns
returns c = λ _ case contains.
    let i = c.seeking.case-index in
    let all = subst (λ (cases : List Case). length cases ≤ i) c.as_slice-case-items.ensures c.seeking-test.false in
    all_cases c.args.program.now c.args.plan.now.cases i all c.seeking.invariant case contains
