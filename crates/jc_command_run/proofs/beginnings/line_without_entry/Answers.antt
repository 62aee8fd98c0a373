use Rattle.std.proofs.Common.{◌≡◌, ◌<◌, List, length, get_or, option_map, sym, ◌∙◌, ap, arith}
use Rattle.jc_programs.specs.declared.run_plan.Case.{Case}
use Rattle.jc_programs.specs.declared.run_plan.ThreadLine.{ThreadLine}
use Rattle.jc_command_run.specs.RunStore.{first_without}
use Rattle.jc_command_run.specs.Beginnings.{line_of}
use Rattle.jc_command_run.proofs.BeginningLaws.{case_passed, case_lacking}
use Rattle.jc_command_run.proofs.beginnings.line_without_entry.Goals as goal

pub returns-in-Some : goal.returns-in-Some
returns-in-Some c =
    let p = c.args.program.now in
    let cases = c.args.plan.now.cases in
    let case = c.case-item.result in
    let within : c.seeking.case-index < length cases = omega (arith, c.seeking-test.true, ap length c.as_slice-case-items.ensures) in
    let is : case ≡ get_or cases c.seeking.case-index case = c.case-item.is ∙ ap (λ (l : List Case). get_or l c.seeking.case-index case) c.as_slice-case-items.ensures in
    case_lacking p cases c.seeking.case-index case within is c.in-Some.line
    (sym c.in-Some.is ∙ c.line_in.ensures ∙ ap (λ (ts : List ThreadLine). option_map line_of (first_without p ts)) c.deref.ensures) c.seeking.invariant

pub seeking-preserved : goal.seeking-preserved
seeking-preserved c =
    let p = c.args.program.now in
    let cases = c.args.plan.now.cases in
    let case = c.case-item.result in
    let within : c.seeking.case-index < length cases = omega (arith, c.seeking-test.true, ap length c.as_slice-case-items.ensures) in
    let is : case ≡ get_or cases c.seeking.case-index case = c.case-item.is ∙ ap (λ (l : List Case). get_or l c.seeking.case-index case) c.as_slice-case-items.ensures in
    case_passed p cases c.seeking.case-index case within is
    (sym c.in-None.is ∙ c.line_in.ensures ∙ ap (λ (ts : List ThreadLine). option_map line_of (first_without p ts)) c.deref.ensures) c.seeking.invariant
