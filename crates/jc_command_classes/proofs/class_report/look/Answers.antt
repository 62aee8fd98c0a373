use Rattle.std.proofs.Common.{rules, ◌≡◌, subst}
use Rattle.std.proofs.lemmas.Result.{err_from_is_err_and}
use Rattle.jc_command_classes.specs.declared.kept.Seen.TheVariants as seens
use Rattle.jc_command_classes.specs.ReportSteps.{data_records, IsShapedSeen, IsCoveredClass, IsCountedBy, IsSeen}
use Rattle.jc_command_classes.proofs.ReportStepLaws.{seen_refused, seen_unchanged, seen_changed, counted_from}
use Rattle.jc_command_classes.proofs.class_report.look.Goals as goal

pub counted-requires : goal.counted-requires
counted-requires c =
    let there : c.in_ok-refusal.field-0 ≡ seens.Changed c.in-Changed.id c.in-Changed.made = search rules in
    subst IsShapedSeen there c.in_ok-refusal.ensures.shaped

pub returns-in_err-refusal : goal.returns-in_err-refusal
returns-in_err-refusal c =
    let p = err_from_is_err_and c.from_residual.result c.from_residual.ensures.1 in
    rw (p.1, p.2) c.in_err-refusal.ensures.looked

pub returns-in-Refused : goal.returns-in-Refused
returns-in-Refused c =
    let records = data_records c.args.exec_data in
    let there : c.in_ok-refusal.field-0 ≡ seens.Refused c.in-Refused.refusal = search rules in
    seen_refused (IsCoveredClass records) (IsCountedBy records) records c.args.bytes.now c.in-Refused.refusal
    (subst (IsSeen (IsCoveredClass records) records c.args.bytes.now) there c.in_ok-refusal.ensures.looked)

pub returns-in-Unchanged : goal.returns-in-Unchanged
returns-in-Unchanged c =
    let records = data_records c.args.exec_data in
    let there : c.in_ok-refusal.field-0 ≡ seens.Unchanged = search rules in
    seen_unchanged (IsCoveredClass records) (IsCountedBy records) records c.args.bytes.now
    (subst (IsSeen (IsCoveredClass records) records c.args.bytes.now) there c.in_ok-refusal.ensures.looked)

pub returns-in_ok-made-in-Changed : goal.returns-in_ok-made-in-Changed
returns-in_ok-made-in-Changed c =
    let records = data_records c.args.exec_data in
    let covered = c.in-Changed.made in
    let there : c.in_ok-refusal.field-0 ≡ seens.Changed c.in-Changed.id covered = search rules in
    seen_changed (IsCoveredClass records) (IsCountedBy records) records c.args.bytes.now c.in-Changed.id covered c.in_ok-made-in-Changed.made
    (λ a of. counted_from records a covered c.in_ok-made-in-Changed.made of c.in_ok-made-in-Changed.ensures)
    (subst (IsSeen (IsCoveredClass records) records c.args.bytes.now) there c.in_ok-refusal.ensures.looked)
