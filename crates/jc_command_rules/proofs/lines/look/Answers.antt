use Rattle.std.proofs.Common.{rules, ◌≡◌, subst}
use Rattle.jc_command_classes.specs.declared.kept.Seen.TheVariants as seens
use Rattle.jc_command_classes.specs.ReportSteps.{data_records, IsShapedSeen, IsCoveredClass, IsSeen}
use Rattle.jc_command_classes.proofs.ReportStepLaws.{seen_refused, seen_unchanged, seen_changed}
use Rattle.jc_command_rules.specs.Printing.{IsListed}
use Rattle.jc_command_rules.proofs.ListingLaws.{listed_from}
use Rattle.jc_command_rules.proofs.lines.look.Goals as goal

pub class_text-requires : goal.class_text-requires
class_text-requires c =
    let there : c.in_ok-refusal.field-0 ≡ seens.Changed c.in-Changed.id c.in-Changed.made = search rules in
    subst IsShapedSeen there c.in_ok-refusal.ensures.shaped

pub returns-in-Refused : goal.returns-in-Refused
returns-in-Refused c =
    let records = data_records c.args.exec_data in
    let there : c.in_ok-refusal.field-0 ≡ seens.Refused c.in-Refused.refusal = search rules in
    seen_refused (IsCoveredClass records) (IsListed records) records c.args.bytes.now c.in-Refused.refusal
    (subst (IsSeen (IsCoveredClass records) records c.args.bytes.now) there c.in_ok-refusal.ensures.looked)

pub returns-in-Unchanged : goal.returns-in-Unchanged
returns-in-Unchanged c =
    let records = data_records c.args.exec_data in
    let there : c.in_ok-refusal.field-0 ≡ seens.Unchanged = search rules in
    seen_unchanged (IsCoveredClass records) (IsListed records) records c.args.bytes.now
    (subst (IsSeen (IsCoveredClass records) records c.args.bytes.now) there c.in_ok-refusal.ensures.looked)

pub returns-in_ok-made-in-Changed : goal.returns-in_ok-made-in-Changed
returns-in_ok-made-in-Changed c =
    let records = data_records c.args.exec_data in
    let covered = c.in-Changed.made in
    let there : c.in_ok-refusal.field-0 ≡ seens.Changed c.in-Changed.id covered = search rules in
    seen_changed (IsCoveredClass records) (IsListed records) records c.args.bytes.now c.in-Changed.id covered c.in_ok-made-in-Changed.made
    (λ a of. listed_from records a covered c.in_ok-made-in-Changed.made of c.in_ok-made-in-Changed.ensures)
    (subst (IsSeen (IsCoveredClass records) records c.args.bytes.now) there c.in_ok-refusal.ensures.looked)
