use Rattle.std.proofs.Common.{List, ℕ, ap, subst}
use Rattle.jc_link_programs.specs.declared.link_refusal.LinkRefusal.TheVariants as refusals
use Rattle.jc_link_programs.specs.Linking.{IsLinkClash}
use Rattle.jc_command_work.specs.declared.status.Fault.TheVariants as fault
use Rattle.jc_command_work.specs.Part.{refused}
use Rattle.jc_command_work.specs.Texts.{fault_text}
use Rattle.jc_command_run.proofs.ClashLaws.{are_within}
use Rattle.jc_command_run.proofs.clash.clash_stop.Goals as goal

pub path-requires : goal.path-requires
path-requires c =
    let w = c.in-Class in
    let is = subst (IsLinkClash c.args.inputs.now.texts) w.is c.requires in
    are_within c.args.inputs.now.texts (refusals.Class w.index w.refusal) is.refusal

pub name_stop-requires-clause-first : goal.name_stop-requires-clause-first
name_stop-requires-clause-first c =
    let w = c.in-SameName in
    let is = subst (IsLinkClash c.args.inputs.now.texts) w.is c.requires in
    (are_within c.args.inputs.now.texts (refusals.SameName w.first w.second) is.refusal).0

pub name_stop-requires-clause-second : goal.name_stop-requires-clause-second
name_stop-requires-clause-second c =
    let w = c.in-SameName in
    let is = subst (IsLinkClash c.args.inputs.now.texts) w.is c.requires in
    (are_within c.args.inputs.now.texts (refusals.SameName w.first w.second) is.refusal).1

pub id_stop-requires-clause-first : goal.id_stop-requires-clause-first
id_stop-requires-clause-first c =
    let w = c.in-SameId in
    let is = subst (IsLinkClash c.args.inputs.now.texts) w.is c.requires in
    (are_within c.args.inputs.now.texts (refusals.SameId w.first w.second) is.refusal).0

pub id_stop-requires-clause-second : goal.id_stop-requires-clause-second
id_stop-requires-clause-second c =
    let w = c.in-SameId in
    let is = subst (IsLinkClash c.args.inputs.now.texts) w.is c.requires in
    (are_within c.args.inputs.now.texts (refusals.SameId w.first w.second) is.refusal).1

pub returns-in-Class : goal.returns-in-Class
returns-in-Class c =
    let w = c.in-Class in
    let r = refusals.Class w.index w.refusal in
    let is = (subst (IsLinkClash c.args.inputs.now.texts) w.is c.requires).refusal in
    rw c.class_stop.ensures (r, is, ap (λ (p : List ℕ). refused (fault.Class w.index w.refusal) (fault_text p (fault.Class w.index w.refusal))) c.path.ensures)
