use Rattle.std.proofs.Common.{rules, ◌≡◌, ◌≤◌, [], ◌∷◌, ◌++◌, length, sym, ap, ◌∙◌, subst, arith}
use Rattle.std.specs.Global.{Vec}
use Rattle.std.proofs.lemmas.List.{map-append}
use Rattle.jc_methods.specs.declared.body.Handler.{Handler}
use Rattle.jc_kinds.specs.Rows.{rows_of}
use Rattle.jc_kinds.proofs.RowLaws.{AreGroupsSoFar, groups_more, all_groups}
use Rattle.jc_kinds.proofs.rows.groups_of.Goals as goal

pub grouping-preserved : goal.grouping-preserved
grouping-preserved c =
    let rows = c.args.rows.now in let at = c.grouping.at in let groups = c.grouping.groups.items in
    let end = c.group_end-end in let group = c.in_ok-rising.field-0 in
    let from = end.ensures.from in
    let pushed : c.push.new.self.items ≡ groups ++ group ∷ [] = search rules in
    subst (AreGroupsSoFar rows end.result) (sym (ap rows_of pushed ∙ map-append (λ (x : Vec Handler). x.items) groups (group ∷ [])))
    (groups_more rows group.items at end.result (omega (arith, from)) end.ensures.within end.ensures.alike (rows_of groups) c.grouping.invariant c.in_ok-rising.ensures)

pub returns : goal.returns
returns c =
    let past : length c.args.rows.now ≤ c.grouping.at = search rules in
    all_groups c.args.rows.now c.grouping.at (rows_of c.grouping.groups.items) past c.grouping.invariant
