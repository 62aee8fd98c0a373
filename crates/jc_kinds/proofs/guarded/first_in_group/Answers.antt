use Rattle.std.proofs.Common.{rules, ◌<◌, length}
use Rattle.jc_kinds.proofs.GroupLaws.{group_first}
use Rattle.jc_kinds.proofs.guarded.first_in_group.Goals as goal

pub returns : goal.returns
returns c =
    let some : 0 < length c.args.rows.now = search rules in
    group_first c.args.column.now.kinds.items c.args.framed.now.body.now.frames c.args.slot c.args.rows.now c.wanted_at-want.result c.args.bound _
    c.requires.group some c.wanted_at-want.ensures c.first_in_rows.ensures
