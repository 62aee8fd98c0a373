use Rattle.std.proofs.Common.{take}
use Rattle.jc_kinds.specs.First.{IsFirstOrBound}
use Rattle.jc_kinds.specs.Rows.{IsUnfitInGroups, rows_of}
use Rattle.jc_kinds.proofs.guarded.first_in_column.Given as goal

-- the first place by the groups so far
abbrev pub invariant-looking : goal.invariant-looking
invariant-looking l = IsFirstOrBound (IsUnfitInGroups l.column.kinds.items l.framed.body.now.frames l.slot (rows_of (take l.rows-index l.groups))) l.bound l.first
