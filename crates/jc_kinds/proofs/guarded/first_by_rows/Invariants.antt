use Rattle.std.proofs.Common.{take}
use Rattle.jc_kinds.specs.First.{IsFirstOrBound}
use Rattle.jc_kinds.specs.Guarded.{column_of, IsUnfitInColumn}
use Rattle.jc_kinds.proofs.guarded.first_by_rows.Given as goal

-- the first place by the rows so far
abbrev pub invariant-looking : goal.invariant-looking
invariant-looking l = IsFirstOrBound (IsUnfitInColumn (column_of l.states l.slot) l.framed.body.now.frames l.slot (take l.handler-index l.handlers)) l.bound l.first
