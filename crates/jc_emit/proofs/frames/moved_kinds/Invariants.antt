use Rattle.std.proofs.Common.{◌≡◌, map, take, slice_index}
use Rattle.jc_emit.specs.Shift.{image_kind}
use Rattle.jc_emit.proofs.frames.moved_kinds.Given as goal

-- the types so far are moved
abbrev pub invariant-moving : goal.invariant-moving
invariant-moving l = l.moved.items ≡ map (image_kind (slice_index l.images)) (take l.kind-index l.kinds)
