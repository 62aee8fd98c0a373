use Rattle.std.proofs.Common.{◌≡◌, map, take, slice_index}
use Rattle.jc_methods.specs.Insn.{arm_with_place}
use Rattle.jc_emit.proofs.image.led_arms.Given as goal

-- the arms so far
abbrev pub invariant-leading : goal.invariant-leading
invariant-leading l = l.led ≡ map (arm_with_place (slice_index l.table)) (take l.arm-index l.arms)
