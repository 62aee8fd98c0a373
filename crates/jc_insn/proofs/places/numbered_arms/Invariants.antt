use Rattle.std.proofs.Common.{◌≡◌, map, take}
use Rattle.std.specs.Prelude.{slice_index_or}
use Rattle.jc_methods.specs.Insn.{arm_with_place}
use Rattle.jc_insn.proofs.places.numbered_arms.Given as goal

-- the arms so far
abbrev pub invariant-numbering : goal.invariant-numbering
invariant-numbering l = l.list.items ≡ map (arm_with_place (λ offset. slice_index_or l.numbers offset l.count)) (take l.arm-index l.arms)
