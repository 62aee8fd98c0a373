use Rattle.std.proofs.Common.{◌≡◌, ◌++◌, map, take}
use Rattle.std.specs.Prelude.{slice_index}
use Rattle.std.specs.List.{flat_map}
use Rattle.jc_bytes.specs.BigNumbers.{word}
use Rattle.jc_insn.specs.Writing.{difference}
use Rattle.jc_insn.proofs.write.put_offsets.Given as goal

-- the arms so far
abbrev pub invariant-writing : goal.invariant-writing
invariant-writing l = l.out.items ≡ l.fn.out.items ++ flat_map (λ to. word (difference l.at to)) (map (slice_index l.starts) (take l.to-index l.arms))
