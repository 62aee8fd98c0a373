use Rattle.std.proofs.Common.{◌≡◌}
use Rattle.jc_insn.specs.Items.{in_pieces, offset_in}
use Rattle.jc_insn.proofs.switch.offsets.Given as goal

-- the arms so far
abbrev pub invariant-reading : goal.invariant-reading
invariant-reading l = l.arms.items ≡ in_pieces 4 (offset_in l.at) l.index l.words
