-- Instructions have numbers of four bytes.
use Rattle.std.proofs.Common.{◌<◌, ◌≤◌, List, length, arith}
use Rattle.jc_methods.specs.declared.insn.Insn.{Insn}
use Rattle.jc_methods.specs.WellMade.{insns_and_arms}
use Rattle.jc_methods.proofs.PlacedInsnLaws.{few_insns as each_counts}

pub few_insns : (code : List Insn) → insns_and_arms code ≤ 65535 → length code < 4294967296
few_insns code few = let h = each_counts code in omega (arith, h)
