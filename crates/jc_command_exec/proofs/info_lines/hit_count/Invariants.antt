use Rattle.std.proofs.Common.{◌≡◌, take}
use Rattle.std.specs.List.{count_by}
use Rattle.jc_command_exec.proofs.info_lines.hit_count.Given as goal

abbrev pub invariant-counting : goal.invariant-counting
invariant-counting l = l.count ≡ count_by (λ hit. hit) (take l.k l.bits)
