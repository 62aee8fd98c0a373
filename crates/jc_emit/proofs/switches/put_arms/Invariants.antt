use Rattle.std.proofs.Common.{ℕ}
use Rattle.jc_bytes.specs.PlainLists.{pieces}
use Rattle.jc_emit.specs.Branching.{IsTableOf, arm_part_in}
use Rattle.jc_emit.specs.Writing.{Grows}
use Rattle.jc_emit.specs.Written.{integer_in}
use Rattle.jc_emit.proofs.switches.put_arms.Given as goal

-- what stands at the arm places of the targets so far is put
abbrev pub invariant-putting : goal.invariant-putting
invariant-putting l = (land : ℕ → ℕ) → IsTableOf land l.lands
    → Grows (integer_in l.source.constants.now) l.source.slot l.fn.written l.written (pieces (arm_part_in land l.fn.targets l.ids) l.number)
