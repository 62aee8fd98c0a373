use Rattle.std.proofs.Common.{◌≡◌, ℕ, ◌+◌, ◌++◌, length}
use Rattle.jc_bytes.specs.PlainLists.{pieces}
use Rattle.jc_plan.specs.Plan.{plan_of}
use Rattle.jc_emit.specs.Sizes.{narrow}
use Rattle.jc_emit.specs.Items.{prelude, segment}
use Rattle.jc_emit.specs.Written.{Shows, integer_in}
use Rattle.jc_emit.proofs.segments.write_code.Given as goal

-- what belongs to the instructions so far is written
abbrev pub invariant-writing : goal.invariant-writing
invariant-writing l = record {
  table : length l.table.items ≡ length l.fn.source.body.now.code + 1;
  shows : (first : ℕ) → l.fn.source.plan.now ≡ plan_of l.fn.source.body.now first
      → Shows (integer_in l.fn.source.constants.now) l.fn.source.body.now.arg_slots
      (prelude l.fn.source.fetch ++ pieces (segment l.fn.source.body.now first (narrow l.fn.source.fetch)) l.at) l.written;
}
