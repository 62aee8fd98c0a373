use Rattle.std.proofs.Common.{arith}
use Rattle.jc_bytes.proofs.OneTextLaws.{are_bytes}
use Rattle.jc_exec.proofs.FeedLaws.{long_lasts}
use Rattle.jc_exec.proofs.waiting.may_begin.Goals as goal

pub returns-then-bytes-ge-LONGEST_BLOCK-clause-lasts : goal.returns-then-bytes-ge-LONGEST_BLOCK-clause-lasts
returns-then-bytes-ge-LONGEST_BLOCK-clause-lasts c = λ same unfit more.
    long_lasts c.args.offset c.args.bytes.now (are_bytes c.args.bytes.now (λ i. omega (arith, c.type_inv.bytes i))) c.if-bytes-ge-LONGEST_BLOCK.true unfit more
