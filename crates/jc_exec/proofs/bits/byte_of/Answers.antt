use Rattle.std.proofs.Common.{arith}
use Rattle.jc_exec.proofs.PackingLaws.{low_eight}
use Rattle.jc_exec.proofs.bits.byte_of.Goals as goal

pub returns-in-len8 : goal.returns-in-len8
returns-in-len8 c =
    low_eight c.args.bits.now c.from-in-len8-4.result c.from-in-len8-5.result c.from-in-len8-6.result c.from-in-len8-7.result c.from.result
    c.from-in-len8.result c.from-in-len8-2.result c.from-in-len8-3.result
    (omega (arith, c.in-len8.len_at_least, c.in-len8.len_below))
    c.from-in-len8-4.ensures c.from-in-len8-5.ensures c.from-in-len8-6.ensures c.from-in-len8-7.ensures c.from.ensures c.from-in-len8.ensures c.from-in-len8-2.ensures c.from-in-len8-3.ensures
