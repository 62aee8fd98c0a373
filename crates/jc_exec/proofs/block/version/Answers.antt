use Rattle.std.proofs.Common.{◌<◌, get_or, arith}
use Rattle.jc_exec.proofs.HeaderLaws.{same_bytes, header_read}
use Rattle.jc_exec.proofs.block.version.Goals as goal

pub returns-clause-known : goal.returns-clause-known
returns-clause-known c = λ is.
    let high : get_or c.in_ok-version.version.now 0 0 < 256 = omega arith in
    let low : get_or c.in_ok-version.version.now 1 0 < 256 = omega arith in
    header_read c.args.reader.now.left c.take.new.self.left c.in_ok-magic.magic.now c.in_ok-version.version.now c.take-2.new.self.left
    c.in_ok-magic.ensures.ok c.in_ok-magic.ensures.moves.left c.in_ok-version.ensures.ok c.in_ok-version.ensures.moves.left c.in_ok-version.ensures.moves.enough
    (same_bytes c.ne.result c.in_ok-magic.magic.now c.as_slice.result.now _ c.ne.ensures c.if-ne.false c.as_slice.ensures)
    high low (omega (arith, is, c.from.ensures, c.from-2.ensures))
