use Rattle.std.proofs.Common.{arith}
use Rattle.std.proofs.lemmas.Result.{err_from_is_err_and}
use Rattle.jc_insn.proofs.CodeReadingLaws.{less_left, goes_on, finishes, refuses}
use Rattle.jc_insn.proofs.decoding.read_all.Goals as goal

pub returns-in_err-next_insn-clause-refused : goal.returns-in_err-next_insn-clause-refused
returns-in_err-next_insn-clause-refused c =
    let p = err_from_is_err_and c.from_residual-in_err-next_insn.result c.from_residual-in_err-next_insn.ensures.1 in
    rw (p.1, p.2) (refuses c.args.bytes.now c.reading.reader c.next_insn.new.reader c.reading.code.items c.reading.starts.items
    c.in_err-next_insn.field-0.0 c.reading.invariant (omega (arith, c.reading-test.true, c.place.ensures)) c.in_err-next_insn.ensures.gives)

pub reading-smaller : goal.reading-smaller
reading-smaller c = less_left c.reading.reader c.next_insn.new.reader c.in_ok-next_insn.field-0 c.in_ok-next_insn.ensures.gives c.next_insn.ensures.end

pub reading-preserved : goal.reading-preserved
reading-preserved c = goes_on c.args.bytes.now c.reading.reader c.next_insn.new.reader c.reading.code.items c.push-in-reading.new.self.items
    c.reading.starts.items c.push.new.self.items c.in_ok-next_insn.field-0 c.place-in-reading.result c.reading.invariant c.in_ok-next_insn.ensures.gives
    c.next_insn.ensures.end c.in_ok-push-2.ensures.items c.place-in-reading.ensures c.in_ok-push.ensures.items

pub returns-clause-ok : goal.returns-clause-ok
returns-clause-ok c = finishes c.args.bytes.now c.reading.reader c.reading.code.items c.reading.starts.items c.push-2.new.self.items c.place-2.result
    c.reading.invariant (omega (arith, c.reading-test.false, c.place.ensures)) c.place-2.ensures c.in_ok-push-3.ensures.items
