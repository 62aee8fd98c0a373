use Rattle.std.proofs.Common.{◌<◌, length, ap, arith, length-append}
use Rattle.std.proofs.lemmas.Result.{err_from_is_err_and}
use Rattle.jc_exec.specs.Front.{block_of, moved}
use Rattle.jc_exec.proofs.GatherLaws.{begins_here, goes_on, stops_unread, stops_unkept, all_taken}
use Rattle.jc_exec.proofs.gathering.take_blocks.Goals as goal

pub reading-init : goal.reading-init
reading-init g c = begins_here c.args.known.now c.args.offset c.args.bytes.now (g.T.Table.held c.args.table.now) c.new-reader.result
    c.requires.keyed c.new-reader.ensures.left c.new-reader.ensures.place

pub next_block-requires-clause-room : goal.next_block-requires-clause-room
next_block-requires-clause-room g c =
    let p = c.reading.invariant in
    omega (arith, c.requires.short, p.place, ap length p.parts, length-append p.taken c.reading.reader.left)

pub returns-in_err-block-clause-stops : goal.returns-in_err-block-clause-stops
returns-in_err-block-clause-stops g c =
    let p = err_from_is_err_and c.from_residual.result c.from_residual.ensures.1 in
    let more : c.reading.reader.place < length c.args.bytes.now = omega (arith, c.reading-test.true, c.place.ensures) in
    rw (p.1, p.2) (stops_unread c.args.known.now c.args.offset c.args.bytes.now c.reading.reader (g.T.Table.held c.args.table.now) (g.T.Table.held c.reading.table)
    c.reading.invariant (moved c.args.offset c.next_block.new.reader) c.in_err-block.field-0.0 more c.in_err-block.ensures)

pub reading-preserved : goal.reading-preserved
reading-preserved g c =
    goes_on c.args.known.now c.args.offset c.args.bytes.now c.reading.reader c.next_block.new.reader (g.T.Table.held c.args.table.now)
    (g.T.Table.held c.reading.table) (g.T.Table.held c.keep.new.table)
    (block_of c.in_ok-block.block) c.reading.invariant c.in_ok-block.ensures.0 c.in_ok-keep.ensures.keeps

pub returns-in_err-keep-clause-stops : goal.returns-in_err-keep-clause-stops
returns-in_err-keep-clause-stops g c =
    let p = err_from_is_err_and c.from_residual-in_err-keep.result c.from_residual-in_err-keep.ensures.1 in
    rw (p.1, p.2) (stops_unkept c.args.known.now c.args.offset c.args.bytes.now c.reading.reader (g.T.Table.held c.args.table.now) (g.T.Table.held c.reading.table)
    c.reading.invariant c.next_block.new.reader (block_of c.in_ok-block.block) c.in_err-keep.field-0.0 _ c.in_ok-block.ensures.0 c.in_err-keep.ensures.refused)

pub returns-clause-adds : goal.returns-clause-adds
returns-clause-adds g c = all_taken c.args.known.now c.args.offset c.args.bytes.now c.reading.reader (g.T.Table.held c.args.table.now) (g.T.Table.held c.reading.table)
    c.reading.invariant (omega (arith, c.reading-test.false, c.place.ensures))
