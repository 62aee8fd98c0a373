use Rattle.std.proofs.lemmas.Result.{err_from_is_err_and}
use Rattle.jc_exec.proofs.GatherLaws.{adds_gathers, stops_file}
use Rattle.jc_exec.proofs.gathering.read_blocks.Goals as goal

pub returns-in_err-take_blocks-clause-refused : goal.returns-in_err-take_blocks-clause-refused
returns-in_err-take_blocks-clause-refused c =
    let p = err_from_is_err_and c.from_residual.result c.from_residual.ensures.1 in
    rw (p.1, p.2) (stops_file c.args.known.now c.args.bytes.now _ _ c.in_err-take_blocks.field-0.0 c.requires.keyed c.new-sessions.ensures.items
    c.new-records.ensures c.in_err-take_blocks.ensures.stops)

pub returns-clause-gathers : goal.returns-clause-gathers
returns-clause-gathers c = adds_gathers c.args.known.now c.args.bytes.now _ _ c.new-sessions.ensures.items c.new-records.ensures c.in_ok-take_blocks.ensures.adds
