use Rattle.jc_command_work.proofs.Leaves.{put_text, broke_text}
use Rattle.jc_command_work.proofs.output.put_out.Goals as goal

pub returns-in-Ok-clause-does : goal.returns-in-Ok-clause-does
returns-in-Ok-clause-does g c landed contents failed err reads writes errs =
    put_text landed contents failed (g.O.Sink.told c.args.out.now) (g.O.Sink.told c.put.new.self) err reads writes (g.O.Sink.faults c.args.out.now)
    (g.O.Sink.faults c.put.new.self) errs c.args.text.now c.in-Ok.ensures.leaves c.in-Ok.ensures.cause

pub returns-in-Err-clause-does : goal.returns-in-Err-clause-does
returns-in-Err-clause-does g c landed contents failed err reads writes errs =
    broke_text landed contents failed (g.O.Sink.told c.args.out.now) (g.O.Sink.told c.put.new.self) err reads writes (g.O.Sink.faults c.args.out.now)
    (g.O.Sink.faults c.put.new.self) errs c.args.text.now c.in-Err.field-0 c.in-Err.ensures.leaves c.in-Err.ensures.cause
