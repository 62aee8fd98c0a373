use Rattle.jc_command_work.proofs.Leaves.{put_err_text, broke_err_text}
use Rattle.jc_command_work.proofs.output.put_err.Goals as goal

pub returns-in-Ok-clause-does : goal.returns-in-Ok-clause-does
returns-in-Ok-clause-does g c landed contents failed out reads writes outs =
    put_err_text landed contents failed out (g.E.Sink.told c.args.err.now) (g.E.Sink.told c.put.new.self) reads writes outs (g.E.Sink.faults c.args.err.now)
    (g.E.Sink.faults c.put.new.self) c.args.text.now c.in-Ok.ensures.leaves c.in-Ok.ensures.cause

pub returns-in-Err-clause-does : goal.returns-in-Err-clause-does
returns-in-Err-clause-does g c landed contents failed out reads writes outs =
    broke_err_text landed contents failed out (g.E.Sink.told c.args.err.now) (g.E.Sink.told c.put.new.self) reads writes outs
    (g.E.Sink.faults c.args.err.now) (g.E.Sink.faults c.put.new.self) c.args.text.now c.in-Err.field-0 c.in-Err.ensures.leaves c.in-Err.ensures.cause
