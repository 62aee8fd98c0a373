use Rattle.std.proofs.Common.{arith}
use Rattle.jc_command_exec.proofs.LinesLaws.{before_at}
use Rattle.jc_command_exec.proofs.lines.start_at.Goals as goal

pub returns : goal.returns
returns c = before_at c.args.ends.now c.args.place (omega (arith, c.if-place-eq0.false))
