use Rattle.std.proofs.Common.{length, ap, arith}
use Rattle.jc_command_exec.proofs.LinesLaws.{lines_count}
use Rattle.jc_command_exec.proofs.lines.Lines.len.Goals as goal

pub returns : goal.returns
returns c = omega (arith, c.len.ensures, lines_count c.self.inside.text.items 0 c.self.inside.ends.items, ap length c.self.view_is)
