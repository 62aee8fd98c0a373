use Rattle.std.proofs.Common.{arith}
use Rattle.std.specs.Prelude.{slice_index}
use Rattle.jc_instrument_code.proofs.PartLaws.{line_part}
use Rattle.jc_instrument_code.proofs.parts.put_line_part.Goals as goal

pub returns : goal.returns
returns c =
    line_part (slice_index c.args.starts.now) c.args.name _ c.args.lines.now c.args.into.now.items c.put_header.new.into.items
    c.put_lines.new.into.items c.in_ok-put_header.ensures c.in_ok-put_lines.ensures (omega arith)
