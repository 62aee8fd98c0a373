use Rattle.std.proofs.Common.{arith}
use Rattle.std.specs.Prelude.{slice_index}
use Rattle.jc_instrument_code.proofs.PartLaws.{var_part}
use Rattle.jc_instrument_code.proofs.parts.put_var_part.Goals as goal

pub returns : goal.returns
returns c =
    var_part (slice_index c.args.starts.now) c.args.name _ c.args.vars.now c.args.into.now.items c.put_header.new.into.items
    c.put_vars.new.into.items c.in_ok-put_header.ensures c.in_ok-put_vars.ensures (omega arith)
