use Rattle.std.proofs.Common.{length, sym, ◌∙◌, ap}
use Rattle.jc_exec.proofs.BitsLaws.{length_unpack}
use Rattle.jc_exec.proofs.bits.Bits.len.Goals as goal

pub returns : goal.returns
returns c = sym (length_unpack c.self.inside.count c.self.inside.bytes.items) ∙ ap length c.self.view_is
