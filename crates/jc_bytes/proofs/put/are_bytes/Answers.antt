use Rattle.std.proofs.Common.{arith}
use Rattle.jc_bytes.proofs.OneTextLaws.{are_bytes}
use Rattle.jc_bytes.proofs.put.are_bytes.Goals as goal

pub returns : goal.returns
returns c = are_bytes c.args.bytes.now (λ i. omega (arith, c.type_inv.bytes i))
