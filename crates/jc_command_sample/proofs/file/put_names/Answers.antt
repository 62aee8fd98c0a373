use Rattle.std.proofs.Common.{arith}
use Rattle.jc_command_sample.specs.SampleFile.{utf8_entry, method_name}
use Rattle.jc_command_sample.proofs.PieceLaws.{piece_more, all_pieces}
use Rattle.jc_command_sample.proofs.file.put_names.Goals as goal

pub naming-preserved : goal.naming-preserved
naming-preserved c =
    piece_more (λ k. utf8_entry (method_name k)) c.naming.number c.args.into.now.items c.naming.into.items c.put_name.new.into.items c.naming.invariant c.in_ok-put_name.ensures

pub returns : goal.returns
returns c = all_pieces (λ k. utf8_entry (method_name k)) c.naming.number c.args.methods c.args.into.now.items c.naming.into.items (omega arith) c.naming.invariant
