use Rattle.std.proofs.Common.{arith}
use Rattle.jc_command_sample.specs.SampleFile.{method_text}
use Rattle.jc_command_sample.proofs.PieceLaws.{piece_more, all_pieces}
use Rattle.jc_command_sample.proofs.file.put_methods.Goals as goal

pub writing-preserved : goal.writing-preserved
writing-preserved c = piece_more method_text c.writing.number c.args.into.now.items c.writing.into.items c.put_method.new.into.items c.writing.invariant c.in_ok-put_method.ensures

pub returns : goal.returns
returns c = all_pieces method_text c.writing.number c.args.methods c.args.into.now.items c.writing.into.items (omega arith) c.writing.invariant
