use Rattle.std.proofs.Common.{◌∙◌}
use Rattle.jc_command_sample.proofs.FileLaws.{sample_file_is}
use Rattle.jc_command_sample.proofs.file.sample_file.Goals as goal

pub returns : goal.returns
returns c =
    c.from_vec.ensures
    ∙ sample_file_is c.args.methods c.new-bytes.result.items c.put_file_head.new.into.items c.put_class_head.new.into.items
    c.put_class_methods.new.into.items c.new-bytes.ensures.items c.in_ok-put_file_head.ensures c.in_ok-put_class_head.ensures c.in_ok-put_class_methods.ensures
