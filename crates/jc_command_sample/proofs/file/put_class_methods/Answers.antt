use Rattle.jc_command_sample.proofs.FileLaws.{class_methods_are}
use Rattle.jc_command_sample.proofs.file.put_class_methods.Goals as goal

pub returns : goal.returns
returns c =
    class_methods_are c.args.methods c.args.into.now.items c.put_short.new.into.items c.put_methods.new.into.items c.put_short-2.new.into.items
    c.in_ok-put_short.ensures c.in_ok-put_methods.ensures c.in_ok-put_short-2.ensures
