use Rattle.jc_command_sample.proofs.FileLaws.{class_head_is}
use Rattle.jc_command_sample.proofs.file.put_class_head.Goals as goal

pub returns : goal.returns
returns c =
    class_head_is c.args.into.now.items c.put_short.new.into.items c.put_short-2.new.into.items c.put_short-3.new.into.items
    c.put_short-4.new.into.items c.put_short-5.new.into.items c.in_ok-put_short.ensures c.in_ok-put_short-2.ensures c.in_ok-put_short-3.ensures
    c.in_ok-put_short-4.ensures c.in_ok-put_short-5.ensures
