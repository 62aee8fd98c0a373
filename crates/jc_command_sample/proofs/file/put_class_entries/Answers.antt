use Rattle.jc_command_sample.proofs.FileLaws.{class_entries_are}
use Rattle.jc_command_sample.proofs.file.put_class_entries.Goals as goal

pub returns : goal.returns
returns c =
    class_entries_are c.args.into.now.items c.put_utf8.new.into.items c.put_class.new.into.items c.put_utf8-2.new.into.items c.put_class-2.new.into.items
    c.put_utf8-3.new.into.items c.put_utf8-4.new.into.items c.put_utf8-5.new.into.items c.in_ok-put_utf8.ensures c.in_ok-put_class.ensures
    c.in_ok-put_utf8-2.ensures c.in_ok-put_class-2.ensures c.in_ok-put_utf8-3.ensures c.in_ok-put_utf8-4.ensures c.in_ok-put_utf8-5.ensures
