use Rattle.std.proofs.Common.{◌++◌, ℕ, ◌∙◌, ap}
use Rattle.jc_command_sample.specs.SampleFile.{name_entries}
use Rattle.jc_command_sample.proofs.FileLaws.{file_head_is}
use Rattle.jc_command_sample.proofs.file.put_file_head.Goals as goal

pub returns : goal.returns
returns c =
    file_head_is c.args.methods c.args.into.now.items c.put_word.new.into.items c.put_short.new.into.items c.put_short-2.new.into.items
    c.put_short-3.new.into.items c.put_class_entries.new.into.items c.put_names.new.into.items c.in_ok-put_word.ensures c.in_ok-put_short.ensures
    c.in_ok-put_short-2.ensures c.in_ok-put_short-3.ensures c.in_ok-put_class_entries.ensures
    (c.in_ok-put_names.ensures ∙ ap (λ (n : ℕ). c.put_class_entries.new.into.items ++ name_entries n) c.from.ensures)
