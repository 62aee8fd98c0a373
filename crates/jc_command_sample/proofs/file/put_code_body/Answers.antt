use Rattle.jc_command_sample.proofs.FileLaws.{code_body_is}
use Rattle.jc_command_sample.proofs.file.put_code_body.Goals as goal

pub returns : goal.returns
returns c =
    code_body_is c.args.number c.args.into.now.items c.put_short.new.into.items c.put_short-2.new.into.items c.put_word.new.into.items
    c.put_code.new.into.items c.put_short-3.new.into.items c.put_short-4.new.into.items c.put_frames.new.into.items
    c.in_ok-put_short.ensures c.in_ok-put_short-2.ensures c.in_ok-put_word.ensures c.in_ok-put_code.ensures c.in_ok-put_short-3.ensures
    c.in_ok-put_short-4.ensures c.in_ok-put_frames.ensures
