use Rattle.jc_command_sample.proofs.FileLaws.{frames_are}
use Rattle.jc_command_sample.proofs.file.put_frames.Goals as goal

pub returns : goal.returns
returns c =
    frames_are c.args.into.now.items c.put_short.new.into.items c.put_word.new.into.items c.put_short-2.new.into.items c.put_u8.new.into.items
    c.in_ok-put_short.ensures c.in_ok-put_word.ensures c.in_ok-put_short-2.ensures c.in_ok-put_u8.ensures.ok
