use Rattle.jc_command_sample.proofs.FileLaws.{code_is}
use Rattle.jc_command_sample.proofs.file.put_code.Goals as goal

pub returns : goal.returns
returns c =
    code_is c.args.number c.args.into.now.items c.put_u8.new.into.items c.put_with_short.new.into.items c.put_u8-2.new.into.items
    c.put_with_short-2.new.into.items c.put_u8-3.new.into.items c.put_u8-4.new.into.items c.put_with_short-3.new.into.items
    c.put_u8-5.new.into.items c.in_ok-put_u8.ensures.ok c.in_ok-put_with_short.ensures c.in_ok-put_u8-2.ensures.ok
    c.in_ok-put_with_short-2.ensures c.in_ok-put_u8-3.ensures.ok c.in_ok-put_u8-4.ensures.ok c.in_ok-put_with_short-3.ensures
    c.in_ok-put_u8-5.ensures.ok
