use Rattle.jc_instrument_code.proofs.InitLaws.{frame_parts}
use Rattle.jc_instrument_code.proofs.init.put_frame.Goals as goal

pub returns : goal.returns
returns c =
    frame_parts c.args.places.now.frames c.args.places.now.array c.args.pushed.now c.args.into.now.items c.put_header.new.into.items
    c.put_short.new.into.items c.put_u8.new.into.items c.put_short-2.new.into.items c.put_short-3.new.into.items c.put_short-4.new.into.items
    c.put_with_short.new.into.items c.in_ok-put_header.ensures c.in_ok-put_short.ensures c.in_ok-put_u8.ensures.ok c.in_ok-put_short-2.ensures
    c.in_ok-put_short-3.ensures c.in_ok-put_short-4.ensures c.in_ok-put_with_short.ensures
