use Rattle.jc_instrument_code.specs.InitText.{named_places}
use Rattle.jc_instrument_code.proofs.BootstrapLaws.{bootstrap_parts}
use Rattle.jc_instrument_code.proofs.init.put_bootstrap_code.Goals as goal

pub returns : goal.returns
returns c =
    bootstrap_parts (named_places c.args.places.now) c.args.pushed.now c.args.into.now.items c.put_with_short.new.into.items
    c.put_with_short-2.new.into.items c.put_bytes.new.into.items c.put_with_short-3.new.into.items c.put_u8.new.into.items
    c.in_ok-put_with_short.ensures c.in_ok-put_with_short-2.ensures c.in_ok-put_bytes.ensures.ok c.in_ok-put_with_short-3.ensures
    c.in_ok-put_u8.ensures.ok
