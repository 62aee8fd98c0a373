use Rattle.std.proofs.Common.{[]}
use Rattle.jc_instrument.proofs.described.described.Goals as goal

pub returns-clause-described : goal.returns-clause-described
returns-clause-described c =
    let d = c.in_ok-outline.ensures.described [] in
    record { id = d.id; name = d.name; version = d.version; flags = d.flags; super_name = d.super_name; interfaces = d.interfaces }
