use Rattle.std.proofs.Common.{◌<◌, length}
use Rattle.jc_insn.proofs.InsnWritingLaws.{local_of, table_places, lookup_places}
use Rattle.jc_insn.proofs.encoding.put_insn.Goals as goal

pub put_local-requires : goal.put_local-requires
put_local-requires c = local_of c.args.insn.now c.in-Local.op c.in-Local.slot c.in-Local.is c.requires.well_formed

pub put_table-requires-clause-places : goal.put_table-requires-clause-places
put_table-requires-clause-places c = table_places (λ to. to < length c.args.starts.now) c.args.insn.now c.in-Table.low c.in-Table.default c.in-Table.arms
    c.deref.result.now c.in-Table.is c.deref.ensures c.requires.places

pub put_lookup-requires-clause-places : goal.put_lookup-requires-clause-places
put_lookup-requires-clause-places c = lookup_places (λ to. to < length c.args.starts.now) c.args.insn.now c.in-Lookup.default c.in-Lookup.arms
    c.deref-in-Lookup.result.now c.in-Lookup.is c.deref-in-Lookup.ensures c.requires.places
