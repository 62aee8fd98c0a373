use Rattle.std.proofs.Common.{inl, refl}
use Rattle.jc_pool.proofs.KeyPlaceLaws.{naming_found, naming_missing}
use Rattle.jc_pool.proofs.add.add_naming.Goals as goal

pub returns-in-Some-clause-ok : goal.returns-in-Some-clause-ok
returns-in-Some-clause-ok c = inl (
  naming_found c.args.kind c.args.slots.now.items c.args.index.now c.args.text.now c.text_place-named.result c.naming_place.result c.in-Some.place
      c.requires.index c.text_place-named.ensures c.naming_place.ensures c.in-Some.is,
  refl,
)

pub put_naming-requires-clause-new : goal.put_naming-requires-clause-new
put_naming-requires-clause-new c =
    naming_missing c.args.kind c.args.slots.now.items c.args.index.now c.args.text.now c.text_place-named.result c.naming_place.result
    c.requires.index c.text_place-named.ensures c.naming_place.ensures c.in_default.is
