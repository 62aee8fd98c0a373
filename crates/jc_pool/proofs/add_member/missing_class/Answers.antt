use Rattle.jc_pool.proofs.MemberLaws.{class_there, name_there, class_new}
use Rattle.jc_pool.proofs.add_member.missing_class.Goals as goal

pub returns-in-Some-default-clause-classed : goal.returns-in-Some-default-clause-classed
returns-in-Some-default-clause-classed c =
    class_there c.args.slots.now c.args.index.now c.args.class.now c.text_place-named.result c.naming_place.result c.in-Some-default.field-0-0
    c.requires c.text_place-named.ensures c.naming_place.ensures
    c.in-Some-default.is-0

pub returns-in-None-Some-clause-classed : goal.returns-in-None-Some-clause-classed
returns-in-None-Some-clause-classed c =
    name_there c.args.slots.now c.args.index.now c.args.class.now c.text_place-named.result c.naming_place.result c.in-None-Some.field-0-1 c.requires c.text_place-named.ensures c.naming_place.ensures
    c.in-None-Some.is-0 c.in-None-Some.is-1

pub returns-in-None-None-clause-classed : goal.returns-in-None-None-clause-classed
returns-in-None-None-clause-classed c =
    class_new c.args.slots.now c.args.index.now c.args.class.now c.text_place-named.result c.naming_place.result c.requires c.text_place-named.ensures c.naming_place.ensures
    c.in-None-None.is-0 c.in-None-None.is-1
