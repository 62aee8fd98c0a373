use Rattle.jc_kinds_after.proofs.UsesLaws.{return_some, return_none}
use Rattle.jc_kinds_after.proofs.uses.return_opcode.Goals as goal

pub returns-in-Some : goal.returns-in-Some
returns-in-Some c = return_some c.args.desc.now c.in_ok-types.types.returns c.in-Some.value c.return_of.result c.requires
    c.in_ok-types.ensures.returns c.in-Some.is c.return_of.ensures

pub returns : goal.returns
returns c = return_none c.args.desc.now c.in_ok-types.types.returns c.requires c.in_ok-types.ensures.returns c.in-None.is
