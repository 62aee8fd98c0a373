use Rattle.jc_machine_code.proofs.FieldLaws.{no_values, gets_field, puts_field}
use Rattle.jc_machine_code.proofs.fields.field_operation.Goals as goal

pub returns-in-None : goal.returns-in-None
returns-in-None c = no_values c.args.op _ c.args.desc.now c.requires.0 c.requires.1 (c.in-None.ensures c.requires.0 c.requires.1)

pub returns-then-op-eq-GETSTATIC : goal.returns-then-op-eq-GETSTATIC
returns-then-op-eq-GETSTATIC c =
    let s = c.in-Some.ensures c.requires.0 c.requires.1 in
    (c.requires.0, gets_field c.args.op _ c.args.desc.now c.requires.0 c.requires.1 _ s.0 c.if-op-eq-GETSTATIC.true)

pub returns-then-op-eq-PUTSTATIC : goal.returns-then-op-eq-PUTSTATIC
returns-then-op-eq-PUTSTATIC c =
    let s = c.in-Some.ensures c.requires.0 c.requires.1 in
    (c.requires.0, puts_field c.args.op _ c.args.desc.now c.requires.0 c.requires.1 _ s.0 c.if-op-eq-PUTSTATIC.true, s.0, s.1)
