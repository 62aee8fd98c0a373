use Rattle.jc_methods.proofs.MetNamesLaws.{grows_both}
use Rattle.jc_instrument.proofs.KnownLaws.{body_known, fault_known, none_known, probes_few}
use Rattle.jc_instrument.proofs.OneBodyLaws.{grown_body}
use Rattle.jc_instrument.proofs.known.know_one_more.Goals as goal

pub hand_on-requires-clause-probes : goal.hand_on-requires-clause-probes
hand_on-requires-clause-probes c = λ fine.
    probes_few c.args.names.now c.args.class.now c.args.number c.requires.before.0 c.args.known.now c.requires.text c.requires.before.1 fine

pub returns-in_ok-hand_on-in-Ok-Some-clause-knows : goal.returns-in_ok-hand_on-in-Ok-Some-clause-knows
returns-in_ok-hand_on-in-Ok-Some-clause-knows c = λ handed before.
    let class = c.args.class.now in
    let old = c.args.names.now in
    let read = c.read_body.new.names in
    let now = c.hand_on.new.names in
    let b = c.in-Ok-Some.body in
    let body = rw c.in-Ok-Some.field-0-is at c.in-Ok-Some.ensures.body in
    let made = rw c.in-Ok-Some.field-0-is at c.in-Ok-Some.ensures.well_made in
    let hands = c.in_ok-hand_on-in-Ok-Some.ensures in
    body_known old now class c.args.number (grows_both old read now c.in-Ok-Some.ensures.names hands.grows) handed c.args.known.now before b
    (grown_body read now class c.args.number b hands.grows body) made c.hand_on.new.known c.in_ok-hand_on-in-Ok-Some.field-0 hands.hands

pub returns-in-Ok-None-clause-knows : goal.returns-in-Ok-None-clause-knows
returns-in-Ok-None-clause-knows c = λ handed before.
    let none = rw c.in-Ok-None.field-0-is at c.in-Ok-None.ensures.body in
    none_known c.args.names.now c.read_body.new.names c.args.class.now c.args.number c.in-Ok-None.ensures.names handed c.args.known.now before none

pub returns-in_ok-known-in-Err-clause-knows : goal.returns-in_ok-known-in-Err-clause-knows
returns-in_ok-known-in-Err-clause-knows c = λ handed before.
    fault_known c.args.names.now c.read_body.new.names c.args.class.now c.args.number handed c.args.known.now c.in_ok-known-in-Err.field-0 c.in-Err.fail
    c.in-Err.ensures.refused c.in_ok-known-in-Err.ensures.kept before
