use Rattle.jc_instrument.proofs.ReadingLaws.{none_read, body_read, fault_kept}
use Rattle.jc_instrument.proofs.bodies.read_next.Goals as goal

pub returns-in_ok-push-in-Ok-Some-clause-read : goal.returns-in_ok-push-in-Ok-Some-clause-read
returns-in_ok-push-in-Ok-Some-clause-read c =
    let body = rw c.in-Ok-Some.field-0-is at c.in-Ok-Some.ensures.body in
    let made = rw c.in-Ok-Some.field-0-is at c.in-Ok-Some.ensures.well_made in
    body_read c.args.names.now c.read_body.new.names c.args.class.now c.args.number c.in-Ok-Some.ensures.names c.args.reading.now.bodies c.push.new.self c.args.reading.now.bad c.in-Ok-Some.body
    c.in_ok-push-in-Ok-Some.ensures.ok c.requires.before body made

pub returns-in-Ok-None-clause-read : goal.returns-in-Ok-None-clause-read
returns-in-Ok-None-clause-read c =
    let none = rw c.in-Ok-None.field-0-is at c.in-Ok-None.ensures.body in
    none_read c.args.names.now c.read_body.new.names c.args.class.now c.args.number c.in-Ok-None.ensures.names c.args.reading.now c.requires.before none

pub returns-in_ok-reading-in-Err-clause-read : goal.returns-in_ok-reading-in-Err-clause-read
returns-in_ok-reading-in-Err-clause-read c =
    fault_kept c.args.names.now c.read_body.new.names c.args.class.now c.args.number c.args.reading.now c.in_ok-reading-in-Err.field-0 c.in-Err.fail c.in-Err.ensures.refused
    c.in_ok-reading-in-Err.ensures.kept c.requires.before
