use Rattle.std.proofs.Common.{sym, ◌∙◌}
use Rattle.std.proofs.lemmas.Bool.{true≢false}
use Rattle.jc_methods.proofs.MetNamesLaws.{grows_both}
use Rattle.jc_instrument.proofs.LookedLaws.{body_looked, body_passed_by, fault_looked, none_looked, probes_so_far}
use Rattle.jc_instrument.proofs.OneBodyLaws.{grown_body}
use Rattle.jc_instrument.proofs.SmallBodiesLaws.{few_rows}
use Rattle.jc_instrument.proofs.looking.look_at.Goals as goal

pub returns-in_ok-look_at_body-in-Ok-Some-clause-looked : goal.returns-in_ok-look_at_body-in-Ok-Some-clause-looked
returns-in_ok-look_at_body-in-Ok-Some-clause-looked c =
    let class = c.args.class.now in
    let old = c.args.names.now in
    let read = c.read_body.new.names in
    let now = c.look_at_body.new.names in
    let b = c.in-Ok-Some.body in
    let body = rw c.in-Ok-Some.field-0-is at c.in-Ok-Some.ensures.body in
    let made = rw c.in-Ok-Some.field-0-is at c.in-Ok-Some.ensures.well_made in
    let looked = c.in_ok-look_at_body-in-Ok-Some.ensures in
    let wanted = c.is_wanted.ensures.0 c.if-is_wanted.true in
    body_looked old now class c.args.number (grows_both old read now c.in-Ok-Some.ensures.names looked.grows) b
    (grown_body read now class c.args.number b looked.grows body) made c.args.so_far.now c.look_at_body.new.so_far wanted.0 looked.bad c.requires.before
    looked.looks

pub returns-else-is_wanted-clause-looked : goal.returns-else-is_wanted-clause-looked
returns-else-is_wanted-clause-looked c =
    let body = rw c.in-Ok-Some.field-0-is at c.in-Ok-Some.ensures.body in
    let made = rw c.in-Ok-Some.field-0-is at c.in-Ok-Some.ensures.well_made in
    body_passed_by c.args.names.now c.read_body.new.names c.args.class.now c.args.number c.in-Ok-Some.ensures.names c.in-Ok-Some.body body made
    c.args.so_far.now (λ both. true≢false (sym (c.is_wanted.ensures.1 both) ∙ c.if-is_wanted.false)) c.requires.before

pub returns-in-Ok-None-clause-looked : goal.returns-in-Ok-None-clause-looked
returns-in-Ok-None-clause-looked c =
    let none = rw c.in-Ok-None.field-0-is at c.in-Ok-None.ensures.body in
    none_looked c.args.names.now c.read_body.new.names c.args.class.now c.args.number c.in-Ok-None.ensures.names c.args.so_far.now c.requires.before none

pub returns-in_ok-so_far-in-Err-clause-looked : goal.returns-in_ok-so_far-in-Err-clause-looked
returns-in_ok-so_far-in-Err-clause-looked c =
    fault_looked c.args.names.now c.read_body.new.names c.args.class.now c.args.number c.args.so_far.now c.in_ok-so_far-in-Err.field-0 c.in-Err.fail
    c.in-Err.ensures.refused c.in_ok-so_far-in-Err.ensures.kept c.requires.before

pub look_at_body-requires-clause-probes : goal.look_at_body-requires-clause-probes
look_at_body-requires-clause-probes c =
    probes_so_far c.args.names.now c.args.class.now c.args.number c.args.so_far.now c.requires.text c.requires.before (c.is_wanted.ensures.0 c.if-is_wanted.true).0

pub look_at_body-requires-clause-rows : goal.look_at_body-requires-clause-rows
look_at_body-requires-clause-rows c =
    let body = rw c.in-Ok-Some.field-0-is at c.in-Ok-Some.ensures.body in
    few_rows c.read_body.new.names c.args.class.now c.args.number c.in-Ok-Some.body c.requires.text body
