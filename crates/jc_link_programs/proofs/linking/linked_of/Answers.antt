use Rattle.std.proofs.lemmas.Bool.{false≢true}
use Rattle.jc_link_programs.proofs.LinkingLaws.{fits_is, linked_is, no_link_cause}
use Rattle.jc_link_programs.proofs.linking.linked_of.Goals as goal

pub returns-clause-linked : goal.returns-clause-linked
returns-clause-linked c =
    let found = c.in_ok-bodies.ensures in
    let e = c.in_ok-class_with.ensures in
    linked_is c.named_bodies.new.names c.args.class.now c.in_ok-bodies.bodies c.in_ok-class_with.field-0 found.bodies found.states e.name e.version e.bodies
    e.statics e.clinit e.probes

pub returns-clause-fits : goal.returns-clause-fits
returns-clause-fits c =
    let found = c.in_ok-bodies.ensures in
    let e = c.in_ok-class_with.ensures in
    fits_is c.named_bodies.new.names c.args.class.now c.in_ok-bodies.bodies c.in_ok-class_with.field-0 c.requires.class found.bodies found.well_made e.bodies
    e.firsts e.few

pub returns-clause-no_cause : goal.returns-clause-no_cause
returns-clause-no_cause c =
    no_link_cause c.named_bodies.new.names c.args.class.now c.in_ok-bodies.bodies
    (λ outside. false≢true (c.if-is_wrong_version.ensures.1 outside)) c.in_ok-bodies.ensures.bodies
