use Rattle.std.proofs.Common.{sym}
use Rattle.jc_instrument.proofs.ReadyClassLaws.{are_fine, code_refused, ready_from, refused_from}
use Rattle.jc_instrument.proofs.ready_class.ready_class.Goals as goal

pub returns-in-Some-clause-refused : goal.returns-in-Some-clause-refused
returns-in-Some-clause-refused c =
    code_refused c.look_at_methods.new.names c.args.class.now c.in_ok-looked.looked c.in_ok-looked.ensures.looked c.in-Some.refusal (sym c.in-Some.ensures)

pub with_layouts-requires-clause-bodies : goal.with_layouts-requires-clause-bodies
with_layouts-requires-clause-bodies c =
    let fine = are_fine c.look_at_methods.new.names c.args.class.now c.in_ok-looked.looked c.in_ok-looked.ensures.looked (sym c.in_default.ensures) in
    (fine.bodies, fine.are, fine.room)

pub returns-clause-ready : goal.returns-clause-ready
returns-clause-ready c =
    let names = c.look_at_methods.new.names in
    let class = c.args.class.now in
    let looked = c.in_ok-looked.looked in
    let fine = are_fine names class looked c.in_ok-looked.ensures.looked (sym c.in_default.ensures) in
    let laid = c.with_layouts.ensures in
    ready_from names c.with_layouts.new.names laid.grows class c.requires.changes looked fine c.with_layouts.result (laid.ready fine.bodies fine.are fine.room)
    laid.probes laid.loads laid.no_cause

pub returns-clause-refused : goal.returns-clause-refused
returns-clause-refused c =
    let names = c.look_at_methods.new.names in
    let class = c.args.class.now in
    let looked = c.in_ok-looked.looked in
    let fine = are_fine names class looked c.in_ok-looked.ensures.looked (sym c.in_default.ensures) in
    refused_from names c.with_layouts.new.names c.with_layouts.ensures.grows class c.requires.changes looked fine c.with_layouts.result c.with_layouts.ensures.refused
