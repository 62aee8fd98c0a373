use Rattle.std.proofs.Common.{subst, sym, string_bytes}
use Rattle.jc_pool.specs.Text.{SpellsUnits}
use Rattle.jc_pool.proofs.TextLaws.{units_some, no_text, text_found, only_text}
use Rattle.jc_pool.proofs.text.text_of.Goals as goal

pub returns-in_ok-from_utf16-in-Some-clause-text : goal.returns-in_ok-from_utf16-in-Some-clause-text
returns-in_ok-from_utf16-in-Some-clause-text c =
    let spelled = units_some (λ units. units.items) c.in_ok-units.field-0 c.in-Some.units c.args.modified.now c.in-Some.is c.in_ok-units.ensures in
    let here : SpellsUnits c.args.modified.now c.deref.result.now = subst (SpellsUnits c.args.modified.now) (sym c.deref.ensures.value) spelled in
    text_found (λ text. string_bytes text) c.args.modified.now c.deref.result.now here c.in_ok-from_utf16-in-Some.field-0 c.ok.result
    c.ok.ensures.value (c.in_ok-from_utf16-in-Some.ensures.chars, c.in_ok-from_utf16-in-Some.ensures.unpaired)

pub returns-in_ok-from_utf16-in-Some-clause-only : goal.returns-in_ok-from_utf16-in-Some-clause-only
returns-in_ok-from_utf16-in-Some-clause-only c =
    let spelled = units_some (λ units. units.items) c.in_ok-units.field-0 c.in-Some.units c.args.modified.now c.in-Some.is c.in_ok-units.ensures in
    let here : SpellsUnits c.args.modified.now c.deref.result.now = subst (SpellsUnits c.args.modified.now) (sym c.deref.ensures.value) spelled in
    only_text (λ text. string_bytes text) c.args.modified.now c.deref.result.now here c.in_ok-from_utf16-in-Some.field-0 c.ok.result
    c.ok.ensures.value (c.in_ok-from_utf16-in-Some.ensures.chars, c.in_ok-from_utf16-in-Some.ensures.unpaired)

pub returns-in-None-clause-text : goal.returns-in-None-clause-text
returns-in-None-clause-text c = no_text (λ units. units.items) c.in_ok-units.field-0 c.args.modified.now c.in-None.is c.in_ok-units.ensures

pub returns-in-None-clause-only : goal.returns-in-None-clause-only
returns-in-None-clause-only c = no_text (λ units. units.items) c.in_ok-units.field-0 c.args.modified.now c.in-None.is c.in_ok-units.ensures
