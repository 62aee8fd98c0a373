use Rattle.std.proofs.Common.{◌≡◌, ◌+◌, ◌-◌, length, sym, ap, ◌∙◌, subst, arith}
use Rattle.jc_cover.specs.Counters.{counted_methods}
use Rattle.jc_rules.specs.LineList.{IsLineList}
use Rattle.jc_rules.specs.Spans.{AreWithin, IsSpan}
use Rattle.jc_rules.proofs.ListingLaws.{none_listed, listed, blank_sized, blank_again, all_within, all_written}
use Rattle.jc_rules.proofs.listing.line_list.Goals as goal

pub returns-in_default : goal.returns-in_default
returns-in_default c =
    none_listed (counted_methods c.args.class.now.bodies c.args.coverage.now) c.deref.result.now c.new.result.items (c.deref.ensures.value ∙ c.in_ok-placed.ensures) c.in_default.ensures
    c.new.ensures.items

pub blank_lines-requires : goal.blank_lines-requires
blank_lines-requires c = let s = c.in-Some.ensures in s.not_below c.in-Some.lines.greatest s.greatest

pub put_lines-requires-clause-within : goal.put_lines-requires-clause-within
put_lines-requires-clause-within c =
    let lines = c.in-Some.lines in
    let size = blank_sized lines.least (lines.greatest + 1 - lines.least) c.in_ok-list.list.items c.deref_mut.result.now c.in_ok-list.ensures c.deref_mut.ensures.value in
    let same = c.deref.ensures.value ∙ sym c.deref-2.ensures.value in
    subst (λ l. AreWithin l lines.least (length c.deref_mut.result.now)) same (all_within c.deref.result.now lines (length c.deref_mut.result.now) size c.in-Some.ensures)

pub put_lines-requires-clause-blank : goal.put_lines-requires-clause-blank
put_lines-requires-clause-blank c =
    let lines = c.in-Some.lines in
    blank_again lines.least (lines.greatest + 1 - lines.least) c.in_ok-list.list.items c.deref_mut.result.now c.in_ok-list.ensures c.deref_mut.ensures.value

pub returns : goal.returns
returns c =
    let lines = c.in-Some.lines in
    let methods = counted_methods c.args.class.now.bodies c.args.coverage.now in
    let new = c.put_lines.new.list in
    let was = blank_sized lines.least (lines.greatest + 1 - lines.least) c.in_ok-list.list.items c.deref_mut.result.now c.in_ok-list.ensures c.deref_mut.ensures.value in
    let size : length new ≡ lines.greatest + 1 - lines.least = c.put_lines.auto.list ∙ was in
    let same = c.deref.ensures.value ∙ sym c.deref-2.ensures.value in
    let spans = subst (λ l. IsSpan l lines) same c.in-Some.ensures in
    let is = c.deref-2.ensures.value ∙ c.in_ok-placed.ensures in
    let ok = c.in_ok-list.list.ok.0 in
    let whole : c.in_ok-list.list.len ≡ length c.in_ok-list.list.items = omega (arith, ok) in
    let list = listed methods c.deref-2.result.now new lines is spans size c.put_lines.ensures in
    subst (IsLineList methods) (sym (all_written new c.in_ok-list.list.items c.in_ok-list.list.len (c.put_lines.auto.list ∙ ap length c.deref_mut.ensures.value) whole)) list
