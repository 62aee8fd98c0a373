use Rattle.std.proofs.Common.{ℕ, ◌+◌, ◌-◌, arith, rules, tests, nat_eq, take, drop, length, refl, sym, ◌∙◌}
use Rattle.std.proofs.lemmas.Iterator.Search.{position_from_yields_List}
use Rattle.std.proofs.lemmas.Iterator.{YieldsList-from_slice}
use Rattle.std.proofs.lemmas.Grind.{common_steps}
use Rattle.std.proofs.lemmas.List.{take_all}
use Rattle.jc_command_words.proofs.PathLaws.{parts_on, parts_stop, parts_end}
use Rattle.jc_command_words.proofs.paths.are_components.Goals as goal

pub parts-preserved : goal.parts-preserved
parts-preserved c =
    let found = position_from_yields_List (λ (b : ℕ). nat_eq b 47) _ _ _ c.position.ensures.ran (YieldsList-from_slice c.parts.rest.now c.iter.ensures.rest) (λ x b q k. search (rules, tests)) in
    parts_on _ c.parts.rest.now (take c.in-Some.end c.parts.rest.now)
    (take (length c.parts.rest.now - (c.in-Some.end + 1)) (drop (c.in-Some.end + 1) c.parts.rest.now)) c.in-Some.end c.parts.invariant (sym c.in-Some.is ∙ found) refl
    (take_all (length c.parts.rest.now - (c.in-Some.end + 1)) (drop (c.in-Some.end + 1) c.parts.rest.now) (grind (arith, common_steps))) (sym c.is_component.ensures ∙ c.if-not-is_component.false)

pub returns-then-not-is_component : goal.returns-then-not-is_component
returns-then-not-is_component c =
    let found = position_from_yields_List (λ (b : ℕ). nat_eq b 47) _ _ _ c.position.ensures.ran (YieldsList-from_slice c.parts.rest.now c.iter.ensures.rest) (λ x b q k. search (rules, tests)) in
    parts_stop _ c.parts.rest.now (take c.in-Some.end c.parts.rest.now) c.in-Some.end c.parts.invariant (sym c.in-Some.is ∙ found) refl (sym c.is_component.ensures ∙ c.if-not-is_component.true)

pub returns : goal.returns
returns c =
    let found = position_from_yields_List (λ (b : ℕ). nat_eq b 47) _ _ _ c.position.ensures.ran (YieldsList-from_slice c.parts.rest.now c.iter.ensures.rest) (λ x b q k. search (rules, tests)) in
    c.is_component-2.ensures ∙ parts_end _ c.parts.rest.now c.parts.invariant (sym c.in_default.is ∙ found)
