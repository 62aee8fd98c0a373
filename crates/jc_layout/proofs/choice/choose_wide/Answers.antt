use Rattle.std.proofs.Common.{◌∙◌, ◌<◌, ◌≤◌, List, Bool, length, ap, rules, subst, sym}
use Rattle.std.specs.List.{AllByRecursion}
use Rattle.jc_methods.specs.Widened.{listed}
use Rattle.jc_layout.specs.Layout.{starts_of}
use Rattle.jc_layout.specs.Shift.{IsJumpOf}
use Rattle.jc_layout.specs.Widening.{widened_each}
use Rattle.jc_layout.specs.declared.jumps.Jump.{Jump}
use Rattle.jc_layout.proofs.KeptLaws.{round_ended, round_jumps, round_next, round_smaller, starts_ended}
use Rattle.jc_layout.proofs.choice.choose_wide.Goals as goal

pub widen_far-requires-clause-far : goal.widen_far-requires-clause-far
widen_far-requires-clause-far c =
    subst (AllByRecursion (IsJumpOf c.widening.widening.code.now)) (sym c.deref.ensures.value)
    (round_jumps c.args.code.now c.widening.widening c.widening.far.items c.widening.invariant)

pub widening-smaller : goal.widening-smaller
widening-smaller c =
    let w = c.widening.widening in
    let is = c.in_ok-widen_far.ensures.wide ∙ ap (λ (l : List Jump). widened_each l w.wide.items) c.deref.ensures.value in
    let some : 0 < length c.widening.far.items = search rules in
    round_smaller c.args.code.now w c.widening.far.items c.widening.invariant c.widen_far.new.self.wide.items is some

pub widening-preserved : goal.widening-preserved
widening-preserved c =
    let w = c.widening.widening in
    let told = c.in_ok-widen_far.ensures in
    let is = told.wide ∙ ap (λ (l : List Jump). widened_each l w.wide.items) c.deref.ensures.value in
    round_next c.args.code.now w c.widening.far.items c.widening.invariant c.widen_far.new.self c.in_ok-far-2.far.items told.code is told.kept
    c.in_ok-far-2.ensures

pub returns-clause-wide : goal.returns-clause-wide
returns-clause-wide c =
    let none : length c.widening.far.items ≤ 0 = search rules in
    round_ended c.args.code.now c.widening.widening c.widening.far.items c.widening.invariant none

pub returns-clause-starts : goal.returns-clause-starts
returns-clause-starts c =
    let none : length c.widening.far.items ≤ 0 = search rules in
    let code = c.args.code.now in
    let wide = c.widening.widening.wide.items in
    starts_ended code wide c.in_ok-starts.starts.items
    (round_ended code c.widening.widening c.widening.far.items c.widening.invariant none)
    (c.in_ok-starts.ensures ∙ ap (λ (l : List Bool). starts_of (listed l) code) c.deref-2.ensures.value)
