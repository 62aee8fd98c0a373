use Rattle.std.proofs.Common.{◌≡◌, List, Bool, false, length, replicate, rules, ap, ◌∙◌}
use Rattle.jc_methods.specs.Widened.{listed}
use Rattle.jc_layout.specs.Layout.{has_far, starts_of}
use Rattle.jc_layout.proofs.ReachedLaws.{reached_none, starts_chosen, starts_size, wide_chosen}
use Rattle.jc_layout.proofs.choice.choose.Goals as goal

pub has_far-requires-clause-starts : goal.has_far-requires-clause-starts
has_far-requires-clause-starts c =
    let code = c.args.code.now in
    let wide = c.in_ok-wide.wide.items in
    let starts = c.in_ok-starts.starts.items in
    let is : c.in_ok-wide.wide.items ≡ replicate (length c.args.code.now) false = search rules in
    let are = c.in_ok-starts.ensures ∙ ap (λ (l : List Bool). starts_of (listed l) code) c.deref.ensures.value in
    ap length c.deref-2.ensures.value ∙ starts_size code wide starts (reached_none code wide starts is are)

pub returns-clause-wide : goal.returns-clause-wide
returns-clause-wide c =
    let code = c.args.code.now in
    let wide = c.in_ok-wide.wide.items in
    let starts = c.in_ok-starts.starts.items in
    let is : c.in_ok-wide.wide.items ≡ replicate (length c.args.code.now) false = search rules in
    let are = c.in_ok-starts.ensures ∙ ap (λ (l : List Bool). starts_of (listed l) code) c.deref.ensures.value in
    let none : has_far c.in_ok-starts.starts.items 0 c.args.code.now c.in_ok-wide.wide.items ≡ false =
    cc (c.deref-2.ensures.value, c.deref-3.ensures.value, c.if-has_far.ensures) in
    wide_chosen code wide starts (reached_none code wide starts is are) none

pub returns-clause-starts : goal.returns-clause-starts
returns-clause-starts c =
    let code = c.args.code.now in
    let wide = c.in_ok-wide.wide.items in
    let starts = c.in_ok-starts.starts.items in
    let is : c.in_ok-wide.wide.items ≡ replicate (length c.args.code.now) false = search rules in
    let are = c.in_ok-starts.ensures ∙ ap (λ (l : List Bool). starts_of (listed l) code) c.deref.ensures.value in
    let none : has_far c.in_ok-starts.starts.items 0 c.args.code.now c.in_ok-wide.wide.items ≡ false =
    cc (c.deref-2.ensures.value, c.deref-3.ensures.value, c.if-has_far.ensures) in
    starts_chosen code wide starts (reached_none code wide starts is are) none
