use Rattle.std.proofs.Common.{ℕ, List, ◌++◌, ◌∙◌, ap}
use Rattle.jc_bytes.specs.FirstSeen.{seen_behind}
use Rattle.jc_cover.specs.Lines.{covered_methods_lines, methods_lines}
use Rattle.jc_cover.specs.Sums.{one_counted}
use Rattle.jc_cover.proofs.TallyLaws.{insns_few, lines_in, made_last, plan_here, sums_small, tallied}
use Rattle.jc_cover.proofs.tally.Tally.add.Goals as goal

pub body_values-requires : goal.body_values-requires
body_values-requires c = (
  (made_last c.requires.0 c.args.body.now c.args.hits.now c.args.plan.now c.requires.2).of_any_size.code,
  plan_here c.requires.0 c.args.body.now c.args.hits.now c.args.plan.now c.requires.2,
)

pub count_method-requires-clause-few : goal.count_method-requires-clause-few
count_method-requires-clause-few c =
    insns_few c.requires.0 c.args.body.now c.args.hits.now c.args.plan.now c.requires.2 c.args.self.now c.requires.1 c.deref.result.now
    (c.deref.ensures ∙ c.in_ok-insns.ensures)

pub count_method-requires-clause-small : goal.count_method-requires-clause-small
count_method-requires-clause-small c =
    sums_small c.requires.0 c.args.body.now c.args.hits.now c.args.plan.now c.requires.2 c.args.self.now c.requires.1 c.deref.result.now
    (c.deref.ensures ∙ c.in_ok-insns.ensures)

pub count_method-requires-clause-lines : goal.count_method-requires-clause-lines
count_method-requires-clause-lines c =
    lines_in c.requires.0 c.args.body.now c.args.hits.now c.args.plan.now c.requires.2 c.args.self.now c.requires.1 c.deref.result.now
    (c.deref.ensures ∙ c.in_ok-insns.ensures)

pub returns : goal.returns
returns c = λ bodies is next.
    let b = c.args.body.now in
    let insns = c.deref.result.now in
    let lines = c.count_method.new.lines in
    let counted = c.in_ok-count_method.ensures in
    tallied bodies b c.args.hits.now c.args.plan.now next c.args.self.now is insns (c.deref.ensures ∙ c.in_ok-insns.ensures) _ lines.all.items lines.covered.items
    counted.sums
    (counted.all ∙ ap (λ (l : List ℕ). l ++ methods_lines (one_counted b insns)) c.new.ensures.items)
    (counted.covered ∙ ap (λ (l : List ℕ). l ++ covered_methods_lines (one_counted b insns)) c.new-2.ensures.items)
    (c.in_ok-put_numbers.ensures ∙ ap (seen_behind c.args.self.now.lines.keys) c.deref-2.ensures.value)
    (c.in_ok-put_numbers-2.ensures ∙ ap (seen_behind c.args.self.now.covered.keys) c.deref-3.ensures.value)
