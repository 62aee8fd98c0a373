use Rattle.std.proofs.Common.{ℕ, ◌-◌, List, length, ◌∙◌, ap₂, arith}
use Rattle.jc_cover.specs.declared.coverage.Count.{Count}
use Rattle.jc_cover.proofs.TallyLaws.{few_of, tally_told, within_of}
use Rattle.jc_cover.proofs.tally.Tally.counters.Goals as goal

pub overflow_sub-result : goal.overflow_sub-result
overflow_sub-result c =
    let is = c.requires.2 in
    within_of c.requires.0 c.requires.1 is.part c.as_slice-lines.result.now c.as_slice-covered.result.now (c.as_slice-lines.ensures.keys ∙ is.lines)
    (c.as_slice-covered.ensures.keys ∙ is.covered)

pub overflow_cast-result : goal.overflow_cast-result
overflow_cast-result c =
    let is = c.requires.2 in
    let few = few_of c.requires.0 c.requires.1 is.part c.as_slice-lines.result.now (c.as_slice-lines.ensures.keys ∙ is.lines) in
    omega (arith, few)

pub overflow_cast-result-2 : goal.overflow_cast-result-2
overflow_cast-result-2 c =
    let is = c.requires.2 in
    let few = few_of c.requires.0 c.requires.1 is.part c.as_slice-lines.result.now (c.as_slice-lines.ensures.keys ∙ is.lines) in
    let within = within_of c.requires.0 c.requires.1 is.part c.as_slice-lines.result.now c.as_slice-covered.result.now (c.as_slice-lines.ensures.keys ∙ is.lines)
    (c.as_slice-covered.ensures.keys ∙ is.covered) in
    omega (arith, few, within)

pub returns : goal.returns
returns c = λ bodies hits is.
    tally_told bodies hits is.part c.args.self.now is _
    (ap₂ (λ (lines covered : List ℕ). let n : Count = record { missed = length lines - length covered; covered = length covered } in n) c.as_slice-lines.ensures.keys
    c.as_slice-covered.ensures.keys)
