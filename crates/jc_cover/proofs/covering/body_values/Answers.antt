use Rattle.std.proofs.Common.{◌≡◌, ◌<◌, ℕ, List, Option, Some, length, sym, ap, ◌∙◌, subst, arith}
use Rattle.std.specs.Prelude.{slice_get}
use Rattle.jc_methods.proofs.PlacedInsnLaws.{few_insns}
use Rattle.jc_cover.specs.Marking.{sources, marks_of}
use Rattle.jc_cover.proofs.PlannedLaws.{branches_size, body_sources, sources_size, sources_within, body_marks, body_told, body_inside}
use Rattle.jc_cover.proofs.covering.body_values.Goals as goal

pub sources-requires-clause-few : goal.sources-requires-clause-few
sources-requires-clause-few g c =
    let made = c.requires.0 in
    let few = made.few in
    omega (arith, ap length (c.deref.ensures.value ∙ c.in_ok-branches.ensures), branches_size c.args.body.now g.first, few_insns c.args.body.now.code, few)

pub sources-requires-clause-inside : goal.sources-requires-clause-inside
sources-requires-clause-inside g c = body_inside c.args.body.now g.first c.requires.0 c.deref.result.now (c.deref.ensures.value ∙ c.in_ok-branches.ensures)

pub marks-requires-clause-few : goal.marks-requires-clause-few
marks-requires-clause-few g c =
    let made = c.requires.0 in
    let few = made.few in
    omega (arith, ap length (c.deref-2.ensures.value ∙ c.in_ok-branches.ensures), branches_size c.args.body.now g.first, few_insns c.args.body.now.code, few)

pub marks-requires-clause-size : goal.marks-requires-clause-size
marks-requires-clause-size g c =
    let b = c.args.body.now in
    let from : c.deref-3.result.now ≡ sources b =
    c.deref-3.ensures.value ∙ c.in_ok-sources.ensures ∙ body_sources b g.first c.deref.result.now (c.deref.ensures.value ∙ c.in_ok-branches.ensures) in
    ap length from ∙ sources_size b g.first ∙ sym (branches_size b g.first) ∙ sym (ap length (c.deref-2.ensures.value ∙ c.in_ok-branches.ensures))

pub marks-requires-clause-sources : goal.marks-requires-clause-sources
marks-requires-clause-sources g c =
    let b = c.args.body.now in
    let from : c.deref-3.result.now ≡ sources b =
    c.deref-3.ensures.value ∙ c.in_ok-sources.ensures ∙ body_sources b g.first c.deref.result.now (c.deref.ensures.value ∙ c.in_ok-branches.ensures) in
    λ i at h. subst (λ (t : List (Option ℕ)). at < length t) (sym from) (sources_within b g.first i at (subst (λ (t : List (Option ℕ)). slice_get t i ≡ Some (Some at)) from h))

pub returns : goal.returns
returns g c =
    let b = c.args.body.now in
    let hits = c.args.hits.now in
    let from : c.deref-3.result.now ≡ sources b =
    c.deref-3.ensures.value ∙ c.in_ok-sources.ensures ∙ body_sources b g.first c.deref.result.now (c.deref.ensures.value ∙ c.in_ok-branches.ensures) in
    let marked : c.deref-5.result.now ≡ marks_of b g.first hits =
    c.deref-5.ensures.value ∙ c.in_ok-marks.ensures ∙ body_marks b g.first hits c.deref-2.result.now c.deref-3.result.now (c.deref-2.ensures.value ∙ c.in_ok-branches.ensures) from in
    c.in_ok-values.ensures ∙ body_told b g.first hits c.deref-4.result.now c.deref-5.result.now (c.deref-4.ensures.value ∙ c.in_ok-branches.ensures) marked
