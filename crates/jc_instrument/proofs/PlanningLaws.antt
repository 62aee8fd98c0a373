-- The plans of bodies.
use Rattle.std.proofs.Common.{◌≡◌, ℕ, ◌+◌, ◌*◌, ◌<◌, ◌≤◌, List, [], ◌∷◌, length, get_or, sym, ◌∙◌, ap, arith}
use Rattle.std.proofs.lemmas.List.Sums.{count_by-le-length, sum_by-cons, sum_by-take-le, sum_by_more}
use Rattle.jc_bytes.specs.Reader.{most_read}
use Rattle.jc_methods.specs.WellMade.{insns_and_arms}
use Rattle.jc_methods.specs.declared.body.Body.{Body}
use Rattle.jc_plan.specs.Edges.{branches}
use Rattle.jc_plan.specs.Probed.{is_probed, probe_count, first_id}
use Rattle.jc_plan.proofs.FlowLaws.{few_branches}
use Rattle.jc_plan.specs.Analysed.{all_probes, all_insns_and_arms}

abbrev size : Body → ℕ
size b = insns_and_arms b.code

probes_most : (b : Body) → probe_count b ≤ 2 * size b
probes_most b = omega (arith, count_by-le-length (is_probed b) (branches b.code), few_branches b.code)

-- two edges an instruction or arm at most
pub all_probes_most : (bodies : List Body) → all_probes bodies ≤ 2 * all_insns_and_arms bodies
all_probes_most [] = omega arith
all_probes_most (b ∷ bodies) = omega (arith, sum_by-cons probe_count b bodies, sum_by-cons size b bodies, probes_most b, all_probes_most bodies)

pub first_most : (bodies : List Body) (i : ℕ) → all_insns_and_arms bodies ≤ most_read → first_id bodies i ≤ 268435456
first_most bodies i few = omega (arith, sum_by-take-le probe_count bodies i, all_probes_most bodies, few)

-- the first id of the next body
pub first_more : (bodies : List Body) (i : ℕ) (b : Body) → i < length bodies → b ≡ get_or bodies i b → first_id bodies (i + 1) ≡ first_id bodies i + probe_count b
first_more bodies i b less is = sum_by_more probe_count bodies i b less ∙ ap (λ (x : Body). first_id bodies i + probe_count x) (sym is)
