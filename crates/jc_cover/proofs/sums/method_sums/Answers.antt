use Rattle.std.proofs.Common.{◌<◌, ◌≤◌, nat_lt, length, sym, ap, ap₂, ◌∙◌, subst, arith}
use Rattle.jc_cover.specs.declared.sums.Sums.{Sums}
use Rattle.jc_cover.specs.Sums.{plus, AreSmall, insn_sums, insns_sums, own_sums}
use Rattle.jc_cover.proofs.SumsLaws.{insn_small, small_method, all_insns_put, covered_told}
use Rattle.jc_cover.proofs.sums.method_sums.Goals as goal

pub plus-sums-requires : goal.plus-sums-requires
plus-sums-requires c =
    let insns = c.args.insns.now in
    let k = c.counting.values-index in
    let lt : k < length insns = omega arith in
    subst (λ (s : Sums). AreSmall (plus c.counting.sums s)) (sym (c.insn_sums.ensures ∙ ap insn_sums c.deref.ensures))
    (insn_small insns k c.values-item.result c.counting.sums c.requires lt c.values-item.is c.counting.invariant)

pub plus-requires : goal.plus-requires
plus-requires c =
    let insns = c.args.insns.now in
    let le : length insns ≤ c.counting.values-index = omega arith in
    let all = all_insns_put insns c.counting.values-index c.counting.sums le c.counting.invariant in
    subst (λ (s : Sums). AreSmall (plus c.own_sums.result s)) (sym all)
    (subst (λ (o : Sums). AreSmall (plus o (insns_sums insns))) (sym c.own_sums.ensures) (small_method insns (nat_lt 0 c.counting.sums.instruction.covered) c.requires))

pub returns : goal.returns
returns c =
    let insns = c.args.insns.now in
    let le : length insns ≤ c.counting.values-index = omega arith in
    let all = all_insns_put insns c.counting.values-index c.counting.sums le c.counting.invariant in
    let test = ap (λ (s : Sums). nat_lt 0 s.instruction.covered) all ∙ covered_told insns in
    c.plus.ensures ∙ ap₂ plus (c.own_sums.ensures ∙ ap own_sums test) all
