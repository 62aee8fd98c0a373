use Rattle.std.proofs.Common.{ap, ◌∙◌, arith}
use Rattle.jc_cover.specs.declared.coverage.Count.{Count}
use Rattle.jc_cover.specs.declared.sums.Sums.{Sums}
use Rattle.jc_cover.proofs.SumsLaws.{some_branches, plain_insn, branching_insn}
use Rattle.jc_cover.proofs.sums.insn_sums.Goals as goal

pub returns-then-values-lt2 : goal.returns-then-values-lt2
returns-then-values-lt2 c =
    ap (λ (z : Count). let s : Sums = record { instruction = c.one_item-instruction.result; branch = z; complexity = z; method = z } in s) c.no_items-none.ensures
    ∙ plain_insn c.args.values.now c.branch_count-branches.result c.one_item-instruction.result c.branch_count-branches.ensures c.one_item-instruction.ensures c.if-values-lt2.true

pub paths-requires-clause-some : goal.paths-requires-clause-some
paths-requires-clause-some c = omega (arith, some_branches c.args.values.now c.branch_count-branches.result c.branch_count-branches.ensures)

pub paths-requires-clause-few : goal.paths-requires-clause-few
paths-requires-clause-few c = omega (arith, some_branches c.args.values.now c.branch_count-branches.result c.branch_count-branches.ensures)

pub returns : goal.returns
returns c =
    ap (λ (z : Count). let s : Sums =
    record {
      instruction = c.one_item-instruction.result;
      branch = c.branch_count-branches.result;
      complexity =
          c.paths.result;
      method = z;
    } in s) c.no_items-none.ensures
    ∙ branching_insn c.args.values.now c.branch_count-branches.result c.one_item-instruction.result c.paths.result c.branch_count-branches.ensures
    c.one_item-instruction.ensures c.paths.ensures c.if-values-lt2.false
