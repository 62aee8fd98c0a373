use Rattle.jc_exec.proofs.MergingLaws.{merging_makes_union, union_is_merged}
use Rattle.jc_exec.proofs.laws.union_block_by_block.Goals as goal

pub returns : goal.returns
returns c = λ blocks s. (merging_makes_union blocks s, union_is_merged blocks s)
