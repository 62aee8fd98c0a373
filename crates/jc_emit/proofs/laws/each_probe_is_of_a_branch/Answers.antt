use Rattle.jc_emit.proofs.EdgeIdLaws.{each_of_branch, each_within}
use Rattle.jc_emit.proofs.laws.each_probe_is_of_a_branch.Goals as goal

pub returns : goal.returns
returns c = record { branch = each_of_branch; within = each_within }
