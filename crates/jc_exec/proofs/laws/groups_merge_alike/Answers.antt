use Rattle.jc_exec.proofs.GroupingLaws.{merges_in_groups, one_list_of_results, one_union_of_all}
use Rattle.jc_exec.proofs.laws.groups_merge_alike.Goals as goal

pub returns : goal.returns
returns c = record { taken = merges_in_groups; one_list = one_list_of_results; one_union = one_union_of_all }
