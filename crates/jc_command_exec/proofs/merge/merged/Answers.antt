use Rattle.std.proofs.Common.{subst}
use Rattle.jc_command_exec.specs.Gathering.{IsGathered}
use Rattle.jc_command_exec.proofs.GatheredLaws.{merge_refusal}
use Rattle.jc_command_exec.proofs.MergeLaws.{merge_writes}
use Rattle.jc_command_exec.proofs.merge.merged.Goals as goal

pub returns-in_ok-bytes-in-Union : goal.returns-in_ok-bytes-in-Union
returns-in_ok-bytes-in-Union c = λ paths texts is.
    merge_writes c.args.destfile paths texts c.in-Union.store c.in_ok-bytes-in-Union.bytes c.one_write.result (subst (IsGathered paths texts) c.in-Union.is is)
    c.in_ok-bytes-in-Union.ensures c.one_write.ensures.ok c.one_write.ensures.err

pub returns-in-Refused : goal.returns-in-Refused
returns-in-Refused c = λ paths texts is. merge_refusal c.args.destfile.now paths texts c.in-Refused.stop (subst (IsGathered paths texts) c.in-Refused.is is)
