use Rattle.std.proofs.Common.{◌∙◌}
use Rattle.jc_exec.proofs.RecordBitsLaws.{hits_swap}
use Rattle.jc_exec.proofs.merge.merged.Goals as goal

pub returns : goal.returns
returns c =
    let agrees = c.in_ok-check_agree.ensures.agree in
    (agrees, c.join.ensures ∙ hits_swap c.args.there.now c.args.hits agrees c.requires.same_id)
