-- The twin of a body that passes the kind check passes it too.
use Rattle.jc_emit.proofs.TwinCheckedLaws.{verified}
use Rattle.jc_emit.proofs.checks.each_twin_is_verified.Goals as goal

pub returns : goal.returns
returns c names new_names fetch class bootstrap first b b' can has =
    verified names new_names has.states fetch class bootstrap first b b' can.well_made can.checked has.are can.none_straddles has.twin
