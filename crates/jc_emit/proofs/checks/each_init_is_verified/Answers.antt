-- The method that is added to a class passes the kind check.
use Rattle.jc_emit.proofs.InitLaws.{verified}
use Rattle.jc_emit.proofs.checks.each_init_is_verified.Goals as goal

pub returns : goal.returns
returns c = verified
