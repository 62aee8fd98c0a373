use Rattle.jc_refs_check.proofs.SuitedWalkLaws.{leaves_made}
use Rattle.jc_refs_check.proofs.walk.leave.Goals as goal

pub returns-clause-left : goal.returns-clause-left
returns-clause-left c =
    leaves_made c.args.classes.now.names c.advance.new.names _ _ c.args.at c.args.state c.in_ok-left.left c.learn.ensures.names
    c.in_ok-left.ensures.after c.in_ok-left.ensures.next c.in_ok-left.ensures.whole c.requires.state.well_made
