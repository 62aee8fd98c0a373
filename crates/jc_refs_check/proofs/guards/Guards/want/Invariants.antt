use Rattle.jc_refs_check.proofs.GuardLaws.{NoneWanted}
use Rattle.jc_refs_check.proofs.guards.Guards.want.Given as goal

-- no row so far wants one
abbrev pub invariant-looking : goal.invariant-looking
invariant-looking l = NoneWanted l.self.classes.now.names l.self.body.now.frames l.slot l.self.rows.now l.guard-index
