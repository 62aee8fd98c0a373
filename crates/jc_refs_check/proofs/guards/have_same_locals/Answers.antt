use Rattle.std.proofs.Common.{rules}
use Rattle.jc_refs_check.proofs.FurtherLaws.{same_kinds}
use Rattle.jc_refs_check.proofs.guards.have_same_locals.Goals as goal

pub returns : goal.returns
returns c = same_kinds c.args.one.now.locals c.args.other.now.locals c.eq.result c.eq.ensures (λ x y. search rules)
