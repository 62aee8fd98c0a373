use Rattle.std.proofs.Common.{sym, ◌∙◌}
use Rattle.jc_refs_check.proofs.KnownLaws.{known_thrown, known_not}
use Rattle.jc_refs_check.proofs.known.known_of.Goals as goal

pub returns-in-Some : goal.returns-in-Some
returns-in-Some c = known_thrown c.args.name.now c.in-Some.thrown (sym c.thrown_named.ensures ∙ c.in-Some.is)

pub returns-in-None : goal.returns-in-None
returns-in-None c = c.known_other.ensures ∙ known_not c.args.name.now (sym c.thrown_named.ensures ∙ c.in-None.is)
