use Rattle.std.proofs.Common.{sym, ◌∙◌}
use Rattle.jc_machine_code.proofs.ThrownLaws.{named_caught, unnamed_caught}
use Rattle.jc_machine_code.proofs.rows.caught_by_name.Goals as goal

pub returns-in-Some : goal.returns-in-Some
returns-in-Some c = named_caught c.args.name.now c.in-Some.class (sym c.thrown_named.ensures ∙ c.in-Some.is)

pub returns-in-None : goal.returns-in-None
returns-in-None c = λ thrown. sym (unnamed_caught c.args.name.now (sym c.thrown_named.ensures ∙ c.in-None.is) thrown)
