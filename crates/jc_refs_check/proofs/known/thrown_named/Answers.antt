use Rattle.std.proofs.Common.{sym, ◌∙◌}
use Rattle.jc_refs_check.proofs.ThrownLaws.{abstract_named, makes_named, none_named}
use Rattle.jc_refs_check.proofs.known.thrown_named.Goals as goal

pub returns-then-is_abstract : goal.returns-then-is_abstract
returns-then-is_abstract c = abstract_named c.args.name.now (sym c.is_abstract.ensures ∙ c.if-is_abstract.true)

pub returns-in-Makes : goal.returns-in-Makes
returns-in-Makes c = makes_named c.args.name.now c.in-Makes.thrown c.in-Makes.ensures

pub returns-in_default : goal.returns-in_default
returns-in_default c = none_named c.args.name.now c.make_operation.result c.make_operation.ensures c.in_default.not-Makes (sym c.is_abstract.ensures ∙ c.if-is_abstract.false)
