use Rattle.std.proofs.Common.{map, sym, ◌∙◌}
use Rattle.jc_methods.specs.VerificationTypes.{verification_type}
use Rattle.jc_kinds_after.proofs.MovesLaws.{no_items}
use Rattle.jc_kinds_after.proofs.moves.operands_for.Goals as goal

pub returns-else-has_item : goal.returns-else-has_item
returns-else-has_item c = λ names.
    no_items names c.args.gives.now (map (verification_type names) c.new.result.items) (map (verification_type names) c.args.operands.now)
    (sym c.has_item.ensures ∙ c.if-has_item.false)
