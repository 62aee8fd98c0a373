use Rattle.std.proofs.Common.{sym, ◌∙◌}
use Rattle.jc_methods.specs.VerificationTypes.{verification_type}
use Rattle.jc_kinds_after.proofs.LocalsLaws.{second_there}
use Rattle.jc_kinds_after.proofs.locals.put_second.Goals as goal

pub returns : goal.returns
returns c = λ names. second_there names c.args.locals.now.items c.args.slot (verification_type names c.args.kind) (sym (c.is_pair.ensures names)
    ∙ c.if-not-is_pair.false)
