use Rattle.std.proofs.Common.{◌-◌, ap, sym, ◌∙◌, arith}
use Rattle.jc_methods.specs.declared.kind.Kind.TheVariants as kinds
use Rattle.jc_methods.specs.VerificationTypes.{verification_type}
use Rattle.jc_kinds_after.specs.Step.{cleared}
use Rattle.jc_kinds_after.proofs.LocalsLaws.{cleared_there, read_is}
use Rattle.jc_kinds_after.proofs.locals.clear_before.Goals as goal

pub returns-clause-locals : goal.returns-clause-locals
returns-clause-locals c = λ names.
    cleared_there names c.args.locals.now.items c.args.slot (c.args.slot - 1) c.cleared-before.result (omega arith)
    (c.cleared-before.ensures names
    ∙ ap (λ k. cleared (verification_type names k))
    (sym (read_is c.args.locals.now.items (c.args.slot - 1) c.index.result.now kinds.Top (omega arith) c.index.ensures)))
