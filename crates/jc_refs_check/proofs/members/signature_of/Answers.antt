use Rattle.std.proofs.Common.{◌∙◌, List, ℕ, map, ap, sym, subst}
use Rattle.jc_bytes.specs.Descriptor.{DescribesMethod}
use Rattle.jc_methods.specs.ValueTypes.{held_by}
use Rattle.jc_refs_check.proofs.MemberTypeLaws.{signature_says}
use Rattle.jc_refs_check.proofs.members.signature_of.Goals as goal

pub returns-clause-signature : goal.returns-clause-signature
returns-clause-signature c =
    signature_says c.kinds_of.new.names c.kind_of_result.new.names c.args.body.now c.in_ok-types.types.parameters c.in_ok-types.types.returns c.in_ok-parameters.parameters c.in_ok-returns.returns
    c.requires
    (λ type d. c.in_ok-types.ensures.parameters type (subst (λ (desc : List ℕ). DescribesMethod desc type) (sym c.deref.ensures) d))
    (λ type d. c.in_ok-types.ensures.returns type (subst (λ (desc : List ℕ). DescribesMethod desc type) (sym c.deref.ensures) d))
    (c.in_ok-parameters.ensures.says ∙ ap (map held_by) c.deref-2.ensures) c.in_ok-parameters.ensures.numbered c.kind_of_result.ensures.names
    c.in_ok-returns.ensures.says c.in_ok-returns.ensures.numbered
