use Rattle.jc_kinds_after.proofs.DoesLaws.{value_says}
use Rattle.jc_kinds_after.proofs.effect.value_effect.Goals as goal

pub returns-clause-value : goal.returns-clause-value
returns-clause-value c = λ more d. value_says c.args.desc.now c.field_type-value.result c.want_for.result c.in_ok-kind.field-0 c.kind.new.names more d
    c.field_type-value.ensures c.want_for.ensures c.in_ok-kind.ensures.kind c.in_ok-kind.ensures.numbered
