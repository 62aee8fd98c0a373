use Rattle.std.proofs.Common.{◌+◌, sym, subst}
use Rattle.jc_machine_code.proofs.TypeLaws.{IsKindOf, kinds_are}
use Rattle.jc_machine_code.proofs.CorrespondLaws.{BuiltTo, built_next, built_all}
use Rattle.jc_machine_code.proofs.types.parameter_types.Goals as goal

pub preparing-preserved : goal.preparing-preserved
preparing-preserved c =
    subst (BuiltTo IsKindOf c.args.values.now (c.preparing.value-index + 1)) (sym c.in_ok-push.ensures.ok)
    (built_next IsKindOf c.args.values.now c.preparing.value-index c.preparing.kinds _ c.parameter_type.result c.preparing-test.true
    c.parameter_type.ensures c.preparing.invariant)

pub returns : goal.returns
returns c = λ types all.
    kinds_are c.args.values.now types c.preparing.kinds all
    (built_all IsKindOf c.args.values.now c.preparing.value-index c.preparing.kinds c.preparing-test.false c.preparing.auto.value-index-end c.preparing.invariant)
