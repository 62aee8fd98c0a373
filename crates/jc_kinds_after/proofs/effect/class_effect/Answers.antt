use Rattle.jc_kinds_after.proofs.DoesLaws.{class_says}
use Rattle.jc_kinds_after.proofs.effect.class_effect.Goals as goal

pub returns-clause-class : goal.returns-clause-class
returns-clause-class c = λ more d.
    class_says c.object_of.new.names c.array_of.new.names c.object_of-2.new.names c.in_ok-itself.itself c.in_ok-constant.constant c.in_ok-array.array
    _ _ _ c.array_of.ensures.names c.object_of-2.ensures.names
    c.in_ok-itself.ensures.kind c.in_ok-array.ensures.array c.in_ok-constant.ensures.kind more
