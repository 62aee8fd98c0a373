use Rattle.std.proofs.Common.{◌+◌, sym, subst}
use Rattle.jc_machine_code.specs.Sites.{IsClassIndex}
use Rattle.jc_machine_code.proofs.CorrespondLaws.{BuiltTo, built_more}
use Rattle.jc_machine_code.proofs.index.class_indexes.Goals as goal

pub indexing-preserved : goal.indexing-preserved
indexing-preserved c =
    subst (BuiltTo IsClassIndex c.args.classes.now (c.indexing.linked-index + 1)) (sym c.in_ok-push.ensures.ok)
    (built_more IsClassIndex c.args.classes.now c.indexing.linked-index c.indexing.indexes c.linked-item.result c.in_ok-class_index.field-0
    c.indexing-test.true c.linked-item.is (c.in_ok-class_index.ensures c.indexing.linked-index) c.indexing.invariant)
