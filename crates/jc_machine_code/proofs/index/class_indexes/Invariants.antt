use Rattle.jc_machine_code.specs.Sites.{IsClassIndex}
use Rattle.jc_machine_code.proofs.CorrespondLaws.{BuiltTo}
use Rattle.jc_machine_code.proofs.index.class_indexes.Given as goal

abbrev pub invariant-indexing : goal.invariant-indexing
invariant-indexing l = BuiltTo IsClassIndex l.classes l.linked-index l.indexes
