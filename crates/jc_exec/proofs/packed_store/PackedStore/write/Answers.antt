use Rattle.jc_exec.proofs.StoreLaws.{all_fit}
use Rattle.jc_exec.proofs.packed_store.PackedStore.write.Goals as goal

pub packed_data-requires-clause-classes : goal.packed_data-requires-clause-classes
packed_data-requires-clause-classes c = λ k d lt. (all_fit c.self.inside.records c.self.invariant.1 k d lt).0
