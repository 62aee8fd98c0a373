use Rattle.jc_pool.proofs.AddedLinkedLaws.{handle_there, computed_there, handle_kept, computed_kept, computed_ints, one_handle, one_computed, some_handle, some_computed}
use Rattle.jc_pool.proofs.laws.added_linked_entries.Goals as goal

pub returns-clause-handle : goal.returns-clause-handle
returns-clause-handle c = handle_there

pub returns-clause-computed : goal.returns-clause-computed
returns-clause-computed c = computed_there

pub returns-clause-handle_kept : goal.returns-clause-handle_kept
returns-clause-handle_kept c = λ old new more h place at. handle_kept old new h place more at

pub returns-clause-computed_kept : goal.returns-clause-computed_kept
returns-clause-computed_kept c = λ old new more what place at. computed_kept old new what place more at

pub returns-clause-one_handle : goal.returns-clause-one_handle
returns-clause-one_handle c = λ old h new other place at p q. let one = one_handle old new other h place at p q in (one.pool, one.place_is)

pub returns-clause-one_computed : goal.returns-clause-one_computed
returns-clause-one_computed c = λ old what new other place at p q. let one = one_computed old new other what place at p q in (one.pool, one.place_is)

pub returns-clause-some_handle : goal.returns-clause-some_handle
returns-clause-some_handle c = some_handle

pub returns-clause-some_computed : goal.returns-clause-some_computed
returns-clause-some_computed c = some_computed

pub returns-clause-ints : goal.returns-clause-ints
returns-clause-ints c = computed_ints
