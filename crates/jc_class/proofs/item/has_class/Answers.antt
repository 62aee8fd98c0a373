use Rattle.jc_pool.specs.Lookup.{class_name_of}
use Rattle.jc_class.specs.ItemReading.{has_class}
use Rattle.jc_class.proofs.NamingLaws.{modified_there}
use Rattle.jc_class.proofs.item.has_class.Goals as goal

pub returns : goal.returns
unfolding has_class
returns c = modified_there (class_name_of c.args.pool.now c.args.place) c.is_class_name_modified.result c.is_class_name_modified.ensures
