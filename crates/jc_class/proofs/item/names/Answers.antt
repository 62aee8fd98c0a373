use Rattle.jc_pool.specs.Lookup.{utf8_of}
use Rattle.jc_class.specs.ItemReading.{names}
use Rattle.jc_class.proofs.NamingLaws.{field_there, method_there}
use Rattle.jc_class.proofs.item.names.Goals as goal

pub returns-in-FieldDescriptor : goal.returns-in-FieldDescriptor
unfolding names
returns-in-FieldDescriptor c =
    rw c.in-FieldDescriptor.is (field_there (utf8_of c.args.pool.now c.args.place) c.is_field_descriptor_at.result c.is_field_descriptor_at.ensures)

pub returns-in-MethodDescriptor : goal.returns-in-MethodDescriptor
unfolding names
returns-in-MethodDescriptor c =
    rw c.in-MethodDescriptor.is (method_there (utf8_of c.args.pool.now c.args.place) c.is_method_descriptor_at.result c.is_method_descriptor_at.ensures)
