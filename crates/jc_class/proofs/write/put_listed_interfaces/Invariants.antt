use Rattle.std.proofs.Common.{drop}
use Rattle.jc_bytes.proofs.AppendingLaws.{Writing}
use Rattle.jc_bytes.specs.ItemForms.{number_where}
use Rattle.jc_class.specs.Writable.{Anything}
use Rattle.jc_class.proofs.write.put_listed_interfaces.Given as goal

abbrev pub invariant-writing : goal.invariant-writing
invariant-writing l = Writing (number_where Anything) l.interfaces l.fn.into.items (drop l.interface-index l.interfaces) l.into.items
