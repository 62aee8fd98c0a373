use Rattle.jc_class.specs.ClassFormat.{attribute}
use Rattle.jc_class.specs.Writable.{Anything, IsAttribute}
use Rattle.jc_class.proofs.WritingLaws.{Puts}
use Rattle.jc_class.proofs.write.put_listed_attributes.Given as goal

abbrev pub invariant-writing : goal.invariant-writing
invariant-writing l = Puts (IsAttribute Anything) (attribute Anything) l.attributes l.attribute-index l.fn.into.items l.into.items
