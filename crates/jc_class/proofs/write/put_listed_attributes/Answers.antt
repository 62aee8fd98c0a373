use Rattle.jc_bytes.proofs.AppendingLaws.{all_written}
use Rattle.jc_class.specs.ClassFormat.{attribute}
use Rattle.jc_class.specs.Writable.{Anything, IsAttribute}
use Rattle.jc_class.proofs.WritingLaws.{puts_begun, next_fits, puts_more}
use Rattle.jc_class.proofs.write.put_listed_attributes.Goals as goal

pub writing-init : goal.writing-init
writing-init c = puts_begun (IsAttribute Anything) (attribute Anything) c.args.attributes.now c.args.into.now.items c.requires

pub put_attribute-requires : goal.put_attribute-requires
put_attribute-requires c = next_fits (IsAttribute Anything) (attribute Anything) c.args.attributes.now c.writing.attribute-index
    c.args.into.now.items c.writing.into.items c.attribute-item.result c.writing-test.true c.attribute-item.is c.writing.invariant

pub writing-preserved : goal.writing-preserved
writing-preserved c = puts_more (IsAttribute Anything) (attribute Anything) c.args.attributes.now c.writing.attribute-index c.args.into.now.items
    c.writing.into.items c.put_attribute.new.into.items c.attribute-item.result c.writing-test.true c.attribute-item.is c.in_ok-put_attribute.ensures c.writing.invariant

pub returns : goal.returns
returns c = all_written (attribute Anything) c.args.attributes.now c.args.into.now.items c.writing.attribute-index c.writing.into.items c.writing-test.false c.writing.invariant.writes
