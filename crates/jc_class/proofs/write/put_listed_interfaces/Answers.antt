use Rattle.std.proofs.Common.{get_or}
use Rattle.jc_bytes.proofs.AppendingLaws.{writing_begun, drop_at, writes_next, all_written}
use Rattle.jc_bytes.specs.ItemForms.{number_where}
use Rattle.jc_class.specs.Writable.{Anything}
use Rattle.jc_class.proofs.WritingLaws.{interface_put}
use Rattle.jc_class.proofs.write.put_listed_interfaces.Goals as goal

pub writing-init : goal.writing-init
writing-init c = writing_begun (number_where Anything) c.args.interfaces.now c.args.into.now.items

pub writing-preserved : goal.writing-preserved
writing-preserved c =
    let all = c.args.interfaces.now in
    let at = c.writing.interface-index in
    let x = get_or all at 0 in
    writes_next (number_where Anything) all c.args.into.now.items at x c.writing.into.items c.put_u16.new.into.items (drop_at all at 0 c.writing-test.true)
    (interface_put x c.writing.into.items c.put_u16.new.into.items c.in_ok-put_u16.ensures.ok) c.writing.invariant

pub returns : goal.returns
returns c = all_written (number_where Anything) c.args.interfaces.now c.args.into.now.items c.writing.interface-index c.writing.into.items c.writing-test.false c.writing.invariant
