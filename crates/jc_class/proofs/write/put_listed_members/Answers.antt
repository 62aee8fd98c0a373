use Rattle.jc_bytes.proofs.AppendingLaws.{all_written}
use Rattle.jc_class.specs.ClassFormat.{member}
use Rattle.jc_class.specs.Writable.{Anything, IsMember}
use Rattle.jc_class.proofs.WritingLaws.{puts_begun, next_fits, puts_more}
use Rattle.jc_class.proofs.write.put_listed_members.Goals as goal

pub writing-init : goal.writing-init
writing-init c = puts_begun (IsMember Anything Anything) (member Anything Anything) c.args.members.now c.args.into.now.items c.requires

pub put_member-requires : goal.put_member-requires
put_member-requires c = next_fits (IsMember Anything Anything) (member Anything Anything) c.args.members.now c.writing.member-index
    c.args.into.now.items c.writing.into.items c.member-item.result c.writing-test.true c.member-item.is c.writing.invariant

pub writing-preserved : goal.writing-preserved
writing-preserved c = puts_more (IsMember Anything Anything) (member Anything Anything) c.args.members.now c.writing.member-index
    c.args.into.now.items c.writing.into.items c.put_member.new.into.items c.member-item.result c.writing-test.true c.member-item.is
    c.in_ok-put_member.ensures c.writing.invariant

pub returns : goal.returns
returns c = all_written (member Anything Anything) c.args.members.now c.args.into.now.items c.writing.member-index c.writing.into.items c.writing-test.false c.writing.invariant.writes
