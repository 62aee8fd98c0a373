use Rattle.std.proofs.Common.{Option, subst}
use Rattle.jc_class.specs.declared.class_file.ClassFile.{ClassFile}
use Rattle.jc_instrument.specs.Ready.{IsReadyFrom}
use Rattle.jc_instrument.specs.declared.ready.PlannedBody.TheVariants.{Unread}
use Rattle.jc_instrument.proofs.again.ready_body.Goals as goal

pub unreachable-requires : goal.unreachable-requires
unreachable-requires c =
    let names = c.args.names.now in
    let constants = c.args.constants.now in
    let from = subst (IsReadyFrom names constants c.args.source.now) c.in-Unread.is c.requires in
    subst (λ (o : Option ClassFile). IsReadyFrom names constants o (Unread c.in-Unread.unread)) c.in-None.is from

pub read_again-requires : goal.read_again-requires
read_again-requires c =
    let names = c.args.names.now in
    let constants = c.args.constants.now in
    let from = subst (IsReadyFrom names constants c.args.source.now) c.in-Unread.is c.requires in
    subst (λ (o : Option ClassFile). IsReadyFrom names constants o (Unread c.in-Unread.unread)) c.in-Some.is from
