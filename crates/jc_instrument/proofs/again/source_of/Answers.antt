use Rattle.std.proofs.Common.{Bool, Some, None, sym, ◌∙◌, ap, if◌then◌else◌}
use Rattle.jc_class.specs.declared.class_file.ClassFile.{ClassFile}
use Rattle.jc_instrument.proofs.PlannedLaws.{none_said}
use Rattle.jc_instrument.proofs.again.source_of.Goals as goal

pub unreachable-requires : goal.unreachable-requires
unreachable-requires c =
    let w = c.in-Err-Said in
    none_said w.field-0-0 (sym w.field-0-is ∙ w.ensures.taken c.requires.text.0 c.requires.text.1)

pub returns-in-Ok : goal.returns-in-Ok
returns-in-Ok c = λ d text.
    ap (λ (f : ClassFile). Some f) (c.in-Ok.ensures.taken d text)
    ∙ sym (ap (λ (t : Bool). if t then Some d else None) (sym c.some_unread.ensures ∙ c.if-not-some_unread.false))
