use Rattle.std.proofs.Common.{sym, ap, ◌∙◌}
use Rattle.jc_machine_model.specs.Locked.{locked_class, locked_method}
use Rattle.jc_machine_code.proofs.site.Site.locked_method.Goals as goal

pub returns-in-Some-class_at : goal.returns-in-Some-class_at
returns-in-Some-class_at c = λ program at site.
    let k = c.in-Some-class_at.ensures program site.index in
    c.locked_body.ensures c.in-Some.callee.class k.linked k.indexed
    ∙ (ap (locked_class c.in-Some.callee) (sym k.class_is) ∙ ap (locked_method program) (sym c.in-Some.is))
