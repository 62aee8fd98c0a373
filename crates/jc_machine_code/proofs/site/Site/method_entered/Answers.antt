use Rattle.std.proofs.Common.{Option, sym, subst}
use Rattle.jc_programs.specs.declared.program.Linked.{Linked}
use Rattle.jc_programs.specs.declared.run_end.Entry.{Entry}
use Rattle.jc_machine_model.specs.Profile.{class_entered, method_entered}
use Rattle.jc_machine_code.specs.Shown.{Shows}
use Rattle.jc_machine_code.proofs.site.Site.method_entered.Goals as goal

pub returns-in-Some-class_at : goal.returns-in-Some-class_at
returns-in-Some-class_at c = λ program at site place.
    let k = c.in-Some-class_at.ensures program site.index in
    subst (λ (o : Option Entry). Shows c.body_entered.result (method_entered at program o)) (sym c.in-Some.is)
    (subst (λ (o : Option Linked). Shows c.body_entered.result (class_entered at c.in-Some.callee o)) (sym k.class_is)
    (c.body_entered.ensures program at c.in-Some.callee.class k.linked site place k.indexed))
