use Rattle.std.proofs.Common.{◌≡◌, Option, IfOk, subst}
use Rattle.jc_exec.specs.declared.hits.ClassHits.{ClassHits}
use Rattle.jc_command_classes.proofs.ReportStepLaws.{looked_up}
use Rattle.jc_command_classes.proofs.exec_data.record_in.Goals as goal

pub returns-clause-found : goal.returns-clause-found
returns-clause-found c =
    subst (λ (o : Option ClassHits). IfOk c.get.result (λ r. r ≡ o)) (looked_up c.args.exec_data.now.store.classes c.args.class.now.id) c.get.ensures.found
