use Rattle.std.proofs.Common.{◌≡◌, Option, None, Some, IfOk, IfErr, subst}
use Rattle.jc_exec.specs.declared.hits.ClassHits.{ClassHits}
use Rattle.jc_command_classes.specs.Report.{clash_with}
use Rattle.jc_command_classes.specs.ReportSteps.{StopsAtClash}
use Rattle.jc_command_classes.proofs.exec_data.record_of.Goals as goal

pub returns-in_ok-class_hits-in-Some-clause-found : goal.returns-in_ok-class_hits-in-Some-clause-found
returns-in_ok-class_hits-in-Some-clause-found c =
    rw c.in-Some.is (subst (λ (o : Option ClassHits). IfOk c.fitting.result (λ r. r ≡ o)) c.in_ok-class_hits-in-Some.ensures.found c.fitting.ensures.same)

pub returns-in_ok-class_hits-in-Some-clause-fit : goal.returns-in_ok-class_hits-in-Some-clause-fit
returns-in_ok-class_hits-in-Some-clause-fit c =
    rw c.in-Some.is (subst (λ (o : Option ClassHits). IfOk c.fitting.result (λ _. clash_with c.args.class.now o ≡ None)) c.in_ok-class_hits-in-Some.ensures.found c.fitting.ensures.fit)

pub returns-in_ok-class_hits-in-Some-clause-clash : goal.returns-in_ok-class_hits-in-Some-clause-clash
returns-in_ok-class_hits-in-Some-clause-clash c =
    rw c.in-Some.is (subst (λ (o : Option ClassHits). IfErr c.fitting.result (StopsAtClash (Some c.in-Some.exec_data.now.path.now) (λ refusal. clash_with c.args.class.now o ≡ Some refusal)))
    c.in_ok-class_hits-in-Some.ensures.found c.fitting.ensures.clash)
