use Rattle.jc_command_run.proofs.cases.run_plan.Goals as goal

pub returns-clause-hits : goal.returns-clause-hits
returns-clause-hits g c class id =
    let ran = c.in_ok-ends.ensures in
    (λ hit. (ran.hits class id).0 (c.close.ensures.whole ran.part.1 class id hit), λ is. c.close.ensures.hits class id ((ran.hits class id).1 is))
