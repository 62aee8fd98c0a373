use Rattle.examples_callers.proofs.workers.ends_and_hits.Goals as goal

pub returns-clause-hits : goal.returns-clause-hits
returns-clause-hits g c = λ class id.
    let hits = c.in_ok-ends.ensures.hits class id in (
      λ there. hits.0 (c.close.ensures.whole c.in_ok-ends.ensures.part.1 class id there),
      λ hit. c.close.ensures.hits class id (hits.1 hit),
    )
