use Rattle.std.proofs.Common.{subst}
use Rattle.jc_refs_check.specs.KindNeeds.{IsMadeOperation}
use Rattle.jc_refs_check.proofs.operands.need_of.Goals as goal

pub returns-in-Reads-clause-numbered : goal.returns-in-Reads-clause-numbered
returns-in-Reads-clause-numbered c = λ count. c.needed.ensures.numbered count tt

pub returns-in-Reads-clause-built : goal.returns-in-Reads-clause-built
returns-in-Reads-clause-built c = λ m. c.needed.ensures.built tt

pub returns-in-Writes-clause-numbered : goal.returns-in-Writes-clause-numbered
returns-in-Writes-clause-numbered c = λ count. c.needed-in-Writes.ensures.numbered count tt

pub returns-in-Writes-clause-built : goal.returns-in-Writes-clause-built
returns-in-Writes-clause-built c = λ m. c.needed-in-Writes.ensures.built tt

pub returns-in-Measures-clause-numbered : goal.returns-in-Measures-clause-numbered
returns-in-Measures-clause-numbered c = λ count. c.needed-in-Measures.ensures.numbered count tt

pub returns-in-Measures-clause-built : goal.returns-in-Measures-clause-built
returns-in-Measures-clause-built c = λ m. c.needed-in-Measures.ensures.built tt

pub returns-in-ThrowsTop-clause-numbered : goal.returns-in-ThrowsTop-clause-numbered
returns-in-ThrowsTop-clause-numbered c = λ count. c.needed-in-ThrowsTop.ensures.numbered count tt

pub returns-in-ThrowsTop-clause-built : goal.returns-in-ThrowsTop-clause-built
returns-in-ThrowsTop-clause-built c = λ m. c.needed-in-ThrowsTop.ensures.built tt

pub returns-in-Prints-clause-numbered : goal.returns-in-Prints-clause-numbered
returns-in-Prints-clause-numbered c = λ count. c.needed-in-Prints.ensures.numbered count tt

pub returns-in-Prints-clause-built : goal.returns-in-Prints-clause-built
returns-in-Prints-clause-built c = λ m. c.needed-in-Prints.ensures.built tt

pub returns-in-Fetches-clause-numbered : goal.returns-in-Fetches-clause-numbered
returns-in-Fetches-clause-numbered c = λ count. c.needed-in-Fetches.ensures.numbered count tt

pub returns-in-Fetches-clause-built : goal.returns-in-Fetches-clause-built
returns-in-Fetches-clause-built c = λ m. c.needed-in-Fetches.ensures.built tt

pub returns-in-Builds-clause-numbered : goal.returns-in-Builds-clause-numbered
returns-in-Builds-clause-numbered c = λ count. c.needed-in-Builds.ensures.numbered count tt

pub returns-in-Builds-clause-built : goal.returns-in-Builds-clause-built
returns-in-Builds-clause-built c = λ m. c.needed-in-Builds.ensures.built (subst IsMadeOperation c.in-Builds.is m)
