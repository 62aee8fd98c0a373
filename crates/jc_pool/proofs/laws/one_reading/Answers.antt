use Rattle.jc_pool.proofs.PoolLaws.{reads_or_fails, never_both, one_pool, one_failure}
use Rattle.jc_pool.proofs.laws.one_reading.Goals as goal

pub returns-clause-each : goal.returns-clause-each
returns-clause-each c = reads_or_fails

pub returns-clause-apart : goal.returns-clause-apart
returns-clause-apart c = never_both

pub returns-clause-one : goal.returns-clause-one
returns-clause-one c = one_pool

pub returns-clause-once : goal.returns-clause-once
returns-clause-once c = one_failure
