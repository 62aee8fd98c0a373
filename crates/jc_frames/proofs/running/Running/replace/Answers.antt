use Rattle.jc_frames.proofs.running.Running.replace.Goals as goal

pub returns-in_default-clause-values : goal.returns-in_default-clause-values
returns-in_default-clause-values c names = let said = c.in_ok-values.ensures.says names in rw c.in_default.is at said

pub returns-clause-values : goal.returns-clause-values
returns-clause-values c names = let said = c.in_ok-values.ensures.says names in rw c.in-Some.is at said
