use Rattle.jc_frames.proofs.running.Running.change.Goals as goal

pub returns-in-Chop-clause-values : goal.returns-in-Chop-clause-values
returns-in-Chop-clause-values c names = let pool = c.args.method.now.pool in
    rw (c.in-Chop.is, ← c.from.ensures) (c.chop.ensures.values pool names)

pub returns-in-Append-clause-values : goal.returns-in-Append-clause-values
returns-in-Append-clause-values c names = rw c.in-Append.is (let h = c.append.ensures.values names in rw c.deref.ensures at h)

pub returns-in-Full-clause-values : goal.returns-in-Full-clause-values
returns-in-Full-clause-values c names = rw c.in-Full.is (let h = c.replace.ensures.values names in rw c.deref-in-Full.ensures at h)
