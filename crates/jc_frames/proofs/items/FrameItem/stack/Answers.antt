use Rattle.jc_frames.proofs.items.FrameItem.stack.Goals as goal

pub returns-in-OneItem-clause-says : goal.returns-in-OneItem-clause-says
returns-in-OneItem-clause-says c names = rw c.in-OneItem.is (c.types_of.ensures.says names)

pub returns-in-Full-clause-says : goal.returns-in-Full-clause-says
returns-in-Full-clause-says c names = rw c.in-Full.is (let h = c.types_of-in-Full.ensures.says names in rw c.deref.ensures at h)
