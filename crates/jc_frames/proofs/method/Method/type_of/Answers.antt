use Rattle.jc_frames.proofs.method.Method.type_of.Goals as goal

pub returns-in-Object-clause-says : goal.returns-in-Object-clause-says
returns-in-Object-clause-says c names = rw c.in-Object.is (c.class_at.ensures.says names)

pub returns-in-Uninit-clause-says : goal.returns-in-Uninit-clause-says
returns-in-Uninit-clause-says c names = rw c.in-Uninit.is (c.new_at.ensures.says names)
