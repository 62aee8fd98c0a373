use Rattle.std.proofs.Common.{rules, append_assoc}
use Rattle.jc_exec.proofs.write.put_session.Goals as goal

pub returns : goal.returns
returns c = search (rules, append_assoc)
