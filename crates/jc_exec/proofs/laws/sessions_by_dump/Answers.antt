use Rattle.jc_exec.proofs.SessionLaws as sessions
use Rattle.jc_exec.proofs.laws.sessions_by_dump.Goals as goal

pub returns : goal.returns
returns c = record { order = sessions.sessions_by_dump; only = sessions.only_by_dump }
