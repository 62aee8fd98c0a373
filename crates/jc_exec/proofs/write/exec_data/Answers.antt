use Rattle.std.proofs.Common.{◌<◌, ◌∙◌, ap, length, map}
use Rattle.jc_exec.proofs.SessionLaws.{all_in_order}
use Rattle.jc_exec.proofs.write.exec_data.Goals as goal

pub put_sessions-requires : goal.put_sessions-requires
put_sessions-requires c = all_in_order (λ s. length s.id < 65536) c.args.sessions.now c.deref.result.now (ap (map (λ s. s.now)) c.deref.ensures.value ∙ c.in_ok-order.ensures) c.requires.sessions
