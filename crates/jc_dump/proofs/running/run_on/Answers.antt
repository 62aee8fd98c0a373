use Rattle.std.proofs.Common.{arith}
use Rattle.jc_workers.proofs.CaseLaws.{then_ok}
use Rattle.jc_dump.proofs.running.run_on.Goals as goal

pub returns-clause-ran : goal.returns-clause-ran
returns-clause-ran g c = then_ok c.run_beside.result _ _ c.run_beside.ensures.ran (λ r h. (h.0, h.1, h.2, λ one. absurd (omega (arith, one))))
