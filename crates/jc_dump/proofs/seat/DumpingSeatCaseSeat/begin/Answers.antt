use Rattle.std.proofs.Common.{◌∙◌}
use Rattle.jc_workers.proofs.CaseLaws.{then_ok}
use Rattle.jc_dump.proofs.seat.DumpingSeatCaseSeat.begin.Goals as goal

pub returns : goal.returns
returns g c = then_ok c.new.result _ _ c.new.ensures (λ known h. h.same_counts ∙ (c.deref.ensures.value ∙ c.requires.1))
