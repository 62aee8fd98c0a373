use Rattle.std.proofs.Common.{ℕ, List, subst}
use Rattle.jc_board.specs.Known.{IsEmpty}
use Rattle.jc_board.proofs.KnownLaws.{remembers_empty}
use Rattle.jc_workers.proofs.CaseLaws.{then_ok}
use Rattle.jc_workers.proofs.case_seat.SeatCaseSeat.begin.Goals as goal

pub returns : goal.returns
returns g c = then_ok c.new.result _ _ c.new.ensures
    (λ known h. remembers_empty c.args.board.now.counts c.args.self.now.hits known (subst (λ (l : List ℕ). IsEmpty l known) c.counts.ensures h))
