use Rattle.std.proofs.Common.{ℕ, List, ◌%◌, ap, sym, ◌∙◌, subst, eqb-true}
use Rattle.std.specs.Prelude.{Contains}
use Rattle.std.proofs.lemmas.Nat.Bits.{shr_and_one}
use Rattle.jc_board.specs.Seen.{SeatSeen}
use Rattle.jc_board.proofs.board.Seat.peek.Goals as goal

pub returns-clause-alone : goal.returns-clause-alone
returns-clause-alone c whole set =
    let looked = c.look_at-found.ensures.view in
    subst (λ (hits : List (ℕ × ℕ)). Contains hits (c.args.class, c.args.id)) (ap (λ (s : SeatSeen). s.hits) c.self.view_is)
    (looked.alone (ap (λ (s : SeatSeen). s.part) c.self.view_is ∙ whole) (sym (shr_and_one c.look_at-found.result (c.args.id % 64)) ∙ eqb-true _ _ set))
