use Rattle.std.proofs.Common.{ℕ, ◌≤◌, subst}
use Rattle.jc_workers.proofs.ClaimLaws.{split_keeps}
use Rattle.jc_workers.proofs.claims.give_budget.Goals as goal

pub split_seat-requires : goal.split_seat-requires
split_seat-requires g c = (
  c.requires.table.0,
  c.requires.table.1,
  λ s k there. split_keeps c.args.words.now.key s.words s.views c.args.seat.now.id g.B.Budget.amount c.args.seat.now.me.0
      (subst (λ (n : ℕ). n ≤ c.args.seat.now.me.0.budget) c.requires.amount c.requires.budget) k there,
)
