use Rattle.std.proofs.Common.{ℕ, List, ◌≡◌, ◌+◌, length, arith, ap, subst}
use Rattle.jc_workers.specs.Claims.{DrawerSeen, ClaimsSeen, AreThoseBelow}
use Rattle.jc_workers.proofs.ClaimLaws.{closes}
use Rattle.jc_workers.proofs.claims.Claims.close.Goals as goal

pub returns : goal.returns
returns c whole =
    let has = c.drawer.view_is in
    let all : length c.drawer.inside.seat.me.0.numbers + c.drawer.inside.seat.me.0.budget ≡ c.self.inside.table.shared.key =
    omega (
      arith,
      whole,
      ap (λ (d : DrawerSeen). length d.numbers) has,
      ap (λ (d : DrawerSeen). d.budget) has,
      ap (λ (b : ClaimsSeen). b.budget)
          c.self.view_is,
      c.self.invariant.0,
    ) in
    subst (λ (l : List ℕ). (n : ℕ) × AreThoseBelow n l) (ap (λ (d : DrawerSeen). d.numbers) has) (closes _ _ _ _ _ c.close_with.ensures.values.2 all)
