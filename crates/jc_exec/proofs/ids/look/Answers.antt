use Rattle.std.proofs.Common.{◌≡◌, ◌+◌, ◌-◌, ℕ, slice_index, length, ◌∙◌, ap, subst, arith}
use Rattle.jc_exec.specs.Places.{home, HaveNone}
use Rattle.jc_exec.proofs.ids.look.Goals as goal

pub returns-then-slot-eq0 : goal.returns-then-slot-eq0
returns-then-slot-eq0 c =
    let here : home c.args.id (length c.args.slots.now) + (c.looking.k - c.home-from.result) ≡ c.looking.k = omega (arith, c.looking.auto, c.home-from.ensures.is) in (
      c.looking.k - c.home-from.result,
      omega (arith, c.looking.auto, c.looking-test.true),
      ap (slice_index c.args.slots.now) here ∙ c.if-slot-eq0.true,
      subst (λ (from : ℕ). HaveNone c.args.ids.now c.args.slots.now c.args.id from (c.looking.k - c.home-from.result)) c.home-from.ensures.is c.looking.invariant,
    )
