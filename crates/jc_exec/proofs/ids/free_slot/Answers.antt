use Rattle.std.proofs.Common.{◌-◌, ℕ, subst, arith}
use Rattle.jc_exec.specs.Places.{AreTaken}
use Rattle.jc_exec.proofs.ids.free_slot.Goals as goal

pub returns-then-slots-k-eq0-clause-free : goal.returns-then-slots-k-eq0-clause-free
returns-then-slots-k-eq0-clause-free c = record {
  at = c.looking.k - c.home-from.result;
  within = omega (arith, c.looking.auto, c.looking-test.true);
  is = omega (arith, c.looking.auto, c.home-from.ensures.is);
  inside = omega (arith, c.looking.auto, c.looking-test.true, c.home-from.ensures.room);
  free = c.if-slots-k-eq0.true;
  front = subst (λ (from : ℕ). AreTaken c.args.slots.now from (c.looking.k - c.home-from.result)) c.home-from.ensures.is c.looking.invariant;
}
