use Rattle.std.proofs.Common.{◌-◌}
use Rattle.jc_exec.specs.Places.{HaveNone}
use Rattle.jc_exec.proofs.ids.look.Given as goal

-- the slots so far have other ids
abbrev pub invariant-looking : goal.invariant-looking
invariant-looking l = HaveNone l.ids l.slots l.id l.from (l.k - l.from)
