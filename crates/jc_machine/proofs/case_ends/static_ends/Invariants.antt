use Rattle.std.proofs.Common.{◌≡◌, take}
use Rattle.jc_machine.specs.StaticEnds.{ends_at}
use Rattle.jc_machine.proofs.case_ends.static_ends.Given as goal

abbrev pub invariant-fields : goal.invariant-fields
invariant-fields l = l.ends.items ≡ ends_at l.shared.content.statics (take l.at-index l.fields)
