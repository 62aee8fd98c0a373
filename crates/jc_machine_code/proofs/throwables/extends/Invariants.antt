use Rattle.std.proofs.Common.{◌≡◌}
use Rattle.jc_machine_code.proofs.ThrownLaws.{named_above}
use Rattle.jc_programs.specs.Throwables.{is_named_in, name_of}
use Rattle.jc_machine_code.proofs.throwables.extends.Given as goal

abbrev pub invariant-rising : goal.invariant-rising
invariant-rising l = named_above l.left l.line l.other ≡ is_named_in l.fn.class (name_of l.other)

abbrev pub decreases-rising : goal.decreases-rising
decreases-rising l = l.left
