use Rattle.std.proofs.Common.{◌≡◌, ◌++◌, take}
use Rattle.std.specs.List.{flat_map}
use Rattle.jc_plan.specs.Probed.{first_id}
use Rattle.jc_command_classes.specs.ClassInfo.{method_line}
use Rattle.jc_command_classes.proofs.class_info.put_methods.Given as goal

-- the lines of the bodies so far stand at the end, and the first id of the next body is known
abbrev pub invariant-putting : goal.invariant-putting
invariant-putting l =
    (l.text.items ≡ l.fn.text.items ++ flat_map method_line (take l.index l.class.bodies)) × (l.first ≡ first_id l.class.bodies l.index)
