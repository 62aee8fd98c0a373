use Rattle.std.proofs.Common.{◌≡◌, ◌++◌, take}
use Rattle.std.specs.List.{flat_map}
use Rattle.jc_machine_model.specs.CaseText.{static_text}
use Rattle.jc_machine_text.proofs.statics.put_statics.Given as goal

-- the lines of the fields so far stand at the end
abbrev pub invariant-putting : goal.invariant-putting
invariant-putting l = l.text.items ≡ l.fn.text.items ++ flat_map (static_text l.program) (take l.end-index l.statics)
