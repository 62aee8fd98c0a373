use Rattle.std.proofs.Common.{length}
use Rattle.jc_methods.specs.DescriptorTypes.{method_type_in}
use Rattle.jc_programs.specs.Entries.{are_arguments}
use Rattle.jc_programs.proofs.ArgumentLaws.{Decide}
use Rattle.jc_programs.proofs.arguments.takes.Given as goal

-- what is left decides
abbrev pub invariant-letters : goal.invariant-letters
invariant-letters l = Decide (are_arguments (method_type_in l.fn.desc).parameters l.fn.args) l.reading l.letters l.numbers

abbrev pub decreases-letters : goal.decreases-letters
decreases-letters l = length l.letters
