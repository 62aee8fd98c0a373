use Rattle.std.proofs.Common.{take}
use Rattle.std.specs.Prelude.{All}
use Rattle.jc_machine_model.specs.Programs.{IsLinked}
use Rattle.jc_link_programs.specs.Linking.{AreLinkedClasses}
use Rattle.jc_link_programs.proofs.linking.classes_of.Given as goal

-- the classes of the files so far
abbrev pub invariant-linking : goal.invariant-linking
invariant-linking l = AreLinkedClasses l.names (take l.index l.files) l.classes × All (IsLinked l.names) l.classes
