use Rattle.std.proofs.Common.{take}
use Rattle.jc_methods.specs.VerificationTypes.{Grows}
use Rattle.jc_refs_check.specs.HeldTypes.{AreTypesOf, EachSays}
use Rattle.jc_refs_check.proofs.members.ProgramTypes.of.Given as goal

-- the types of the members of the classes so far
abbrev pub invariant-numbering : goal.invariant-numbering
invariant-numbering l = record {
  says : EachSays (AreTypesOf l.names) (take l.class-index l.program.classes) l.classes;
  grown : Grows l.fn.names l.names;
}
