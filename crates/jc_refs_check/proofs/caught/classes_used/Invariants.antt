use Rattle.std.proofs.Common.{take}
use Rattle.jc_methods.specs.VerificationTypes.{Grows}
use Rattle.jc_refs_check.specs.Unguarded.{AreUsedClasses}
use Rattle.jc_refs_check.proofs.caught.classes_used.Given as goal

-- those of the entries so far
abbrev pub invariant-numbering : goal.invariant-numbering
invariant-numbering l = record {
  used : AreUsedClasses l.names (take l.entry-index l.uses) l.used;
  grown : Grows l.fn.names l.names;
}
