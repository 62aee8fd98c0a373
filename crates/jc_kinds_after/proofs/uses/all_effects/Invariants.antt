use Rattle.std.proofs.Common.{take}
use Rattle.jc_methods.specs.VerificationTypes.{Grows}
use Rattle.jc_kinds_after.specs.Does.{AllSay}
use Rattle.jc_kinds_after.proofs.uses.all_effects.Given as goal

abbrev pub invariant-reading : goal.invariant-reading
invariant-reading l = record {
  said : AllSay l.names (take l.entry-index l.uses) l.effects;
  grown : Grows l.fn.names l.names;
}
