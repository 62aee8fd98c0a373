use Rattle.std.proofs.Common.{take}
use Rattle.jc_methods.specs.VerificationTypes.{Grows}
use Rattle.jc_refs_check.specs.HeldTypes.{IsSignatureOf, EachSays}
use Rattle.jc_refs_check.proofs.members.signatures.Given as goal

-- the types of the methods so far
abbrev pub invariant-numbering : goal.invariant-numbering
invariant-numbering l = record {
  says : EachSays (IsSignatureOf l.names) (take l.body-index l.bodies) l.methods;
  grown : Grows l.fn.names l.names;
}
