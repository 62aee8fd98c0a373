use Rattle.std.proofs.Common.{take}
use Rattle.jc_methods.specs.VerificationTypes.{Grows}
use Rattle.jc_refs_check.specs.HeldTypes.{IsTypeOf, EachSays}
use Rattle.jc_refs_check.proofs.members.kinds_of_fields.Given as goal

-- the types of the fields so far
abbrev pub invariant-numbering : goal.invariant-numbering
invariant-numbering l = record {
  says : EachSays (IsTypeOf l.names) (take l.field-index l.fields) l.kinds;
  grown : Grows l.fn.names l.names;
}
