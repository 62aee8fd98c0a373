use Rattle.std.proofs.Common.{take}
use Rattle.jc_refs_check.proofs.MemberTypeLaws.{AreHeld}
use Rattle.jc_refs_check.proofs.members.kinds_of.Given as goal

-- the types of the values so far
abbrev pub invariant-numbering : goal.invariant-numbering
invariant-numbering l = AreHeld l.fn.names l.names (take l.value-index l.values) l.kinds
