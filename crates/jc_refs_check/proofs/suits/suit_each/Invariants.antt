use Rattle.std.proofs.Common.{◌≡◌, drop}
use Rattle.jc_refs_check.specs.KindSuits.{kinds_suit}
use Rattle.jc_refs_check.proofs.suits.suit_each.Given as goal

-- those so far suit, so that the others decide
abbrev pub invariant-suiting : goal.invariant-suiting
invariant-suiting l = kinds_suit l.classes.names l.kinds l.wants ≡ kinds_suit l.classes.names (drop l.i l.kinds) (drop l.i l.wants)
