use Rattle.std.proofs.Common.{◌≡◌, ◌++◌, take}
use Rattle.jc_body.specs.BodyOf.{insn_places}
use Rattle.jc_body.proofs.uses.put_insn_places.Given as goal

-- the places of the instructions so far
abbrev pub invariant-putting : goal.invariant-putting
invariant-putting l = l.places.items ≡ l.initial.places.items ++ insn_places (take l.insn-index l.insns)
