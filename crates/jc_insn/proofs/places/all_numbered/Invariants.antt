use Rattle.std.proofs.Common.{◌≡◌, map}
use Rattle.std.specs.Prelude.{slice_index_or}
use Rattle.jc_methods.specs.Insn.{with_places}
use Rattle.jc_insn.proofs.places.all_numbered.Given as goal

-- the instructions so far
abbrev pub invariant-numbering : goal.invariant-numbering
invariant-numbering l = l.code.items ≡ map (with_places (λ offset. slice_index_or l.numbers offset l.count)) l.yielded
