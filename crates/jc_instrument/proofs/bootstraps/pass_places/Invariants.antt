use Rattle.std.specs.Prelude.{IsTrue, ◌↔◌}
use Rattle.jc_bytes.specs.Decoder.{number_at}
use Rattle.jc_bytes.specs.Parsing.{item}
use Rattle.jc_instrument.specs.Bootstraps.{SomePast}
use Rattle.jc_instrument.proofs.BootstrapsLaws.{Walked}
use Rattle.jc_instrument.proofs.bootstraps.pass_places.Given as goal

-- whether one of the places so far is past the limit
abbrev pub invariant-passing : goal.invariant-passing
invariant-passing l = Walked (item (number_at 2)) l.count l.fn.bytes l._place l.rest (λ done. IsTrue l.past ↔ SomePast l.limit done)
