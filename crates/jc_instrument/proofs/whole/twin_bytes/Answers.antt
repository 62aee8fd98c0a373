use Rattle.std.proofs.Common.{ℕ, List, [], Option, refl, ap}
use Rattle.std.specs.Prelude.{unwrap_or}
use Rattle.jc_instrument.proofs.TwinFileLaws.{are_short, short_attributes, twin_is_class}
use Rattle.jc_instrument.proofs.TwinLaws.{same_outside}
use Rattle.jc_instrument.proofs.whole.twin_bytes.Goals as goal

pub grown_twin-requires-clause-name : goal.grown_twin-requires-clause-name
grown_twin-requires-clause-name c = ap (λ (o : Option (List ℕ)). unwrap_or o []) c.requires.name

pub class_bytes-requires : goal.class_bytes-requires
class_bytes-requires c = λ short attributes_short.
    let class = c.args.class in
    let w = c.in_ok-twin.ensures.twin in
    let none = c.requires.ready.no_cause in
    twin_is_class c.args.identity.id w.written.with.bootstrap _ _ class c.in_ok-twin.twin c.requires.class
    (λ full. none.1.1.1.1.1.1.0 _ (record { full = full; refusal = refl })) none.1.1.1.1.1.1.1.0
    (same_outside c.args.identity.id w.names w.array w.works class c.in_ok-twin.twin w.written) (are_short c.in_ok-twin.twin.methods short)
    (short_attributes c.in_ok-twin.twin.attributes attributes_short)

pub returns-clause-text : goal.returns-clause-text
returns-clause-text c = record {
  twin = c.in_ok-twin.twin;
  written = c.in_ok-twin.ensures.twin;
  text = c.in_ok-class_bytes.ensures.text;
  are_bytes = c.in_ok-class_bytes.ensures.bytes;
}
