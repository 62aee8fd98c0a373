-- Static fields in the lists that keep them.
use Rattle.std.proofs.Common.{◌≡◌, ℕ, zero, suc, ◌<◌, List, [], ◌∷◌, refl, arith, length, map, slice_set, slice_index_or, ◌∙◌, ap, sym}
use Rattle.std.specs.Global.{Vec}
use Rattle.std.specs.Vec.{vec_len, with_items}
use Rattle.std.proofs.lemmas.List.{map-set, get_or-map, with_items_is}
use Rattle.jc_machine_model.specs.Values.{Value}
use Rattle.jc_machine_memory.specs.declared.value.Value as kept
use Rattle.jc_machine_memory.specs.Values.{value_of}
use Rattle.jc_region.specs.Memory.{allocation_of}
use Rattle.jc_machine_turn.specs.Contents.{memories_of}

-- the values of a class
abbrev pub values_in : Vec kept.Value → List Value
values_in c = map value_of c.items

pub static_set : (statics : List (Vec kept.Value)) (class field : ℕ) (v : kept.Value) (values : Vec kept.Value) (new : List kept.Value)
    → class < length statics → length new ≡ vec_len values → values ≡ slice_index_or statics class values → new ≡ slice_set values.items field v
    → map values_in (slice_set statics class (with_items values new))
    ≡ slice_set (map values_in statics) class (slice_set (slice_index_or (map values_in statics) class []) field (value_of v))
static_set statics class field v values new less long read set =
    let put : values_in (with_items values new) ≡ slice_set (values_in values) field (value_of v) =
    ap (map value_of) (with_items_is values new long ∙ set) ∙ map-set value_of values.items field v in
    let there : slice_index_or (map values_in statics) class [] ≡ values_in values = get_or-map values_in statics class values [] less
    ∙ ap values_in (sym read) in
    map-set values_in statics class (with_items values new)
    ∙ ap (slice_set (map values_in statics) class) (put ∙ ap (λ vs. slice_set vs field (value_of v)) (sym there))

-- values that are written where others lay leave the memory of each class as it was
pub memory_set : (statics : List (Vec kept.Value)) (class : ℕ) (values : Vec kept.Value) (new : List kept.Value)
    → class < length statics → values ≡ slice_index_or statics class values
    → memories_of (slice_set statics class (with_items values new)) ≡ memories_of statics
memory_set [] class values new less read = refl
memory_set (v ∷ statics) zero values new less read = ap (λ (u : Vec kept.Value). allocation_of u ∷ memories_of statics) read
memory_set (v ∷ statics) (suc class) values new less read = ap (λ ms. allocation_of v ∷ ms) (memory_set statics class values new (omega arith) read)
