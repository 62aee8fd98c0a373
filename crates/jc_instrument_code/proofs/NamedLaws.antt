-- Attributes whose names stand at their first places.
use Rattle.std.proofs.Common.{◌≡◌, ℕ, List, [], ◌∷◌, ◌++◌, refl, sym, ◌∙◌, ap}
use Rattle.jc_methods.specs.VerificationTypes.{TypeStateAt}
use Rattle.jc_methods.specs.declared.emitted.Emitted.{Emitted}
use Rattle.jc_class.specs.declared.class_file.Attribute.{Attribute}
use Rattle.jc_pool.specs.Pool.{PoolValue}
use Rattle.jc_pool.specs.Adding.{IsFirst}
use Rattle.jc_pool.specs.Lookup.{utf8_of}
use Rattle.jc_instrument_code.specs.CodeText.{table_attributes, frame_attributes, line_text, var_text}
use Rattle.jc_instrument_code.specs.FirstPlaces.{text_place}
use Rattle.jc_instrument_code.specs.Given.{AreNamed, IsNamedAt}
use Rattle.jc_instrument_code.specs.TwinCode.{lines_name, vars_name, kind_vars_name, offset_in, places_of, tables_in, attributes_by, code_attributes}
use Rattle.jc_instrument_code.specs.declared.code.CodePlaces.{CodePlaces}
use Rattle.jc_instrument_code.proofs.FirstPlaceLaws.{text_found}

pub named_at : {X : Type 0} (pool : PoolValue) (name : List ℕ) (xs : List X) (place : ℕ) → IsFirst (utf8_of pool) name place → IsNamedAt pool name xs place
named_at pool name [] place first = tt
named_at pool name (x ∷ xs) place first = first

-- a table without entries has no attribute, and so no name
named_table : {X : Type 0} (pool : PoolValue) (name : List ℕ) (place : ℕ) (text : X → List ℕ) (xs : List X) → IsNamedAt pool name xs place
    → table_attributes place text xs ≡ table_attributes (text_place pool name) text xs
named_table pool name place text [] named = refl
named_table pool name place text (x ∷ xs) named = ap (λ (n : ℕ). table_attributes n text (x ∷ xs)) (sym (text_found pool name place named))

pub are_named : (pool : PoolValue) (e : Emitted) (places : CodePlaces) (frames_name : ℕ) (frames : List TypeStateAt) → AreNamed pool e places
    → attributes_by places.lines places.vars places.kind_vars frames_name (places_of pool e) (tables_in e) frames ≡ code_attributes pool frames_name e frames
are_named pool e places frames_name frames named =
    let last = frame_attributes frames_name (places_of pool e) frames in
    let offset = offset_in e in
    let lines = named_table pool lines_name places.lines (line_text offset) e.lines named.lines in
    let vars = named_table pool vars_name places.vars (var_text offset) e.vars named.vars in
    let kind_vars = named_table pool kind_vars_name places.kind_vars (var_text offset) e.kind_vars named.kind_vars in
    ap (λ (l : List Attribute). l ++ (table_attributes places.vars (var_text offset) e.vars ++ (table_attributes places.kind_vars (var_text offset) e.kind_vars ++ last))) lines
    ∙ ap (λ (l : List Attribute). table_attributes (text_place pool lines_name) (line_text offset) e.lines ++ (l ++ (table_attributes places.kind_vars (var_text offset) e.kind_vars ++ last))) vars
    ∙ ap (λ (l : List Attribute). table_attributes (text_place pool lines_name) (line_text offset) e.lines
    ++ (table_attributes (text_place pool vars_name) (var_text offset) e.vars ++ (l ++ last))) kind_vars
