-- The attributes of a Code attribute.
use Rattle.std.proofs.Common.{◌≡◌, ℕ, zero, suc, Bool, true, false, true≢false, ◌+◌, ◌*◌, ◌<◌, ◌≤◌, List, [], ◌∷◌, ◌++◌, length, map, refl, sym, ◌∙◌, ap, ap₂, arith, length-append}
use Rattle.std.specs.Prelude.{◌==◌, slice_index}
use Rattle.std.specs.List.{flat_map}
use Rattle.std.proofs.lemmas.Bool.{eqb-true}
use Rattle.std.proofs.lemmas.Grind.{flat_map-append}
use Rattle.std.proofs.lemmas.List.{append-nil, length-map}
use Rattle.jc_bytes.proofs.AppendingLaws.{joined}
use Rattle.jc_bytes.specs.BigNumbers.{short, word}
use Rattle.jc_methods.specs.VerificationTypes.{Names, TypeStateAt, type_state_at}
use Rattle.jc_methods.specs.declared.body.FrameAt.{FrameAt}
use Rattle.jc_class.specs.declared.class_file.Attribute.{Attribute}
use Rattle.jc_emit.specs.declared.tables.MovedTables.{MovedTables}
use Rattle.jc_frames.specs.FullFrames.{Places, table_text}
use Rattle.jc_frames.specs.FullTable.{ArePlacesIn}
use Rattle.jc_pool.specs.Pool.{PoolValue}
use Rattle.jc_instrument_code.specs.CodeText.{all_parts, attribute, attribute_text, counted_text, line_text, var_text, table_attributes, frame_attributes}
use Rattle.jc_instrument_code.specs.TwinCode.{attributes_by, places_by}
use Rattle.jc_instrument_code.proofs.FirstPlaceLaws.{class_found}
use Rattle.jc_instrument_code.proofs.PartLaws.{parts_count, text_of_attribute}

-- ---- places

-- classes at their first places, and instructions at their offsets
pub are_places : (pool : PoolValue) (starts : List ℕ) → ArePlacesIn pool starts (places_by pool (slice_index starts))
are_places pool starts = record {
  class = λ name place first. class_found pool name place first;
  start = λ at. refl;
}

-- ---- frames

pub frames_text : (name size : ℕ) (p : Places) (frames : List TypeStateAt) (none table old mid new : List ℕ) → 0 < length frames → none ≡ []
    → table ≡ none ++ table_text p frames → length table ≡ size → mid ≡ old ++ (short name ++ word size) → new ≡ mid ++ table
    → new ≡ old ++ flat_map attribute_text (frame_attributes name p frames)
frames_text name size p [] none table old mid new some empty is long head rest = absurd (omega (arith, some))
frames_text name size p (f ∷ frames) none table old mid new some empty is long head rest =
    let table_is = is ∙ ap (λ (l : List ℕ). l ++ table_text p (f ∷ frames)) empty in
    text_of_attribute name size table old mid new head rest long
    ∙ ap (λ (l : List ℕ). old ++ attribute_text (attribute name l)) table_is
    ∙ ap (λ (l : List ℕ). old ++ l) (sym (append-nil (attribute_text (attribute name (table_text p (f ∷ frames))))))

pub no_frames : (name : ℕ) (p : Places) (frames : List TypeStateAt) (old : List ℕ) → length frames ≡ 0
    → old ≡ old ++ flat_map attribute_text (frame_attributes name p frames)
no_frames name p [] old none = sym (append-nil old)
no_frames name p (f ∷ frames) old none = absurd (omega (arith, none))

-- ---- their number

frame_count : (name : ℕ) (p : Places) (frames : List TypeStateAt) (count : ℕ) → (length frames ≡ 0 → count ≡ 0) → (0 < length frames → count ≡ 1)
    → length (frame_attributes name p frames) ≡ count
frame_count name p [] count none some = sym (none refl)
frame_count name p (f ∷ frames) count none some = sym (some (omega arith))

table_count : {X : Type 0} (name : ℕ) (text : X → List ℕ) (xs : List X) (count : ℕ) → length xs ≤ 65535 * count → 65535 * count < length xs + 65535
    → length (table_attributes name text xs) ≡ count
table_count name text xs count enough needed =
    length-map (all_parts xs) (λ part. attribute name (counted_text text part)) ∙ parts_count xs count enough needed

-- ---- all of them

pub all_text : (a b c d : List Attribute) (count : ℕ) (t₀ t₁ t₂ t₃ t₄ t₅ : List ℕ) → count ≡ length (a ++ (b ++ (c ++ d))) → t₁ ≡ t₀ ++ short count
    → t₂ ≡ t₁ ++ flat_map attribute_text a → t₃ ≡ t₂ ++ flat_map attribute_text b → t₄ ≡ t₃ ++ flat_map attribute_text c
    → t₅ ≡ t₄ ++ flat_map attribute_text d → t₅ ≡ t₀ ++ counted_text attribute_text (a ++ (b ++ (c ++ d)))
all_text a b c d count t₀ t₁ t₂ t₃ t₄ t₅ is p₁ p₂ p₃ p₄ p₅ =
    joined t₀ t₁ t₅ (short count) _ p₁ (joined t₁ t₂ t₅ (flat_map attribute_text a) _ p₂ (joined t₂ t₃ t₅ (flat_map attribute_text b) _ p₃
    (joined t₃ t₄ t₅ (flat_map attribute_text c) (flat_map attribute_text d) p₄ p₅)))
    ∙ ap₂ (λ (n : ℕ) (l : List ℕ). t₀ ++ (short n ++ l)) is
    (sym (flat_map-append attribute_text a (b ++ (c ++ d))
    ∙ ap (λ (l : List ℕ). flat_map attribute_text a ++ l) (flat_map-append attribute_text b (c ++ d)
    ∙ ap (λ (l : List ℕ). flat_map attribute_text b ++ l) (flat_map-append attribute_text c d))))

pub attributes_count : (lines vars kind_vars frames_name : ℕ) (p : Places) (t : MovedTables) (names : Names) (frames : List FrameAt) (k l m n : ℕ)
    → length t.lines ≤ 65535 * k → 65535 * k < length t.lines + 65535 → length t.vars ≤ 65535 * l → 65535 * l < length t.vars + 65535
    → length t.kind_vars ≤ 65535 * m → 65535 * m < length t.kind_vars + 65535 → (length frames ≡ 0 → n ≡ 0) → (0 < length frames → n ≡ 1)
    → k + l + m + n ≡ length (attributes_by lines vars kind_vars frames_name p t (map (type_state_at names) frames))
attributes_count lines vars kind_vars frames_name p t names frames k l m n p₁ q₁ p₂ q₂ p₃ q₃ none some =
    let seen = map (type_state_at names) frames in
    let size = length-map frames (type_state_at names) in
    let a = table_attributes lines (line_text p.start) t.lines in
    let b = table_attributes vars (var_text p.start) t.vars in
    let d = table_attributes kind_vars (var_text p.start) t.kind_vars in
    let f = frame_attributes frames_name p seen in
    let one = table_count lines (line_text p.start) t.lines k p₁ q₁ in
    let two = table_count vars (var_text p.start) t.vars l p₂ q₂ in
    let three = table_count kind_vars (var_text p.start) t.kind_vars m p₃ q₃ in
    let four = frame_count frames_name p seen n (λ no_frames. none (omega (arith, size, no_frames))) (λ more. some (omega (arith, size, more))) in
    let whole = length-append a (b ++ (d ++ f)) in
    let later = length-append b (d ++ f) in
    let last = length-append d f in
    omega (arith, one, two, three, four, whole, later, last)

-- ---- tests for nothing

pub some_left : (n : ℕ) (t : Bool) → t ≡ (n == 0) → t ≡ false → 0 < n
some_left zero t is no_more = absurd (true≢false (sym is ∙ no_more))
some_left (suc n) t is no_more = omega arith

pub none_left : (n : ℕ) (t : Bool) → t ≡ (n == 0) → t ≡ true → n ≡ 0
none_left n t is done = eqb-true n 0 (sym is ∙ done)
