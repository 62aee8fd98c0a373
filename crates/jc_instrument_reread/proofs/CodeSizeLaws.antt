-- The attributes of code whose text an attribute holds are few and short (JVM Specification 4.7).
use Rattle.std.proofs.Common.{◌≡◌, ℕ, zero, suc, ◌+◌, ◌-◌, ◌*◌, ◌/◌, ◌<◌, ◌≤◌, List, [], ◌∷◌, ◌++◌, length, map, take, drop, refl, sym, ◌∙◌, ap, arith, length-append, length-drop}
use Rattle.std.specs.List.{AllByRecursion, flat_map}
use Rattle.std.proofs.lemmas.Grind.{flat_map-append}
use Rattle.std.proofs.lemmas.List.{length-map, take-append-drop}
use Rattle.std.proofs.lemmas.List.Concat.{flat_map-cons}
use Rattle.jc_bytes.specs.BigNumbers.{short, word}
use Rattle.jc_methods.specs.VerificationTypes.{TypeStateAt}
use Rattle.jc_methods.specs.declared.body.LineAt.{LineAt}
use Rattle.jc_methods.specs.declared.body.VarAt.{VarAt}
use Rattle.jc_class.specs.declared.class_file.Attribute.{Attribute}
use Rattle.jc_frames.specs.FullFrames.{Places}
use Rattle.jc_insn.proofs.ReadBackLaws.{short_size}
use Rattle.jc_instrument_code.specs.CodeText.{all_parts, attribute, attribute_text, code_text, counted_text, frame_attributes, line_text, parts_of, table_attributes, var_text}
use Rattle.jc_instrument_code.proofs.PartLaws.{parts_count}

-- ---- lengths

behind : (a b : List ℕ) → length b ≤ length (a ++ b)
behind a b = let both = length-append a b in omega (arith, both)

two_in : (a : ℕ) (rest : List ℕ) → 2 ≤ length (short a ++ rest)
two_in a rest = let both = length-append (short a) rest in let size = short_size a in omega (arith, both, size)

flat_least : {X : Type 0} (text : X → List ℕ) → ((x : X) → 2 ≤ length (text x)) → (xs : List X) → 2 * length xs ≤ length (flat_map text xs)
flat_least text each [] = omega arith
flat_least text each (x ∷ xs) =
    let split = ap (λ (l : List ℕ). length l) (flat_map-cons text x xs) in
    let both = length-append (text x) (flat_map text xs) in
    let one = each x in
    let rest = flat_least text each xs in
    omega (arith, split, both, one, rest)

-- the text of an attribute has two bytes for each entry of its table, and all of its body
body_in : (a : Attribute) → length a.body ≤ length (attribute_text a)
body_in a =
    let first = behind (word (length a.body)) a.body in
    let second = behind (short a.name) (word (length a.body) ++ a.body) in
    omega (arith, first, second)

-- each body is no longer than all texts
pub bodies_short : (most : ℕ) (attributes : List Attribute) → length (flat_map attribute_text attributes) ≤ most
    → AllByRecursion (λ a. length a.body ≤ most) attributes
bodies_short most [] few = tt
bodies_short most (a ∷ rest) few =
    let split = ap (λ (l : List ℕ). length l) (flat_map-cons attribute_text a rest) in
    let both = length-append (attribute_text a) (flat_map attribute_text rest) in
    let body = body_in a in
    (omega (arith, split, both, body, few), bodies_short most rest (omega (arith, split, both, few)))

-- ---- tables

both_least : (n a b t u v : ℕ) → a + b ≡ n → t ≡ u + v → 2 * a ≤ u → 2 * b ≤ v → 2 * n ≤ t
both_least n a b t u v whole texts one rest = omega (arith, whole, texts, one, rest)

module _ {X : Type 0} (name : ℕ) (text : X → List ℕ) (each : (x : X) → 2 ≤ length (text x)) where
  abbrev part_attribute : List X → Attribute
  part_attribute part = attribute name (counted_text text part)

  part_least : (part : List X) → 2 * length part ≤ length (attribute_text (part_attribute part))
  part_least part =
      let entries = flat_least text each part in
      let counted = behind (short (length part)) (flat_map text part) in
      let body = body_in (part_attribute part) in
      omega (arith, entries, counted, body)

  parts_least : (n : ℕ) (xs : List X) → length xs ≤ n → 2 * length xs ≤ length (flat_map attribute_text (map part_attribute (parts_of n xs)))
  parts_least zero [] le = omega arith
  parts_least zero (x ∷ xs) le = absurd (omega (arith, le))
  parts_least (suc n) [] le = omega arith
  parts_least (suc n) (x ∷ xs) le =
      let part = take 65535 (x ∷ xs) in
      let left = drop 65535 (x ∷ xs) in
      let size = length-drop 65535 (x ∷ xs) in
      let texts = flat_map attribute_text (map part_attribute (parts_of n left)) in
      both_least (length (x ∷ xs)) (length part) (length left) (length (flat_map attribute_text (map part_attribute (parts_of (suc n) (x ∷ xs)))))
      (length (attribute_text (part_attribute part))) (length texts)
      (sym (length-append part left) ∙ ap (λ (l : List X). length l) (take-append-drop 65535 (x ∷ xs)))
      (ap (λ (l : List ℕ). length l) (flat_map-cons attribute_text (part_attribute part) (map part_attribute (parts_of n left)))
      ∙ length-append (attribute_text (part_attribute part)) texts)
      (part_least part) (parts_least n left (omega (arith, size, le)))

  -- a table has an attribute for each 65,535 entries that are begun
  table_count : (xs : List X) → length (table_attributes name text xs) ≡ (length xs + 65534) / 65535
  table_count xs =
      length-map (all_parts xs) part_attribute ∙ parts_count xs ((length xs + 65534) / 65535) (omega arith) (omega arith)

  pub table_few : (xs : List X) (size : ℕ) → size ≡ length (flat_map attribute_text (table_attributes name text xs))
      → 131070 * length (table_attributes name text xs) ≤ size + 131070
  table_few xs size is =
      let count = table_count xs in
      let least = parts_least (length xs) xs (omega arith) in
      omega (arith, is, count, least)

line_two : (offset : ℕ → ℕ) (l : LineAt) → 2 ≤ length (line_text offset l)
line_two offset l = two_in (offset l.at) (short l.line)

var_two : (offset : ℕ → ℕ) (x : VarAt) → 2 ≤ length (var_text offset x)
var_two offset x = two_in (offset x.start) (short (offset x.end - offset x.start) ++ (short x.name ++ (short x.desc ++ short x.slot)))

frames_few : (name : ℕ) (p : Places) (frames : List TypeStateAt) → length (frame_attributes name p frames) ≤ 1
frames_few name p [] = omega arith
frames_few name p (f ∷ frames) = omega arith

-- ---- all attributes

pub attributes_few : (offset : ℕ → ℕ) (lines vars kind_vars frames_name : ℕ) (p : Places) (ls : List LineAt) (xs ks : List VarAt) (frames : List TypeStateAt)
    → length (flat_map attribute_text (table_attributes lines (line_text offset) ls ++ (table_attributes vars (var_text offset) xs
    ++ (table_attributes kind_vars (var_text offset) ks ++ frame_attributes frames_name p frames)))) ≤ 4294967295
    → length (table_attributes lines (line_text offset) ls ++ (table_attributes vars (var_text offset) xs
    ++ (table_attributes kind_vars (var_text offset) ks ++ frame_attributes frames_name p frames))) < 65536
attributes_few offset lines vars kind_vars frames_name p ls xs ks frames few =
    let a = table_attributes lines (line_text offset) ls in
    let b = table_attributes vars (var_text offset) xs in
    let c = table_attributes kind_vars (var_text offset) ks in
    let d = frame_attributes frames_name p frames in
    let texts = flat_map attribute_text in
    let one = table_few lines (line_text offset) (line_two offset) ls (length (texts a)) refl in
    let two = table_few vars (var_text offset) (var_two offset) xs (length (texts b)) refl in
    let three = table_few kind_vars (var_text offset) (var_two offset) ks (length (texts c)) refl in
    let four = frames_few frames_name p frames in
    let counts = length-append a (b ++ (c ++ d)) in
    let later_counts = length-append b (c ++ d) in
    let last_counts = length-append c d in
    let sizes = ap (λ (l : List ℕ). length l) (flat_map-append attribute_text a (b ++ (c ++ d))) ∙ length-append (texts a) (texts (b ++ (c ++ d))) in
    let later_sizes = ap (λ (l : List ℕ). length l) (flat_map-append attribute_text b (c ++ d)) ∙ length-append (texts b) (texts (c ++ d)) in
    let last_sizes = ap (λ (l : List ℕ). length l) (flat_map-append attribute_text c d) ∙ length-append (texts c) (texts d) in
    omega (arith, few, one, two, three, four, counts, later_counts, last_counts, sizes, later_sizes, last_sizes)

-- ---- in the text of code

pub attributes_in : (max_stack max_locals : ℕ) (code rows : List ℕ) (attributes : List Attribute)
    → length (flat_map attribute_text attributes) ≤ length (code_text max_stack max_locals code rows attributes)
attributes_in max_stack max_locals code rows attributes =
    let all = counted_text attribute_text attributes in
    let a = behind (short (length attributes)) (flat_map attribute_text attributes) in
    let b = behind rows all in
    let c = behind code (rows ++ all) in
    let d = behind (word (length code)) (code ++ (rows ++ all)) in
    let e = behind (short max_locals) (word (length code) ++ (code ++ (rows ++ all))) in
    let f = behind (short max_stack) (short max_locals ++ (word (length code) ++ (code ++ (rows ++ all)))) in
    omega (arith, a, b, c, d, e, f)
