-- How many bytes the text of full frames and of tables has at most.
use Rattle.std.proofs.Common.{◌≡◌, ◌⊎◌, inl, inr, ℕ, zero, suc, ◌+◌, ◌*◌, ◌-◌, ◌<◌, ◌≤◌, false, List, [], ◌∷◌, ◌++◌, length, map, take, drop, refl, sym, ◌∙◌, ap, arith, length-append}
use Rattle.std.specs.List.{flat_map, AllByRecursion}
use Rattle.std.proofs.Math.Nat.{add-mul, one-mul}
use Rattle.std.proofs.Math.ListN.{drop_of_length-le}
use Rattle.std.proofs.lemmas.Bool.{cases_lt}
use Rattle.std.proofs.lemmas.Grind.{flat_map-append}
use Rattle.std.proofs.lemmas.List.{take-append-drop, length-drop}
use Rattle.jc_bytes.specs.BigNumbers.{short, word}
use Rattle.jc_methods.specs.VerificationTypes.{VerificationType, object, uninit, TypeStateAt}
use Rattle.jc_class.specs.declared.class_file.Attribute.{Attribute}
use Rattle.jc_frames.specs.Frames.{trimmed, values_in}
use Rattle.jc_frames.specs.FullFrames as full
use Rattle.jc_frames.proofs.ValuesLaws.{trimmed_few, values_few}
use Rattle.jc_insn.proofs.ReadBackLaws.{short_size, word_size}
use Rattle.jc_instrument_code.specs.CodeText.{attribute, attribute_text, counted_text, parts_of, table_attributes}

frame_short_count : (x : ℕ) → length (short x) ≡ 2
unfolding short
frame_short_count x = refl

-- ---- frames

values_most : (hs : List VerificationType) → length (values_in hs) ≤ length hs
values_most hs = let a = trimmed_few hs in let c = values_few false (trimmed hs) in omega (arith, a, c)

module _ (p : full.Places) where
  type_most : (h : VerificationType) → length (full.type_text p h) ≤ 3
  type_most (object name) = let count = frame_short_count (p.class name) in omega (arith, count)
  type_most (uninit at) = let count = frame_short_count (p.start at) in omega (arith, count)
  type_most h = omega arith

  all_most : (hs : List VerificationType) → length (flat_map (full.type_text p) hs) ≤ 3 * length hs
  all_most [] = omega arith
  all_most (h ∷ hs) =
      let one = type_most h in
      let rest = all_most hs in
      let both = length-append (full.type_text p h) (flat_map (full.type_text p) hs) in
      omega (arith, one, rest, both)

  types_most : (hs : List VerificationType) → length (full.types_text p hs) ≤ 2 + 3 * length hs
  types_most hs =
      let count = frame_short_count (length hs) in
      let all = all_most hs in
      let both = length-append (short (length hs)) (flat_map (full.type_text p) hs) in
      omega (arith, count, all, both)

  frame_most : (base : ℕ) (f : TypeStateAt) → length (full.full_text p base f) ≤ 7 + 3 * (length f.state.locals + length f.state.stack)
  frame_most base f =
      let count = frame_short_count (p.start f.at - base) in
      let values = values_most f.state.locals in
      let locals = types_most (values_in f.state.locals) in
      let stack = types_most f.state.stack in
      let both = length-append (short (p.start f.at - base)) (full.types_text p (values_in f.state.locals) ++ full.types_text p f.state.stack) in
      let more = length-append (full.types_text p (values_in f.state.locals)) (full.types_text p f.state.stack) in
      omega (arith, count, values, locals, stack, both, more)

  frames_most : (base most : ℕ) (list : List TypeStateAt) → AllByRecursion (λ f. length f.state.locals + length f.state.stack ≤ most) list
      → length (full.full_texts p base list) ≤ length list * (7 + 3 * most)
  frames_most base most [] all = omega arith
  frames_most base most (f ∷ list) all =
      let one = frame_most base f in
      let few = all.0 in
      let rest = frames_most (p.start f.at + 1) most list all.1 in
      let both = length-append (full.full_text p base f) (full.full_texts p (p.start f.at + 1) list) in
      let split = add-mul 1 (length list) (7 + 3 * most) in
      let once = one-mul (7 + 3 * most) in
      let next = ap (λ (n : ℕ). n * (7 + 3 * most)) (let e : suc (length list) ≡ 1 + length list = omega arith in e) in
      omega (arith, one, few, rest, both, split, once, next)

  pub table_most : (most : ℕ) (list : List TypeStateAt) → AllByRecursion (λ f. length f.state.locals + length f.state.stack ≤ most) list
      → length (full.table_text p list) ≤ 2 + length list * (7 + 3 * most)
  table_most most list all =
      let count = frame_short_count (length list) in
      let frames = frames_most 0 most list all in
      let both = length-append (short (length list)) (full.full_texts p 0 list) in
      omega (arith, count, frames, both)

-- ---- tables in parts

pub attribute_count : (a : Attribute) → length (attribute_text a) ≡ 6 + length a.body
attribute_count a =
    let name = short_size a.name in
    let size = word_size (length a.body) in
    let both = length-append (short a.name) (word (length a.body) ++ a.body) in
    let more = length-append (word (length a.body)) a.body in
    omega (arith, name, size, both, more)

module _ {X : Type 0} (name : ℕ) (text : X → List ℕ) where
  pub counted_count : (xs : List X) → length (counted_text text xs) ≡ 2 + length (flat_map text xs)
  counted_count xs =
      let count = short_size (length xs) in
      let both = length-append (short (length xs)) (flat_map text xs) in
      omega (arith, count, both)

  abbrev texts : List (List X) → List ℕ
  texts parts = flat_map attribute_text (map (λ part. attribute name (counted_text text part)) parts)

  no_parts : (n : ℕ) → parts_of {X = X} n [] ≡ []
  no_parts zero = refl
  no_parts (suc n) = refl

  -- one part, and the others
  one_part : (part : List X) (parts : List (List X)) → length (texts (part ∷ parts)) ≡ 8 + length (flat_map text part) + length (texts parts)
  one_part part parts =
      let one = attribute_count (attribute name (counted_text text part)) in
      let counted = counted_count part in
      let both = length-append (attribute_text (attribute name (counted_text text part))) (texts parts) in
      omega (arith, one, counted, both)

  cut : (n : ℕ) (xs : List X) → length (flat_map text (take n xs)) + length (flat_map text (drop n xs)) ≡ length (flat_map text xs)
  cut n xs =
      sym (length-append (flat_map text (take n xs)) (flat_map text (drop n xs)))
      ∙ ap (λ (l : List ℕ). length l) (sym (flat_map-append text (take n xs) (drop n xs)) ∙ ap (flat_map text) (take-append-drop n xs))

  parts_most : (n : ℕ) (xs : List X) → 65535 * length (texts (parts_of n xs)) ≤ 8 * (length xs + 65534) + 65535 * length (flat_map text xs)
  parts_most zero xs = omega arith
  parts_most (suc n) [] = omega arith
  parts_most (suc n) (x ∷ xs) =
      let all = x ∷ xs in
      let front = take 65535 all in
      let back = drop 65535 all in
      let one = one_part front (parts_of n back) in
      let both = cut 65535 all in
      by (cases_lt 65535 (length all)) one both (parts_most n back)
    where
      by : (65535 < length (x ∷ xs)) ⊎ (length (x ∷ xs) ≤ 65535)
          → length (texts (parts_of (suc n) (x ∷ xs))) ≡ 8 + length (flat_map text (take 65535 (x ∷ xs))) + length (texts (parts_of n (drop 65535 (x ∷ xs))))
          → length (flat_map text (take 65535 (x ∷ xs))) + length (flat_map text (drop 65535 (x ∷ xs))) ≡ length (flat_map text (x ∷ xs))
          → 65535 * length (texts (parts_of n (drop 65535 (x ∷ xs)))) ≤ 8 * (length (drop 65535 (x ∷ xs)) + 65534) + 65535 * length
          (flat_map text (drop 65535 (x ∷ xs)))
          → 65535 * length (texts (parts_of (suc n) (x ∷ xs))) ≤ 8 * (length (x ∷ xs) + 65534) + 65535 * length (flat_map text (x ∷ xs))
      by (inl more) one both rest = let count = length-drop 65535 (x ∷ xs) in omega (arith, more, one, both, rest, count)
      by (inr few) one both rest =
          let empty = drop_of_length-le (x ∷ xs) few in
          let none = ap (λ (l : List X). length (texts (parts_of n l))) empty ∙ ap (λ (l : List (List X)). length (texts l)) (no_parts n) in
          omega (arith, one, both, none)

  pub tables_most : (xs : List X)
      → 65535 * length (flat_map attribute_text (table_attributes name text xs)) ≤ 8 * (length xs + 65534) + 65535 * length (flat_map text xs)
  tables_most xs = parts_most (length xs) xs

  pub sized_most : (k : ℕ) → ((x : X) → length (text x) ≤ k) → (xs : List X) → length (flat_map text xs) ≤ length xs * k
  sized_most k each [] = omega arith
  sized_most k each (x ∷ xs) =
      let one = each x in
      let rest = sized_most k each xs in
      let both = length-append (text x) (flat_map text xs) in
      let split = add-mul 1 (length xs) k in
      let once = one-mul k in
      let next = ap (λ (n : ℕ). n * k) (let e : suc (length xs) ≡ 1 + length xs = omega arith in e) in
      omega (arith, one, rest, both, split, once, next)
