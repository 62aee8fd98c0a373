-- Tables that stand in several attributes are read as one.
use Rattle.std.proofs.Common.{◌≡◌, ℕ, zero, suc, ◌≤◌, List, [], ◌∷◌, length, map, take, drop, refl, sym, ◌∙◌, ap, subst, arith, length-drop}
use Rattle.std.specs.List.{AllByRecursion}
use Rattle.std.proofs.lemmas.List.{map-append, take-append-drop}
use Rattle.std.proofs.lemmas.Simd.{map-map}
use Rattle.jc_bytes.specs.Counted.{counted}
use Rattle.jc_bytes.specs.Grammar.{Grammar}
use Rattle.jc_methods.specs.VerificationTypes.{TypeStateAt}
use Rattle.jc_frames.specs.FullFrames.{Places}
use Rattle.jc_pool.specs.Pool.{PoolValue}
use Rattle.jc_class.specs.declared.class_file.Attribute.{Attribute}
use Rattle.jc_body.specs.Attributes.{AreEntries}
use Rattle.jc_instrument_code.specs.CodeText.{all_parts, attribute, counted_text, frame_attributes, parts_of, table_attributes}
use Rattle.jc_instrument_code.specs.Given.{IsNamedAt}
use Rattle.jc_instrument_reread.specs.WrittenCode.{IsFramesName, frames_name}
use Rattle.jc_instrument_reread.proofs.EntryTextLaws.{counted_is}
use Rattle.jc_instrument_reread.proofs.NamedLaws.{IsNamed}

-- ---- lists

module _ {X : Type 0} (P : X → Type 0) where
  all_taken : (n : ℕ) (xs : List X) → AllByRecursion P xs → AllByRecursion P (take n xs)
  all_taken zero xs all = tt
  all_taken (suc n) [] all = tt
  all_taken (suc n) (x ∷ xs) all = (all.0, all_taken n xs all.1)

  all_dropped : (n : ℕ) (xs : List X) → AllByRecursion P xs → AllByRecursion P (drop n xs)
  all_dropped zero xs all = all
  all_dropped (suc n) [] all = tt
  all_dropped (suc n) (x ∷ xs) all = all_dropped n xs all.1

few_taken : {X : Type 0} (n : ℕ) (xs : List X) → length (take n xs) ≤ n
few_taken zero xs = omega arith
few_taken (suc n) [] = omega arith
few_taken (suc n) (x ∷ xs) = let few = few_taken n xs in omega (arith, few)

-- ---- parts

module _ {X Y : Type 0} (g : Grammar Y) (text : X → List ℕ) (f : X → Y) where
  abbrev Each : X → Type 0
  Each x = g.Text (text x) (f x)

  -- the texts of the parts of a list hold all items, in their order
  parts_entries : (n : ℕ) (xs : List X) → length xs ≤ n → AllByRecursion Each xs
      → AreEntries (counted g) (map (counted_text text) (parts_of n xs)) (map f xs)
  parts_entries zero [] le all = refl
  parts_entries zero (x ∷ xs) le all = absurd (omega (arith, le))
  parts_entries (suc n) [] le all = refl
  parts_entries (suc n) (x ∷ xs) le all =
      let part = take 65535 (x ∷ xs) in
      let rest = drop 65535 (x ∷ xs) in
      let size = length-drop 65535 (x ∷ xs) in
      let few = few_taken 65535 (x ∷ xs) in (
        map f part,
        map f rest,
        ap (map f) (sym (take-append-drop 65535 (x ∷ xs))) ∙ map-append f part rest,
        counted_is g text f part (omega (arith, few)) (all_taken Each 65535 (x ∷ xs) all),
        parts_entries n rest (omega (arith, size, le)) (all_dropped Each 65535 (x ∷ xs) all),
      )

  part_bodies : (name : ℕ) (xs : List X) → map (λ a. a.body) (table_attributes name text xs) ≡ map (counted_text text) (all_parts xs)
  part_bodies name xs = map-map (λ (a : Attribute). a.body) (λ part. attribute name (counted_text text part)) (all_parts xs)

  -- the attributes of a table hold its entries
  pub table_entries : (name : ℕ) (xs : List X) → AllByRecursion Each xs
      → AreEntries (counted g) (map (λ a. a.body) (table_attributes name text xs)) (map f xs)
  table_entries name xs all =
      subst (λ (l : List (List ℕ)). AreEntries (counted g) l (map f xs)) (sym (part_bodies name xs)) (parts_entries (length xs) xs (omega arith) all)

-- ---- their names

module _ (pool : PoolValue) (name : List ℕ) where
  -- each attribute of a table has its name
  pub table_named : {X : Type 0} (place : ℕ) (text : X → List ℕ) (xs : List X) → IsNamedAt pool name xs place
      → AllByRecursion (IsNamed pool name) (table_attributes place text xs)
  table_named place text [] named = tt
  table_named {X} place text (x ∷ xs) named = each (all_parts (x ∷ xs))
    where
      each : (parts : List (List X)) → AllByRecursion (IsNamed pool name) (map (λ part. attribute place (counted_text text part)) parts)
      each [] = tt
      each (part ∷ parts) = (named.there, each parts)

-- and so has that of frames
pub frames_named : (pool : PoolValue) (place : ℕ) (p : Places) (frames : List TypeStateAt) → IsFramesName pool frames place
    → AllByRecursion (IsNamed pool frames_name) (frame_attributes place p frames)
frames_named pool place p [] named = tt
frames_named pool place p (f ∷ frames) named = (named, tt)
