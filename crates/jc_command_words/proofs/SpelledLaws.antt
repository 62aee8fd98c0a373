-- Words spell what clap found, and that only.
use Rattle.std.proofs.Common.{◌≡◌, ◌∙◌, ap, ap₂, sym, subst, refl, Bool, true, false, List, [], ◌∷◌, ◌++◌, map, codes, length, length-append, Option, Some, None, arith, append_assoc, if◌then◌else◌}
use Rattle.std.proofs.lemmas.Slice.Eq.{bytes_eq-Decides}
use Rattle.std.proofs.lemmas.Bool.{and_parts}
use Rattle.std.specs.List.{flat_map, list_all, filter, AllByRecursion, IsDistinct}
use Rattle.std.specs.Str.{bytes_eq}
use Rattle.clap.specs.Facts.{Entry}
use Rattle.clap.specs.Walk.{Row, first_of, has_row, row_of, rows_of}
use Rattle.clap.specs.Matches.{first_value}
use Rattle.clap.specs.declared.parser.matches.Found.{Found}
use Rattle.clap.proofs.WalkLemmas.{first_value-rows}
use Rattle.jc_command_words.specs.Words.{Use, Word, is_flag, is_plain, value_words, use_words, tail_words, rest_words}
use Rattle.jc_command_words.specs.Scan.{Scan, added}
use Rattle.jc_command_words.specs.Spelled.{joined_word, named_word, is_option_id, named_at, options_found, spelled, spelled_option, spelled_use, tail_at, use_at, value_at, with_value}
use Rattle.jc_command_words.proofs.BoolLaws.{either-false}
use Rattle.jc_command_words.proofs.ScanLaws.{Spells, SpellsIf, added_spells}
use Rattle.jc_command_words.proofs.WalkLaws.{call_rows, file_rows, not_dashes, row_of_use}

-- ---- what is spelled is the words

tail_spells : (words : List Word) → Spells (tail_at words) words
tail_spells [] = refl
tail_spells (w ∷ words) = by (bytes_eq w (45 ∷ 45 ∷ [])) refl
  where
    by : (b : Bool) → bytes_eq w (45 ∷ 45 ∷ []) ≡ b
        → Spells (if b then record { uses = []; dash = true; files = words } else record { uses = []; dash = false; files = w ∷ words }) (w ∷ words)
    by true e = ap (λ x. x ∷ words) ((bytes_eq-Decides w (45 ∷ 45 ∷ [])).0 e)
    by false e = refl

-- the words are those of the use, and the words behind it
abbrev Begins : Word → Word → List Word → Option (Bool × List Word) → Type 0
Begins name value words None = Unit {0}
Begins name value words (Some p) = words ≡ use_words (record { name = name; value = value; joined = p.0 }) ++ p.1

-- a name in a word of its own, behind which the words of its value stand
named_begins : (name value w : Word) (flag : Bool) (words behind : List Word) → is_flag name ≡ flag → w ≡ named_word name
    → words ≡ value_words flag value ++ behind → w ∷ words ≡ use_words (record { name = name; value = value; joined = false }) ++ behind
named_begins name value w flag words behind f e h =
    ap₂ (λ (a : Word) (l : List Word). a ∷ l) e h ∙ ap (λ b. named_word name ∷ (value_words b value ++ behind)) (sym f)

value_begins : (name value w : Word) (words : List Word) → is_flag name ≡ false → w ≡ named_word name → Begins name value (w ∷ words) (value_at value words)
value_begins name value w [] f e = tt
value_begins name value w (x ∷ words) f e = by (bytes_eq x value) refl
  where
    by : (b : Bool) → bytes_eq x value ≡ b → Begins name value (w ∷ x ∷ words) (if b then Some (false, words) else None)
    by true h = named_begins name value w false (x ∷ words) words f e (ap (λ (a : Word). a ∷ words) ((bytes_eq-Decides x value).0 h))
    by false h = tt

either_begins : (name value w : Word) (flag : Bool) (words : List Word) → is_flag name ≡ flag → w ≡ named_word name
    → Begins name value (w ∷ words) (named_at flag value words)
either_begins name value w true words f e = named_begins name value w true words words f e refl
either_begins name value w false words f e = value_begins name value w words f e

use_begins : (name value : Word) (words : List Word) → Begins name value words (use_at name value words)
use_begins name value [] = tt
use_begins name value (w ∷ words) = by (bytes_eq w (joined_word name value)) (bytes_eq w (named_word name)) refl refl
  where
    by : (a b : Bool) → bytes_eq w (joined_word name value) ≡ a → bytes_eq w (named_word name) ≡ b
        → Begins name value (w ∷ words) (if a then Some (true, words) else if b then named_at (is_flag name) value words else None)
    by true b h k = ap (λ x. x ∷ words) ((bytes_eq-Decides w (joined_word name value)).0 h)
    by false true h k = either_begins name value w (is_flag name) words refl ((bytes_eq-Decides w (named_word name)).0 k)
    by false false h k = tt

module _ (behind : List Word → Option Scan) (spells : (words : List Word) → SpellsIf (behind words) words) (name : Word) where
  use_spells : (value : Word) (words : List Word) (o : Option (Bool × List Word)) → Begins name value words o
      → SpellsIf (spelled_use o name value behind) words
  use_spells value words None h = tt
  use_spells value words (Some p) h =
      let u : Use = record { name = name; value = value; joined = p.0 } in
      subst (SpellsIf (added u (behind p.1))) (sym h) (added_spells u (behind p.1) p.1 (spells p.1))

  option_spells : (value : Option Word) (words : List Word) → SpellsIf (spelled_option name value words behind) words
  option_spells None words = tt
  option_spells (Some value) words = use_spells value words (use_at name value words) (use_begins name value words)

pub spelled_spells : (options : List (Word × Option Word)) (words : List Word) → SpellsIf (spelled options words) words
spelled_spells [] words = tail_spells words
spelled_spells (p ∷ options) words = option_spells (spelled options) (spelled_spells options) p.0 p.1 words

-- ---- uses and files are found in their words

same_word : (w : Word) → bytes_eq w w ≡ true
same_word w = (bytes_eq-Decides w w).1 refl

not_joined : (name value : Word) → bytes_eq (named_word name) (joined_word name value) ≡ false
not_joined name value = by (bytes_eq (named_word name) (joined_word name value)) refl
  where
    by : (b : Bool) → bytes_eq (named_word name) (joined_word name value) ≡ b → b ≡ false
    by true e =
        let same = ap length ((bytes_eq-Decides (named_word name) (joined_word name value)).0 e) in
        absurd (omega (arith, same, length-append name (61 ∷ value)))
    by false e = refl

use_found : (u : Use) (words : List Word) → use_at u.name u.value (use_words u ++ words) ≡ Some (u.joined, words)
use_found u words = by u.joined (is_flag u.name) refl
  where
    by : (b flag : Bool) → is_flag u.name ≡ flag
        → use_at u.name u.value ((if b then joined_word u.name u.value ∷ [] else named_word u.name ∷ value_words flag u.value) ++ words) ≡ Some (b, words)
    by true flag f = rw (same_word (joined_word u.name u.value)) refl
    by false true f = rw (not_joined u.name u.value, same_word (named_word u.name), f) refl
    by false false f = rw (not_joined u.name u.value, same_word (named_word u.name), f, same_word u.value) refl

tail_found : (dash : Bool) (files : List Word) → list_all is_plain files ≡ true → tail_at (tail_words dash files) ≡ record { uses = []; dash = dash; files = files }
tail_found true files plain = refl
tail_found false [] plain = refl
tail_found false (f ∷ fs) plain = rw (not_dashes f (and_parts (is_plain f) (list_all is_plain fs) plain).0) refl

abbrev pub option_of : Use → Word × Option Word
option_of u = (u.name, Some u.value)

pub spelled_finds : (uses : List Use) (dash : Bool) (files : List Word) → list_all is_plain files ≡ true
    → spelled (map option_of uses) (rest_words uses dash files) ≡ Some (record { uses = uses; dash = dash; files = files })
spelled_finds [] dash files plain = ap Some (tail_found dash files plain)
spelled_finds (u ∷ us) dash files plain =
    let behind = spelled (map option_of us) in
    ap (λ words. spelled_use (use_at u.name u.value words) u.name u.value behind) (append_assoc (use_words u) (flat_map use_words us) (tail_words dash files))
    ∙ ap (λ o. spelled_use o u.name u.value behind) (use_found u (rest_words us dash files))
    ∙ ap (added u) (spelled_finds us dash files plain)

-- ---- the options that were found

ids_of_rows : (entries : List Entry) → map (λ e. e.0.now) entries ≡ map (λ r. r.id) (map row_of entries)
ids_of_rows [] = refl
ids_of_rows (e ∷ entries) = ap (λ t. e.0.now ∷ t) (ids_of_rows entries)

option_ids : (uses : List Use) (files : List Word) → has_row (codes "FILE") (map row_of_use uses) ≡ false
    → filter is_option_id (map (λ r. r.id) (call_rows uses files)) ≡ map (λ u. u.name) uses
option_ids [] [] h = refl
option_ids [] (f ∷ fs) h = refl
option_ids (u ∷ us) files h =
    let both = either-false (bytes_eq u.name (codes "FILE")) (has_row (codes "FILE") (map row_of_use us)) h in
    rw both.0 (ap (λ t. u.name ∷ t) (option_ids us files both.1))

abbrev HasValues : List Row → List Use → Type 0
HasValues rows uses = AllByRecursion (λ u. first_of u.name rows ≡ Some u.value) uses

behind_row : (u : Use) (rows : List Row) (uses : List Use) → AllByRecursion (λ y. bytes_eq u.name y ≡ false) (map (λ u. u.name) uses) → HasValues rows uses
    → HasValues (row_of_use u ∷ rows) uses
behind_row u rows [] other h = tt
behind_row u rows (x ∷ xs) other h = (rw other.0 h.0, behind_row u rows xs other.1 h.1)

rows_have : (uses : List Use) (rows : List Row) → IsDistinct bytes_eq (map (λ u. u.name) uses) → HasValues (map row_of_use uses ++ rows) uses
unfolding IsDistinct
rows_have [] rows once = tt
rows_have (u ∷ us) rows once = (rw (same_word u.name) refl, behind_row u (map row_of_use us ++ rows) us once.0 (rows_have us rows once.1))

each_found : (f : Found) (rows : List Row) → ((id : Word) → first_value f id ≡ first_of id rows) → (uses : List Use) → HasValues rows uses
    → map (with_value f) (map (λ u. u.name) uses) ≡ map option_of uses
each_found f rows e [] h = refl
each_found f rows e (u ∷ us) h = ap₂ {C = List (Word × Option Word)} (λ o t. (u.name, o) ∷ t) (e u.name ∙ h.0) (each_found f rows e us h.1)

pub options_are : (f : Found) (uses : List Use) (files : List Word) → rows_of f ≡ call_rows uses files → has_row (codes "FILE") (map row_of_use uses) ≡ false
    → IsDistinct bytes_eq (map (λ u. u.name) uses) → options_found f ≡ map option_of uses
options_are f uses files rows no_file once =
    ap (λ ids. map (with_value f) (filter is_option_id ids)) (ids_of_rows f.entries.items ∙ ap (map (λ r. r.id)) rows)
    ∙ ap (map (with_value f)) (option_ids uses files no_file)
    ∙ each_found f (call_rows uses files) (λ id. first_value-rows f id ∙ ap (first_of id) rows) uses (rows_have uses (file_rows files) once)
