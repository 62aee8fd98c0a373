-- A scan finds the spelling of words, and only that.
use Rattle.std.proofs.Common.{◌≡◌, ◌∙◌, ap, ap₂, sym, subst, refl, ℕ, suc, ◌+◌, ◌<◌, Bool, true, false, not, ◌==◌, ◌&&◌, ◌||◌, List, [], ◌∷◌, ◌++◌, map, length, Option, Some, None, if◌then◌else◌, arith, append_assoc, option_map}
use Rattle.std.proofs.Common.{take, drop}
use Rattle.std.proofs.Math.Seq.{take-append_seam, drop-append-add}
use Rattle.std.proofs.lemmas.List.Sums.{split_at_first, passes_at_first}
use Rattle.std.proofs.lemmas.Bool.Decides.{Decides-eqb}
use Rattle.std.proofs.lemmas.Bool.{and_parts, not-true}
use Rattle.std.specs.List.{flat_map, list_any, list_all, before_first, after_first, position_or_len}
use Rattle.jc_command_words.specs.Words.{Use, Word, is_flag, is_plain, is_valued, is_empty, value_words, use_words, tail_words, rest_words}
use Rattle.jc_command_words.specs.Scan.{Scan, Kind, dashes, named, joined, other, added, body_kind, is_equals, kind_of_word, scan, scan_kind}

-- ---- what a kind says of the word

-- the word that has this kind
abbrev Spelled : Kind → Word → Type 0
Spelled dashes w = w ≡ 45 ∷ 45 ∷ []
Spelled (named n) w = w ≡ 45 ∷ 45 ∷ n
Spelled (joined n v) w = w ≡ 45 ∷ 45 ∷ (n ++ 61 ∷ v)
Spelled other w = Unit {0}

first_within : (p : ℕ → Bool) (xs : List ℕ) → list_any p xs ≡ true → position_or_len p xs < length xs
first_within p [] h = cc
first_within p (x ∷ xs) h = by (p x) refl h (first_within p xs)
  where
    by : (b : Bool) → p x ≡ b → (b || list_any p xs) ≡ true → (list_any p xs ≡ true → position_or_len p xs < length xs) → position_or_len p (x ∷ xs) < length (x ∷ xs)
    by true e h rest = rw e (omega arith)
    by false e h rest = rw e (omega (arith, rest h))

joined_text : (body : Word) → list_any is_equals body ≡ true → body ≡ before_first is_equals body ++ 61 ∷ after_first is_equals body
joined_text body h =
    let within = first_within is_equals body h in
    let sign = (Decides-eqb _ _).0 (passes_at_first is_equals body 0 within) in
    split_at_first is_equals body 0 within ∙ ap (λ x. before_first is_equals body ++ x ∷ after_first is_equals body) sign

body_spelled : (body : Word) → Spelled (body_kind body) (45 ∷ 45 ∷ body)
body_spelled [] = refl
body_spelled (x ∷ xs) = by (list_any is_equals (x ∷ xs)) refl
  where
    by : (b : Bool) → list_any is_equals (x ∷ xs) ≡ b
        → Spelled (if b then joined (before_first is_equals (x ∷ xs)) (after_first is_equals (x ∷ xs)) else named (x ∷ xs)) (45 ∷ 45 ∷ x ∷ xs)
    by true e = ap (λ t. 45 ∷ 45 ∷ t) (joined_text (x ∷ xs) e)
    by false e = refl

word_spelled : (w : Word) → Spelled (kind_of_word w) w
word_spelled [] = tt
word_spelled (a ∷ []) = tt
word_spelled (a ∷ b ∷ body) = by (a == 45) (b == 45) refl refl
  where
    by : (p q : Bool) → (a == 45) ≡ p → (b == 45) ≡ q → Spelled (if p && q then body_kind body else other) (a ∷ b ∷ body)
    by true true e f = subst (λ w. Spelled (body_kind body) w) (sym (ap₂ (λ x y. x ∷ y ∷ body) ((Decides-eqb a 45).0 e) ((Decides-eqb b 45).0 f))) (body_spelled body)
    by true false e f = tt
    by false q e f = tt

-- ---- a scan spells the words

abbrev pub before : Option Word → List Word → List Word
before None words = words
before (Some n) words = (45 ∷ 45 ∷ n) ∷ words

abbrev pub Spells : Scan → List Word → Type 0
Spells s words = words ≡ rest_words s.uses s.dash s.files

abbrev pub SpellsIf : Option Scan → List Word → Type 0
SpellsIf None words = Unit {0}
SpellsIf (Some s) words = Spells s words

pub added_spells : (u : Use) (o : Option Scan) (words : List Word) → SpellsIf o words → SpellsIf (added u o) (use_words u ++ words)
added_spells u None words h = tt
added_spells u (Some s) words h = ap (λ t. use_words u ++ t) h ∙ sym (append_assoc (use_words u) (flat_map use_words s.uses) (tail_words s.dash s.files))

-- an option that waits for its value is no flag
abbrev Waits : Option Word → Type 0
Waits None = Unit {0}
Waits (Some n) = is_flag n ≡ false

-- a use of two words, or of a flag
two_words : (n v : Word) (flag : Bool) → is_flag n ≡ flag → use_words (record { name = n; value = v; joined = false }) ≡ (45 ∷ 45 ∷ n) ∷ value_words flag v
two_words n v flag e = ap (λ b. (45 ∷ 45 ∷ n) ∷ value_words b v) e

kind_spells : (k : Kind) (w : Word) (rest : List Word) (next : Option Word → Option Scan) → Spelled k w
    → ((p : Option Word) → Waits p → SpellsIf (next p) (before p rest)) → SpellsIf (scan_kind k w rest next) (w ∷ rest)
kind_spells dashes w rest next e h = ap (λ x. x ∷ rest) e
kind_spells (named n) w rest next e h = subst (λ x. SpellsIf (scan_kind (named n) w rest next) (x ∷ rest)) (sym e) (by (is_flag n) refl)
  where
    by : (b : Bool) → is_flag n ≡ b
        → SpellsIf (if b then added (record { name = n; value = []; joined = false }) (next None) else next (Some n)) ((45 ∷ 45 ∷ n) ∷ rest)
    by true flag =
        let u : Use = record { name = n; value = []; joined = false } in
        subst (λ l. SpellsIf (added u (next None)) (l ++ rest)) (two_words n [] true flag) (added_spells u (next None) rest (h None tt))
    by false no_flag = h (Some n) no_flag
kind_spells (joined n v) w rest next e h =
    let u : Use = record { name = n; value = v; joined = true } in
    subst (λ x. SpellsIf (added u (next None)) (x ∷ rest)) (sym e) (added_spells u (next None) rest (h None tt))
kind_spells other w rest next e h = refl

each_spells : (p : Option Word) (words : List Word) → Waits p → SpellsIf (scan p words) (before p words)
unfolding scan
each_spells None [] waits = refl
each_spells (Some n) [] waits = tt
each_spells (Some n) (v ∷ rest) waits =
    let u : Use = record { name = n; value = v; joined = false } in
    subst (λ l. SpellsIf (added u (scan None rest)) (l ++ rest)) (two_words n v false waits) (added_spells u (scan None rest) rest (each_spells None rest tt))
each_spells None (w ∷ rest) waits = kind_spells (kind_of_word w) w rest (λ p. scan p rest) (word_spelled w) (λ p. each_spells p rest)

pub scan_spells : (words : List Word) → SpellsIf (scan None words) words
scan_spells words = each_spells None words tt

-- ---- a spelling is found again

one_more : (k : ℕ) → 1 + k ≡ suc k
one_more k = omega arith

equals_first : (n v : Word) → list_any is_equals n ≡ false → position_or_len is_equals (n ++ 61 ∷ v) ≡ length n
equals_first [] v h = refl
equals_first (x ∷ xs) v h = by (is_equals x) refl h (equals_first xs v)
  where
    by : (b : Bool) → is_equals x ≡ b → (b || list_any is_equals xs) ≡ false → (list_any is_equals xs ≡ false → position_or_len is_equals (xs ++ 61 ∷ v) ≡ length xs)
        → position_or_len is_equals (x ∷ xs ++ 61 ∷ v) ≡ length (x ∷ xs)
    by true e h rest = cc
    by false e h rest = rw (e, rest h) (omega arith)

has_equals : (n v : Word) → list_any is_equals (n ++ 61 ∷ v) ≡ true
has_equals [] v = refl
has_equals (x ∷ xs) v = by (is_equals x) (has_equals xs v)
  where
    by : (b : Bool) → list_any is_equals (xs ++ 61 ∷ v) ≡ true → (b || list_any is_equals (xs ++ 61 ∷ v)) ≡ true
    by true h = refl
    by false h = h

before_equals : (n v : Word) → list_any is_equals n ≡ false → before_first is_equals (n ++ 61 ∷ v) ≡ n
before_equals n v h = ap (λ k. take k (n ++ 61 ∷ v)) (equals_first n v h) ∙ take-append_seam n (61 ∷ v)

after_equals : (n v : Word) → list_any is_equals n ≡ false → after_first is_equals (n ++ 61 ∷ v) ≡ v
after_equals n v h = ap (λ k. drop (k + 1) (n ++ 61 ∷ v)) (equals_first n v h) ∙ drop-append-add n (61 ∷ v) 1

-- a name of an option: not empty, and without `=`
abbrev pub is_name : Word → Bool
is_name [] = false
is_name (x ∷ xs) = not (list_any is_equals (x ∷ xs))

named_kind : (n : Word) → is_name n ≡ true → kind_of_word (45 ∷ 45 ∷ n) ≡ named n
named_kind [] h = cc
named_kind (x ∷ xs) h = rw (not-true _ h) refl

body_joined : (body : Word) → list_any is_equals body ≡ true → body_kind body ≡ joined (before_first is_equals body) (after_first is_equals body)
body_joined [] h = cc
body_joined (x ∷ xs) h = rw h refl

joined_kind : (n v : Word) → is_name n ≡ true → kind_of_word (45 ∷ 45 ∷ (n ++ 61 ∷ v)) ≡ joined n v
joined_kind [] v h = cc
joined_kind (x ∷ xs) v h =
    let none = not-true _ h in
    body_joined (x ∷ xs ++ 61 ∷ v) (has_equals (x ∷ xs) v) ∙ ap₂ joined (before_equals (x ∷ xs) v none) (after_equals (x ∷ xs) v none)

plain_kind : (f : Word) → is_plain f ≡ true → kind_of_word f ≡ other
plain_kind [] h = cc
plain_kind (a ∷ []) h = refl
plain_kind (a ∷ b ∷ body) h = rw (not-true _ h) refl

files_found : (f : Word) (fs : List Word) → is_plain f ≡ true → scan None (f ∷ fs) ≡ Some (record { uses = []; dash = false; files = f ∷ fs })
unfolding scan
files_found f fs h = rw (plain_kind f h) refl

-- a flag that isn't joined to a value has none
abbrev pub IsBare : Use → Type 0
IsBare u = is_flag u.name ≡ true → u.joined ≡ false → u.value ≡ []

empty : (w : Word) → is_empty w ≡ true → w ≡ []
empty [] h = refl
empty (x ∷ xs) h = cc

bare : (u : Use) → is_valued u ≡ true → IsBare u
bare u h flag own =
    let both = subst (λ b. (if b then not u.joined && is_empty u.value else is_plain u.value) ≡ true) flag h in
    empty u.value (and_parts (not u.joined) (is_empty u.value) both).1

use_found : (u : Use) → is_name u.name ≡ true → IsBare u → (words : List Word) → scan None (use_words u ++ words) ≡ added u (scan None words)
unfolding scan
use_found u h none words = by u.joined (is_flag u.name) refl refl
  where
    by : (b flag : Bool) → u.joined ≡ b → is_flag u.name ≡ flag
        → scan None ((if b then (45 ∷ 45 ∷ (u.name ++ 61 ∷ u.value)) ∷ [] else (45 ∷ 45 ∷ u.name) ∷ value_words flag u.value) ++ words)
        ≡ added (record { name = u.name; value = u.value; joined = b }) (scan None words)
    by true flag j e = rw (joined_kind u.name u.value h) refl
    by false true j e = rw (named_kind u.name h, e, none e j) refl
    by false false j e = rw (named_kind u.name h, e) refl

pub scan_finds : (uses : List Use) (dash : Bool) (f : Word) (fs : List Word) → list_all (λ u. is_name u.name) uses ≡ true → list_all is_valued uses ≡ true
    → is_plain f ≡ true → scan None (rest_words uses dash (f ∷ fs)) ≡ Some (record { uses = uses; dash = dash; files = f ∷ fs })
unfolding scan
scan_finds [] true f fs names valued plain = refl
scan_finds [] false f fs names valued plain = files_found f fs plain
scan_finds (u ∷ us) dash f fs names valued plain =
    let p = and_parts (is_name u.name) (list_all (λ u. is_name u.name) us) names in
    let v = and_parts (is_valued u) (list_all is_valued us) valued in
    ap (scan None) (append_assoc (use_words u) (flat_map use_words us) (tail_words dash (f ∷ fs)))
    ∙ use_found u p.0 (bare u v.0) (rest_words us dash (f ∷ fs)) ∙ ap (added u) (scan_finds us dash f fs p.1 v.1 plain)

-- a use alone is found again
pub scan_ends : (u : Use) → is_name u.name ≡ true → IsBare u → scan None (use_words u ++ []) ≡ Some (record { uses = u ∷ []; dash = false; files = [] })
unfolding scan
scan_ends u name none = use_found u name none []

abbrev pub prepend : List Use → Option Scan → Option Scan
prepend us = option_map {T = Scan} (λ s. record s { uses = us ++ s.uses })
