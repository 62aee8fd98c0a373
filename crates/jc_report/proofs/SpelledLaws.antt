-- The text that a name spells, as a report shows it.
use Rattle.std.proofs.Common.{◌≡◌, IsSomeAnd, inl, inr, ℕ, zero, suc, ◌+◌, ◌<◌, ◌≤◌, Bool, true, false, cond, ◌&&◌, ◌/◌, ◌%◌, nat_lt, List, [], ◌∷◌, ◌++◌, length, Option, Some, None, Result, Ok, Err, refl, sym, ap, ◌∙◌, subst, arith}
use Rattle.std.specs.List.{flat_map}
use Rattle.std.specs.Option.{unwrap_or, option_map}
use Rattle.std.specs.Str.{encode_utf8_all}
use Rattle.std.specs.Char.Utf16.{has_unpaired_surrogate, utf16_lossy_chars}
use Rattle.std.specs.Prelude.{option_and_then}
use Rattle.std.proofs.lemmas.Option.{same_Some}
use Rattle.jc_bytes.specs.Deciding.{no_bytes}
use Rattle.jc_bytes.specs.Modified.{unit_at, unit_bytes}
use Rattle.jc_bytes.proofs.ModifiedLaws.{Spelled, unit_found, unit_again, no_unit}
use Rattle.jc_pool.specs.Text.{SpellsUnits, SpellsText, IsTextOf, AreUnitsOf}
use Rattle.jc_pool.proofs.TextLaws.{text_found, only_text, no_text}
use Rattle.jc_report.specs.Spelled.{IsShown, more_units, units_of, text_of_units, text_of, shown}

-- ---- units

small_unit : (t s : Bool) (a b c p q r : ℕ) (rest : List ℕ) → length rest < length (cond t (a ∷ []) (cond s (b ∷ c ∷ []) (p ∷ q ∷ r ∷ [])) ++ rest)
small_unit true s a b c p q r rest = omega arith
small_unit false true a b c p q r rest = omega arith
small_unit false false a b c p q r rest = omega arith

-- a unit takes a byte
unit_takes : (u : ℕ) (rest : List ℕ) → length rest < length (unit_bytes u ++ rest)
unit_takes u rest = small_unit (nat_lt 0 u && nat_lt u 128) (nat_lt u 2048) u (192 + u / 64) (128 + u % 64) (224 + u / 4096) (128 + u / 64 % 64) (128 + u % 64) rest

none_there : (bytes : List ℕ) (us : List ℕ) → unit_at bytes ≡ None → 0 < length bytes → SpellsUnits bytes us → ⊥
none_there bytes [] e some s = omega (arith, some, ap length s.parts)
none_there bytes (u ∷ us) e some s = no_unit bytes e u (flat_map unit_bytes us) s.small.0 s.parts

more_are : (bytes : List ℕ) (read : ℕ × List ℕ) (o : Option (List ℕ)) → Spelled bytes read → AreUnitsOf read.1 o → AreUnitsOf bytes (option_map (λ units. read.0 ∷ units) o)
more_are bytes read (Some us) spelled s = record { small = (spelled.0, s.small); parts = spelled.1 ∙ ap (λ l. unit_bytes read.0 ++ l) s.parts }
more_are bytes read None spelled none = behind
  where
    behind : (us : List ℕ) → SpellsUnits bytes us → ⊥
    behind [] s = let lt = unit_takes read.0 read.1 in omega (arith, lt, ap length (sym spelled.1 ∙ s.parts))
    behind (u ∷ us) s =
        let again = same_Some read (u, flat_map unit_bytes us) (sym (ap unit_at spelled.1 ∙ unit_again read.0 read.1 spelled.0) ∙ ap unit_at s.parts
        ∙ unit_again u (flat_map unit_bytes us) s.small.0) in
        none us (record { small = s.small.1; parts = ap (λ (r : ℕ × List ℕ). r.1) again })

units_are : (n : ℕ) (bytes : List ℕ) → length bytes ≤ n → AreUnitsOf bytes (units_of n bytes)
units_are zero [] le = record { small = tt; parts = refl }
units_are zero (b ∷ bytes) le = absurd (omega arith)
units_are (suc n) bytes le = by (units_are n) (unit_at bytes) refl
  where
    nothing : (whole : List ℕ) → unit_at whole ≡ None → AreUnitsOf whole (cond (no_bytes whole) (Some ([])) None)
    nothing [] e = record { small = tt; parts = refl }
    nothing (b ∷ whole) e = λ us s. none_there (b ∷ whole) us e (omega arith) s

    by : ((rest : List ℕ) → length rest ≤ n → AreUnitsOf rest (units_of n rest)) → (o : Option (ℕ × List ℕ)) → unit_at bytes ≡ o → AreUnitsOf bytes (more_units (units_of n) bytes o)
    by again None e = nothing bytes e
    by again (Some read) e =
        let spelled = unit_found bytes read e in
        let lt = unit_takes read.0 read.1 in
        let shorter : length read.1 ≤ n = omega (arith, lt, ap length spelled.1, le) in
        more_are bytes read (units_of n read.1) spelled (again read.1 shorter)

-- ---- texts

-- what reading UTF-16 gives of these units
abbrev utf16_by : Bool → List ℕ → Result (List ℕ) (Unit {0})
utf16_by true units = Err tt
utf16_by false units = Ok (encode_utf8_all (utf16_lossy_chars units))

text_is : (bytes : List ℕ) → IsTextOf bytes (text_of bytes)
text_is bytes = by (units_of (length bytes) bytes) (units_are (length bytes) bytes (omega arith))
  where
    spelled_text : (units : List ℕ) (t : Bool) → has_unpaired_surrogate units ≡ t → SpellsUnits bytes units → IsTextOf bytes (cond t None (Some (encode_utf8_all (utf16_lossy_chars units))))
    spelled_text units true e s = text_found (λ text. text) bytes units s (utf16_by true units) None refl (tt, sym e)
    spelled_text units false e s = text_found (λ text. text) bytes units s (utf16_by false units) (Some (encode_utf8_all (utf16_lossy_chars units))) refl (refl, sym e)

    by : (o : Option (List ℕ)) → AreUnitsOf bytes o → IsTextOf bytes (option_and_then text_of_units o)
    by None none = no_text (λ (units : List ℕ). units) None bytes refl none
    by (Some units) s = spelled_text units (has_unpaired_surrogate units) refl s

pub name_shown : (name : List ℕ) → IsShown name (shown name)
unfolding shown
name_shown name = by (text_of name) (text_is name)
  where
    by : (o : Option (List ℕ)) → IsTextOf name o → IsShown name (unwrap_or o name)
    by None none = inr (none, refl)
    by (Some text) is = inl is

-- ---- one text

-- what spells characters has their text
text_told : (bytes chars : List ℕ) → SpellsText bytes chars → text_of bytes ≡ Some (encode_utf8_all chars)
text_told bytes chars text = by (units_of (length bytes) bytes) (units_are (length bytes) bytes (omega arith))
  where
    some_is : (found : Option (List ℕ)) → IsSomeAnd found (λ s. s ≡ encode_utf8_all chars) → found ≡ Some (encode_utf8_all chars)
    some_is None none = absurd none
    some_is (Some s) e = ap Some e

    by_units : (units : List ℕ) (t : Bool) → has_unpaired_surrogate units ≡ t → SpellsUnits bytes units → cond t None (Some (encode_utf8_all (utf16_lossy_chars units))) ≡ Some (encode_utf8_all chars)
    by_units units true e s = some_is None (only_text (λ text. text) bytes units s (utf16_by true units) None refl (tt, sym e) chars text)
    by_units units false e s = some_is (Some (encode_utf8_all (utf16_lossy_chars units)))
        (only_text (λ text. text) bytes units s (utf16_by false units) (Some (encode_utf8_all (utf16_lossy_chars units))) refl (refl, sym e) chars text)

    by : (o : Option (List ℕ)) → AreUnitsOf bytes o → option_and_then text_of_units o ≡ Some (encode_utf8_all chars)
    by None none = absurd (no_text (λ (units : List ℕ). units) None bytes refl none chars text)
    by (Some units) s = by_units units (has_unpaired_surrogate units) refl s

pub one_shown : (name text other : List ℕ) → IsShown name text → IsShown name other → text ≡ other
unfolding shown
one_shown name text other p q = is text p ∙ sym (is other q)
  where
    without : (o : Option (List ℕ)) → IsTextOf name o → IsTextOf name None → unwrap_or o name ≡ name
    without None none nothing = refl
    without (Some text) some nothing = absurd (nothing some.0 some.1)

    is : (text : List ℕ) → IsShown name text → text ≡ shown name
    is text (inl spelled) = spelled.2 ∙ sym (ap (λ o. unwrap_or o name) (text_told name spelled.0 spelled.1))
    is text (inr kept) = kept.1 ∙ sym (without (text_of name) (text_is name) kept.0)

-- ---- what a reading of the text finds

pub shown_text : {S : Type 0} (bytes_of : S → List ℕ) (name : List ℕ) (found : Option S) (text : S) → found ≡ Some text → IsTextOf name (option_map bytes_of found) → bytes_of text ≡ shown name
shown_text bytes_of name found text is spelled =
    one_shown name (bytes_of text) (shown name) (inl (subst (λ o. IsTextOf name (option_map bytes_of o)) is spelled)) (name_shown name)

pub shown_bytes : {S : Type 0} (bytes_of : S → List ℕ) (name : List ℕ) (found : Option S) → found ≡ None → IsTextOf name (option_map bytes_of found) → name ≡ shown name
shown_bytes bytes_of name found is spelled =
    one_shown name name (shown name) (inr (subst (λ o. IsTextOf name (option_map bytes_of o)) is spelled, refl)) (name_shown name)
