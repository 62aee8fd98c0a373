-- The units that modified UTF-8 spells, and the characters that the units spell.
use Rattle.std.proofs.Common.{◌≡◌, ◌⊎◌, inl, inr, ℕ, ◌+◌, ◌-◌, ◌/◌, ◌%◌, ◌<◌, ◌≤◌, ◌^◌, false, not, List, [], ◌∷◌, ◌++◌, length, map, Option, Some, None, is_some, Result, Ok, Err, is_err, IfOk, IsSomeAnd, refl, sym, ◌∙◌, ap, subst, arith, append_assoc}
use Rattle.std.specs.Char.{IsScalar}
use Rattle.std.specs.Char.Escape.{encode_utf16}
use Rattle.std.proofs.lemmas.List.{append-nil}
use Rattle.std.proofs.lemmas.Bool.{true≢false, lt-ltb, le-ltb, cases_lt}
use Rattle.std.proofs.lemmas.Str.{utf16_chars-nil, utf16_chars_lone, utf16_chars_pair}
use Rattle.std.proofs.str.Utf16.{IsPair}
use Rattle.std.specs.Char.Utf16.{surrogate_pair_char, lone_unit_char, utf16_chars, utf16_lossy_chars, has_unpaired_surrogate}
use Rattle.std.specs.List.{AllByRecursion, flat_map, list_any}
use Rattle.std.specs.Option.{unwrap_or, option_map}
use Rattle.std.specs.Result.{result_ok}
use Rattle.std.specs.Str.{encode_utf8_all}
use Rattle.std.proofs.lemmas.Bool.Decides.{nat_tests}
use Rattle.std.proofs.lemmas.Grind.{flat_map-append}
use Rattle.std.proofs.lemmas.Option.{same_Some}
use Rattle.jc_bytes.specs.Modified.{unit_bytes, IsModified, unit_at}
use Rattle.jc_bytes.proofs.EachLaws.{all_push}
use Rattle.jc_bytes.proofs.ModifiedLaws.{SameVerdict, next_unit, unit_again}
use Rattle.jc_bytes.proofs.OptionLaws.{some_none}
use Rattle.jc_pool.specs.Text.{SpellsUnits, SpellsText, IsTextOf, AreUnitsOf}

-- ---- units

pub record UnitsRead (whole units rest : List ℕ) : Type 0 where
  pub small : AllByRecursion (λ u. u < 2 ^ 16) units
  pub parts : whole ≡ flat_map unit_bytes units ++ rest
  pub verdict : SameVerdict whole rest

pub one_more : (whole units more rest after : List ℕ) (unit : ℕ) → more ≡ units ++ unit ∷ [] → unit < 2 ^ 16 → rest ≡ unit_bytes unit ++ after → UnitsRead whole units rest → UnitsRead whole more after
one_more whole units more rest after unit pushed fits front r = record {
  small = subst (AllByRecursion (λ u. u < 2 ^ 16)) (sym pushed) (all_push (λ u. u < 2 ^ 16) units unit r.small fits);
  parts = r.parts ∙ ap (λ (l : List ℕ). flat_map unit_bytes units ++ l) front ∙ sym whole_is;
  verdict = next_unit whole rest after unit r.verdict (sym (ap unit_at front ∙ unit_again unit after fits));
}
  where
    whole_is : flat_map unit_bytes more ++ after ≡ flat_map unit_bytes units ++ (unit_bytes unit ++ after)
    whole_is = rw (pushed, flat_map-append unit_bytes units (unit ∷ [])) (simp (append_assoc, append-nil))

pub all_read : (whole units rest : List ℕ) → length rest ≡ 0 → UnitsRead whole units rest → SpellsUnits whole units
all_read whole units [] none r = record { small = r.small; parts = r.parts ∙ append-nil (flat_map unit_bytes units) }
all_read whole units (x ∷ rest) none r = absurd (omega (arith, none))

-- something is left, and no unit stands in front of it
pub none_spelled : (whole units rest : List ℕ) → 0 < length rest → ((unit : ℕ) (after : List ℕ) → unit < 2 ^ 16 → rest ≡ unit_bytes unit ++ after → ⊥)
    → UnitsRead whole units rest → (us : List ℕ) → SpellsUnits whole us → ⊥
none_spelled whole units rest some nowhere r us spelled = by left.0 left.1 left.2
  where
    left : IsModified rest
    left = r.verdict.to (us, spelled.small, spelled.parts)

    by : (vs : List ℕ) → AllByRecursion (λ u. u < 2 ^ 16) vs → rest ≡ flat_map unit_bytes vs → ⊥
    by [] fits is = omega (arith, some, ap length is)
    by (v ∷ vs) fits is = nowhere v (flat_map unit_bytes vs) fits.0 is

-- the bytes spell one list of units
pub one_spelling : (bytes us vs : List ℕ) → SpellsUnits bytes us → SpellsUnits bytes vs → us ≡ vs
one_spelling bytes us vs p q = same us vs p.small q.small (sym p.parts ∙ q.parts)
  where
    same : (us vs : List ℕ) → AllByRecursion (λ u. u < 2 ^ 16) us → AllByRecursion (λ u. u < 2 ^ 16) vs → flat_map unit_bytes us ≡ flat_map unit_bytes vs → us ≡ vs
    same [] [] small fits is = refl
    same [] (v ∷ vs) small fits is = absurd (some_none (sym (unit_again v (flat_map unit_bytes vs) fits.0) ∙ ap unit_at (sym is)))
    same (u ∷ us) [] small fits is = absurd (some_none (sym (unit_again u (flat_map unit_bytes us) small.0) ∙ ap unit_at is))
    same (u ∷ us) (v ∷ vs) small fits is =
        let first = same_Some (u, flat_map unit_bytes us) (v, flat_map unit_bytes vs)
        (sym (unit_again u (flat_map unit_bytes us) small.0) ∙ ap unit_at is ∙ unit_again v (flat_map unit_bytes vs) fits.0) in
        let rest = same us vs small.1 fits.1 (ap (λ (read : ℕ × List ℕ). read.1) first) in
        λ i. (first i).0 ∷ rest i

-- ---- characters

scalar_ranges : (c : ℕ) → IsScalar c → (c < 0xD800) ⊎ ((0xE000 ≤ c) × (c < 0x11_0000))
scalar_ranges c is = grind (arith, nat_tests)

encoded_low : (c : ℕ) → c < 0x1_0000 → encode_utf16 c ≡ c ∷ []
encoded_low c low = rw (lt-ltb c 0x1_0000 low) refl

encoded_high : (c : ℕ) → 0x1_0000 ≤ c → encode_utf16 c ≡ (0xD800 + (c - 0x1_0000) / 0x400) ∷ (0xDC00 + (c - 0x1_0000) % 0x400) ∷ []
encoded_high c high = rw (le-ltb c 0x1_0000 high) refl

abbrev lossy : Option ℕ → ℕ
lossy o = unwrap_or o 0xFFFD

-- with a partner for each surrogate, the characters are those that the units spell
abbrev Joined : List ℕ → List (Option ℕ) → Type 0
Joined units chars = list_any (λ o. not (is_some o)) chars ≡ false → AllByRecursion IsScalar (map lossy chars) × (units ≡ flat_map encode_utf16 (map lossy chars))

lone_low : (u : ℕ) → u < 0xD800 → lone_unit_char u ≡ Some u
lone_low u low = grind (arith, nat_tests)

lone_high : (u : ℕ) → 0xE000 ≤ u → lone_unit_char u ≡ Some u
lone_high u high = grind (arith, nat_tests)

lone_none : (u : ℕ) → 0xD800 ≤ u → u < 0xE000 → lone_unit_char u ≡ None
lone_none u low high = grind (arith, nat_tests)

low_is_scalar : (u : ℕ) → u < 0xD800 → IsScalar u
low_is_scalar u low = grind (arith, nat_tests)

high_is_scalar : (u : ℕ) → 0xE000 ≤ u → u < 0x11_0000 → IsScalar u
high_is_scalar u low high = grind (arith, nat_tests)

-- a unit that is a character
joined_one : (u : ℕ) (us : List ℕ) (chars : List (Option ℕ)) → u < 0x1_0000 → IsScalar u → Joined us chars → Joined (u ∷ us) (Some u ∷ chars)
joined_one u us chars small scalar rest none =
    let r = rest none in
    ((scalar, r.0), ap (λ (l : List ℕ). u ∷ l) r.1 ∙ ap (λ (l : List ℕ). l ++ flat_map encode_utf16 (map lossy chars)) (sym (encoded_low u small)))

joined_none : (u : ℕ) (us : List ℕ) (chars : List (Option ℕ)) → Joined (u ∷ us) (None ∷ chars)
joined_none u us chars none = absurd cc

joined_lone : (u : ℕ) (us : List ℕ) (chars : List (Option ℕ)) → u < 0x1_0000 → Joined us chars → Joined (u ∷ us) (lone_unit_char u ∷ chars)
joined_lone u us chars small rest = elim (cases_lt u 0xD800) [
  | inl low ↦ subst (λ (o : Option ℕ). Joined (u ∷ us) (o ∷ chars)) (sym (lone_low u low)) (joined_one u us chars small (low_is_scalar u low) rest)
  | inr high ↦ elim (cases_lt u 0xE000) [
    | inl below ↦ subst (λ (o : Option ℕ). Joined (u ∷ us) (o ∷ chars)) (sym (lone_none u high below)) (joined_none u us chars)
    | inr above ↦ subst (λ (o : Option ℕ). Joined (u ∷ us) (o ∷ chars)) (sym (lone_high u above)) (joined_one u us chars small (high_is_scalar u above (omega (arith, small))) rest)
  ]
]

joined_pair : (u v : ℕ) (us : List ℕ) (chars : List (Option ℕ)) → IsPair u v → Joined us chars → Joined (u ∷ v ∷ us) (Some (surrogate_pair_char u v) ∷ chars)
joined_pair u v us chars pair rest none =
    let r = rest none in
    let c = surrogate_pair_char u v in
    let long : 0x1_0000 ≤ c = omega arith in
    let top : 0xD800 + (c - 0x1_0000) / 0x400 ≡ u = omega (arith, pair.0, pair.2, pair.3) in
    let end : 0xDC00 + (c - 0x1_0000) % 0x400 ≡ v = omega (arith, pair.0, pair.2, pair.3) in
    let spelled : encode_utf16 c ≡ u ∷ v ∷ [] = encoded_high c long ∙ (λ i. top i ∷ end i ∷ []) in (
      (high_is_scalar c (omega (arith, long)) (omega (arith, pair.0, pair.1, pair.2, pair.3)), r.0),
      ap (λ (l : List ℕ). u ∷ v ∷ l) r.1 ∙ ap (λ (l : List ℕ). l ++ flat_map encode_utf16 (map lossy chars)) (sym spelled),
    )

pair_or_not : (u v : ℕ) → IsPair u v ⊎ (IsPair u v → ⊥)
pair_or_not u v = elim (cases_lt u 0xD800) [
  | inl low ↦ inr (λ pair. omega (arith, low, pair.0))
  | inr a ↦ elim (cases_lt u 0xDC00) [
    | inr high ↦ inr (λ pair. omega (arith, high, pair.1))
    | inl b ↦ elim (cases_lt v 0xDC00) [
      | inl low ↦ inr (λ pair. omega (arith, low, pair.2))
      | inr c ↦ elim (cases_lt v 0xE000) [
        | inr high ↦ inr (λ pair. omega (arith, high, pair.3))
        | inl d ↦ inl (a, b, c, d)
      ]
    ]
  ]
]

joined : (units : List ℕ) → AllByRecursion (λ u. u < 2 ^ 16) units → Joined units (utf16_chars units)
joined [] small = subst (Joined []) (sym utf16_chars-nil) (λ none. (tt, refl))
joined (u ∷ []) small =
    subst (Joined (u ∷ [])) (sym (utf16_chars_lone u [] (λ pair. omega (arith, pair.2)))) (joined_lone u [] (utf16_chars []) (omega (arith, small.0)) (joined [] tt))
joined (u ∷ v ∷ us) small = elim (pair_or_not u v) [
  | inl pair ↦ subst (Joined (u ∷ v ∷ us)) (sym (utf16_chars_pair u v us pair)) (joined_pair u v us (utf16_chars us) pair (joined us small.1.1))
  | inr apart ↦ subst (Joined (u ∷ v ∷ us)) (sym (utf16_chars_lone u (v ∷ us) apart)) (joined_lone u (v ∷ us) (utf16_chars (v ∷ us)) (omega (arith, small.0)) (joined (v ∷ us) small.1))
]

-- ---- the units of characters

abbrev AllSmall : List ℕ → Type 0
AllSmall units = AllByRecursion (λ u. u < 2 ^ 16) units

-- the units of a character and of those behind it, read again
abbrev Units : List ℕ → Type 0
Units chars = AllSmall (flat_map encode_utf16 chars) × (utf16_chars (flat_map encode_utf16 chars) ≡ map (λ c. Some c) chars)

units_lone : (c : ℕ) (cs : List ℕ) → c < 0x1_0000 → lone_unit_char c ≡ Some c → ((v : ℕ) → IsPair c v → ⊥) → Units cs → Units (c ∷ cs)
units_lone c cs low lone apart u =
    let e : flat_map encode_utf16 (c ∷ cs) ≡ c ∷ flat_map encode_utf16 cs = ap (λ (l : List ℕ). l ++ flat_map encode_utf16 cs) (encoded_low c low) in (
      subst AllSmall (sym e) (omega (arith, low), u.0),
      ap utf16_chars e ∙ utf16_chars_lone c (flat_map encode_utf16 cs) (apart _) ∙ (λ i. lone i ∷ u.1 i),
    )

units_pair : (c : ℕ) (cs : List ℕ) → 0x1_0000 ≤ c → c < 0x11_0000 → Units cs → Units (c ∷ cs)
units_pair c cs low high u =
    let a = 0xD800 + (c - 0x1_0000) / 0x400 in
    let b = 0xDC00 + (c - 0x1_0000) % 0x400 in
    let e : flat_map encode_utf16 (c ∷ cs) ≡ a ∷ b ∷ flat_map encode_utf16 cs = ap (λ (l : List ℕ). l ++ flat_map encode_utf16 cs) (encoded_high c low) in
    let char : surrogate_pair_char a b ≡ c = omega (arith, low) in (
      subst AllSmall (sym e) (omega (arith, high), (omega arith, u.0)),
      ap utf16_chars e ∙ utf16_chars_pair a b (flat_map encode_utf16 cs) (omega arith, omega (arith, high), omega arith, omega arith) ∙ (λ i. Some (char i) ∷ u.1 i),
    )

units_again : (chars : List ℕ) → AllByRecursion IsScalar chars → Units chars
units_again [] scalars = (tt, utf16_chars-nil)
units_again (c ∷ cs) scalars = elim (scalar_ranges c scalars.0) [
  | inl low ↦ units_lone c cs (omega (arith, low)) (lone_low c low) (λ v pair. omega (arith, low, pair.0)) (units_again cs scalars.1)
  | inr range ↦ elim (cases_lt c 0x1_0000) [
    | inl below ↦ units_lone c cs below (lone_high c range.0) (λ v pair. omega (arith, range.0, pair.1)) (units_again cs scalars.1)
    | inr above ↦ units_pair c cs above range.1 (units_again cs scalars.1)
  ]
]

chars_back : (chars : List ℕ) → map lossy (map (λ c. Some c) chars) ≡ chars
chars_back [] = refl
chars_back (c ∷ cs) = ap (λ (l : List ℕ). c ∷ l) (chars_back cs)

all_paired : (chars : List ℕ) → list_any (λ o. not (is_some o)) (map (λ (c : ℕ). Some c) chars) ≡ false
all_paired [] = refl
all_paired (c ∷ cs) = all_paired cs

-- what characters spell are units, which have no surrogate without a partner and give them back
pub record Again (units chars : List ℕ) : Type 0 where
  pub paired : has_unpaired_surrogate units ≡ false
  pub chars_are : utf16_lossy_chars units ≡ chars

again : (bytes units chars : List ℕ) → SpellsUnits bytes units → SpellsText bytes chars → Again units chars
again bytes units chars spelled text =
    let u = units_again chars text.scalars in
    let same = one_spelling bytes units (flat_map encode_utf16 chars) spelled (record { small = u.0; parts = text.parts }) in
    let read : utf16_chars units ≡ map (λ (c : ℕ). Some c) chars = ap utf16_chars same ∙ u.1 in
    record {
      paired = ap (list_any (λ o. not (is_some o))) read ∙ all_paired chars;
      chars_are = ap (map lossy) read ∙ chars_back chars;
    }

-- ---- the text

pub units_some : {V : Type 0} (view : V → List ℕ) (found : Option V) (v : V) (bytes : List ℕ) → found ≡ Some v → AreUnitsOf bytes (option_map view found) → SpellsUnits bytes (view v)
units_some view found v bytes is units = subst (λ o. AreUnitsOf bytes (option_map view o)) is units

pub no_text : {V : Type 0} (view : V → List ℕ) (found : Option V) (bytes : List ℕ) → found ≡ None → AreUnitsOf bytes (option_map view found) → (chars : List ℕ) → SpellsText bytes chars → ⊥
no_text view found bytes is units chars text =
    let none = subst (λ o. AreUnitsOf bytes (option_map view o)) is units in
    none (flat_map encode_utf16 chars) (record { small = (units_again chars text.scalars).0; parts = text.parts })

module _ {S E : Type 0} (bytes_of : S → List ℕ) (bytes units : List ℕ) (spelled : SpellsUnits bytes units) where
  -- what a reading of UTF-16 says of its result
  abbrev pub IsRead : Result S E → Type 0
  IsRead r = IfOk r (λ s. bytes_of s ≡ encode_utf8_all (utf16_lossy_chars units)) × (is_err r ≡ has_unpaired_surrogate units)

  text_by : (r : Result S E) → IsRead r → IsTextOf bytes (option_map bytes_of (result_ok r))
  text_by (Ok s) read =
      let j = joined units spelled.small (sym read.1) in
      (utf16_lossy_chars units, record { scalars = j.0; parts = spelled.parts ∙ ap (flat_map unit_bytes) j.1 }, read.0)
  text_by (Err e) read = λ chars text. true≢false (read.1 ∙ (again bytes units chars spelled text).paired)

  pub text_found : (r : Result S E) (found : Option S) → found ≡ result_ok r → IsRead r → IsTextOf bytes (option_map bytes_of found)
  text_found r found is read = subst (λ o. IsTextOf bytes (option_map bytes_of o)) (sym is) (text_by r read)

  only_by : (r : Result S E) → IsRead r → (chars : List ℕ) → SpellsText bytes chars → IsSomeAnd (result_ok r) (λ s. bytes_of s ≡ encode_utf8_all chars)
  only_by (Ok s) read chars text = read.0 ∙ ap encode_utf8_all (again bytes units chars spelled text).chars_are
  only_by (Err e) read chars text = absurd (true≢false (read.1 ∙ (again bytes units chars spelled text).paired))

  pub only_text : (r : Result S E) (found : Option S) → found ≡ result_ok r → IsRead r → (chars : List ℕ) → SpellsText bytes chars → IsSomeAnd found (λ s. bytes_of s ≡ encode_utf8_all chars)
  only_text r found is read chars text = subst (λ o. IsSomeAnd o (λ s. bytes_of s ≡ encode_utf8_all chars)) (sym is) (only_by r read chars text)
