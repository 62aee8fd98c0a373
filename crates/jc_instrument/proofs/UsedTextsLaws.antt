-- What a body uses, of a class whose pool was read from bytes: few entries, whose texts are short.
use Rattle.std.proofs.Common.{◌≡◌, ◌⊎◌, inl, inr, ℕ, ℤ, suc, ◌+◌, ◌<◌, ◌≤◌, Bool, true, false, cond, List, [], ◌∷◌, length, get_or, Option, Some, None, slice_get, refl, sym, ◌∙◌, subst, arith, nat_eq}
use Rattle.std.specs.Prelude.{All}
use Rattle.std.specs.List.{list_any}
use Rattle.std.specs.Option.{option_and_then}
use Rattle.std.proofs.lemmas.Bool.{cases_lt}
use Rattle.std.proofs.lemmas.Option.{none-some, same_Some, slice_get_within, get_or_from_slice_get}
use Rattle.jc_methods.specs.WellMade.{HasShortTexts}
use Rattle.jc_methods.specs.declared.body.Use.{Use}
use Rattle.jc_methods.specs.declared.body.What.{What}
use Rattle.jc_methods.specs.declared.body.What.TheVariants as whats
use Rattle.jc_pool.specs.declared.constant.ConstText.{ConstText}
use Rattle.jc_pool.specs.declared.constant.ConstText.TheVariants as constants
use Rattle.jc_pool.specs.Lookup.{Member as PoolMember, member_of, Computed, computed_of, class_name_of, const_of}
use Rattle.jc_body.proofs.ComputedLaws.{none_computed, linked_by, computed_member}
use Rattle.jc_pool.specs.Pool.{PoolValue}
use Rattle.jc_body.specs.BodyOf.{AreRisingFrom, AreUsesOf}
use Rattle.jc_body.proofs.UsesLaws.{entry_used}
use Rattle.jc_body.specs.Sizes.{IsOfShortTexts}
use Rattle.jc_body.specs.Standing.{of_member, found_in, found_at, what_of_member, what_of_constant, what_of, what_at}
use Rattle.jc_instrument.proofs.PoolTextLaws.{IsReadPool, class_short, member_short, none_past}

-- ---- how many there are

-- the places rise, so there are no more than the last one's number and one
rising_few : (first most : ℕ) (uses : List Use) → AreRisingFrom first uses
    → ((k : ℕ) (u : Use) → slice_get uses k ≡ Some u → u.place < most) → first ≤ most → first + length uses ≤ most
rising_few first most [] rising within inside = omega (arith, inside)
rising_few first most (u ∷ uses) rising within inside =
    let here = within 0 u refl in
    let rest = rising_few (u.place + 1) most uses rising.1 (λ k v at. within (suc k) v at) (omega (arith, here)) in
    let above = rising.0 in
    omega (arith, rest, above)

-- ---- their texts

member_what_short : (m : PoolMember) → IsOfShortTexts (of_member m) → HasShortTexts (what_of_member m)
member_what_short m short = by (nat_eq m.tag 9) (nat_eq m.tag 18)
  where
    by : (field call : Bool)
        → HasShortTexts (cond field (whats.Field m.class m.name m.desc) (cond call (whats.Call m.name m.desc) (whats.Method m.class m.name m.desc)))
    by true call = (short.class, short.name, short.desc)
    by false true = (short.name, short.desc)
    by false false = (short.class, short.name, short.desc)

-- what is true of each number, and of the rest that names no text, is true of what a constant stands for
pub constant_is : (Is : What → Type 0) → ((value : ℤ) → Is (whats.Int value)) → ((value : ℤ) → Is (whats.Long value)) → Is whats.Float → Is whats.Double
    → Is whats.Text → Is whats.Handle → Is whats.MethodKind → (c : ConstText) (what : What) → what_of_constant c ≡ Some what → Is what
constant_is Is int long float double text handle type (constants.Int value) what is = subst Is (same_Some _ what is) (int value)
constant_is Is int long float double text handle type (constants.Long value) what is = subst Is (same_Some _ what is) (long value)
constant_is Is int long float double text handle type constants.Float what is = subst Is (same_Some _ what is) float
constant_is Is int long float double text handle type constants.Double what is = subst Is (same_Some _ what is) double
constant_is Is int long float double text handle type constants.Text what is = subst Is (same_Some _ what is) text
constant_is Is int long float double text handle type constants.Handle what is = subst Is (same_Some _ what is) handle
constant_is Is int long float double text handle type constants.MethodKind what is = subst Is (same_Some _ what is) type
constant_is Is int long float double text handle type c what is = absurd (none-some what is)

-- what is true of what each computed constant, member, class and constant of the pool stands for is true of all that a body may use
module _ (Is : What → Type 0) (pool : PoolValue)
    (computed : (place : ℕ) (c : Computed) → computed_of pool place ≡ Some c → Is (whats.Computed c.signed.name c.signed.desc c.bootstrap))
    (member : (place : ℕ) (m : PoolMember) → member_of pool place ≡ Some m → Is (what_of_member m))
    (class : (place : ℕ) (name : List ℕ) → class_name_of pool place ≡ Some name → Is (whats.Class name))
    (constant : (c : ConstText) (what : What) → what_of_constant c ≡ Some what → Is what) where
  by_found : (place : ℕ) (d : Option Computed) (m : Option PoolMember) (name : Option (List ℕ)) (c : Option ConstText) → computed_of pool place ≡ d
      → member_of pool place ≡ m → class_name_of pool place ≡ name → (what : What) → option_and_then what_of (found_in d m name c) ≡ Some what → Is what
  by_found place (Some d) m name c given is named what e = subst Is (same_Some _ what e) (computed place d given)
  by_found place None (Some m) name c given is named what e = subst Is (same_Some _ what e) (member place m is)
  by_found place None None (Some name) c given is named what e = subst Is (same_Some _ what e) (class place name named)
  by_found place None None None (Some c) given is named what e = constant c what e
  by_found place None None None None given is named what e = absurd (none-some what e)

  pub what_at_is : (place : ℕ) (what : What) → what_at pool place ≡ Some what → Is what
  unfolding found_at
  what_at_is place what is =
      by_found place (computed_of pool place) (member_of pool place) (class_name_of pool place) (const_of pool place) refl refl refl what is

pub cond_what : (t : Bool) (o : Option What) (what : What) → cond t o None ≡ Some what → o ≡ Some what
cond_what true o what e = e
cond_what false o what e = absurd (none-some what e)

module _ (pool : PoolValue) (read : IsReadPool pool) where
  computed_short : (place : ℕ) (c : Computed) → computed_of pool place ≡ Some c → HasShortTexts (whats.Computed c.signed.name c.signed.desc c.bootstrap)
  computed_short place c is =
      let short = member_short pool read.small place (linked_by 17 c.signed) (computed_member pool place c is) in (short.name, short.desc)

  what_at_short : (place : ℕ) (what : What) → what_at pool place ≡ Some what → HasShortTexts what
  what_at_short =
      what_at_is HasShortTexts pool computed_short (λ place m is. member_what_short m (member_short pool read.small place m is)) (class_short pool read.small)
      (constant_is HasShortTexts (λ value. tt) (λ value. tt) tt tt tt tt tt)

  what_at_within : (place : ℕ) (what : What) → what_at pool place ≡ Some what → place < length pool
  unfolding found_at
  what_at_within place what is = by (cases_lt place (length pool))
    where
      by : (place < length pool) ⊎ (length pool ≤ place) → place < length pool
      by (inl within) = within
      by (inr past) =
          let none = none_past pool place past in
          let no_computed = none_computed pool place none.0 in
          absurd (none-some what (sym (λ i. option_and_then what_of (found_in (no_computed i) (none.0 i) (none.1 i) (none.2 i))) ∙ is))

  module _ (places : List ℕ) (uses : List Use) (are : AreUsesOf pool places uses) where
    stands : (k : ℕ) (d : Use) → k < length uses → what_at pool (get_or uses k d).place ≡ Some (get_or uses k d).what
    stands k d less =
        let u = get_or uses k d in
        cond_what (list_any (nat_eq u.place) places) (what_at pool u.place) u.what
        (sym (are.each u.place) ∙ entry_used 0 uses are.rising k d less)

    pub uses_short : All (λ u. HasShortTexts u.what) uses
    uses_short k d less = what_at_short (get_or uses k d).place (get_or uses k d).what (stands k d less)

    pub uses_few : length uses ≤ 65536
    uses_few =
        let most = rising_few 0 (length pool) uses are.rising within (omega arith) in
        let few = read.few in
        omega (arith, most, few)
      where
        within : (k : ℕ) (u : Use) → slice_get uses k ≡ Some u → u.place < length pool
        within k u at =
            let less = slice_get_within uses k u at in
            let is = get_or_from_slice_get uses k u u at in
            subst (λ (v : Use). v.place < length pool) is
            (what_at_within (get_or uses k u).place (get_or uses k u).what (stands k u less))
