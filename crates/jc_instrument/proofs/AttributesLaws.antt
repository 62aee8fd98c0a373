-- Attributes of a class of which the one that is named BootstrapMethods gets one bootstrap method more.
use Rattle.std.proofs.Common.{◌≡◌, ◌≢◌, ◌⊎◌, inl, inr, ℕ, zero, suc, ◌+◌, ◌<◌, ◌≤◌, Bool, true, false, List, [], ◌∷◌, ◌++◌, length, map, drop, get_or, set, Option, Some, None, slice_get, refl, sym, ◌∙◌, ap, subst, arith, if◌then◌else◌}
use Rattle.std.specs.Prelude.{Contains, filter, bytes_eq, IsTrue}
use Rattle.std.proofs.lemmas.List.{append-nil}
use Rattle.std.proofs.lemmas.Option.{same_Some, get_or_from_slice_get, slice_get_within}
use Rattle.std.proofs.lemmas.Slice.Eq.{bytes_eq-Decides}
use Rattle.jc_bytes.proofs.BooleanLaws.{first_in, later_in, place_of, stands_in}
use Rattle.jc_methods.specs.ProbeMembers.{bootstraps_name, fetch_of}
use Rattle.jc_methods.specs.declared.probe_members.Fetch.TheVariants as fetches
use Rattle.jc_pool.specs.Lookup.{utf8_of}
use Rattle.jc_pool.specs.Pool.{PoolValue}
use Rattle.jc_class.specs.declared.class_file.Attribute.{Attribute}
use Rattle.jc_class.specs.declared.class_file.ClassFile.{ClassFile}
use Rattle.jc_class.specs.ItemReading.{passes}
use Rattle.jc_body.specs.First.{IsFirstItem, NoItem}
use Rattle.jc_bootstraps.specs.Bootstraps.{HaveBootstraps, bootstrap_bodies, has_name, with_bootstrap}
use Rattle.jc_instrument_code.specs.CodeText.{attribute}
use Rattle.jc_instrument.specs.Bootstraps.{TakesNoBootstrap, TakesNoMore}
use Rattle.jc_bytes.specs.declared.refusal.RefusalKind.TheVariants as kinds
use Rattle.jc_instrument.specs.Causes.{Never, of_class}
use Rattle.jc_instrument.specs.RoomCauses.{HasBadBootstraps}
use Rattle.jc_instrument.specs.SameOutside.{AreKeptOrLonger, IsKeptOrLonger, IsNewBootstraps, SomeOfName}
use Rattle.jc_instrument.specs.TwinText.{new_attribute, with_bootstrap_at, with_one_more}
use Rattle.jc_instrument.specs.declared.needs.MemberPlaces.{MemberPlaces}
use Rattle.jc_instrument.proofs.MemberLaws.{none_kept, none_named, none_put, one_put}

-- ---- names

text_passes : (name : List ℕ) (o : Option (List ℕ)) → passes (λ text. bytes_eq text name) o ≡ true → o ≡ Some name
text_passes name None is = absurd (none is)
  where
    none : false ≡ true → ⊥
    none e = cc
text_passes name (Some text) is = ap Some ((bytes_eq-Decides text name).0 is)

passes_text : (name : List ℕ) (o : Option (List ℕ)) → o ≡ Some name → passes (λ text. bytes_eq text name) o ≡ true
passes_text name None is = absurd (none is)
  where
    none : None ≡ Some name → ⊥
    none e = cc
passes_text name (Some text) is = (bytes_eq-Decides text name).1 (same_Some text name is)

not_true : (t : Bool) → t ≡ false → t ≡ true → ⊥
not_true true is e = cc
not_true false is e = cc

module _ (pool : PoolValue) (handle bootstrap : ℕ) where
  abbrev named : Attribute → Bool
  named = has_name pool bootstraps_name

  abbrev longer : Attribute → Attribute
  longer a = attribute a.name (with_bootstrap handle bootstrap a.body)

  named_text : (a : Attribute) → named a ≡ true → utf8_of pool a.name ≡ Some bootstraps_name
  named_text a is = text_passes bootstraps_name (utf8_of pool a.name) is

  text_named : (a : Attribute) → utf8_of pool a.name ≡ Some bootstraps_name → named a ≡ true
  text_named a is = passes_text bootstraps_name (utf8_of pool a.name) is

  -- ---- one of the name, or none

  one_longer : (name : ℕ) (l : List Attribute) (n : ℕ) (a : Attribute) → HaveBootstraps (bootstrap_bodies pool l) bootstrap → slice_get l n ≡ Some a → named a ≡ true
      → set l n (longer a) ≡ map (with_bootstrap_at pool handle bootstrap) l ++ new_attribute name handle (bootstrap_bodies pool l)
  one_longer name l n a have at is = by (filter named l) refl have
    where
      by : (kept : List Attribute) → filter named l ≡ kept → HaveBootstraps (map (λ x. x.body) kept) bootstrap
          → set l n (longer a) ≡ map (with_bootstrap_at pool handle bootstrap) l ++ new_attribute name handle (bootstrap_bodies pool l)
      by [] none have = absurd (none_named named longer l n a none at is)
      by (x ∷ []) one have =
          sym (one_put named longer l n a x one at is)
          ∙ sym (append-nil (map (with_bootstrap_at pool handle bootstrap) l))
          ∙ ap (λ (k : List Attribute). map (with_bootstrap_at pool handle bootstrap) l ++ new_attribute name handle (map (λ x. x.body) k)) (sym one)
      by (x ∷ y ∷ kept) more have = absurd have

  pub first_longer : (name : ℕ) (l : List Attribute) (n : ℕ) (b new : Attribute) (out : List Attribute) → HaveBootstraps (bootstrap_bodies pool l) bootstrap
      → IsFirstItem (λ n a. IsTrue (named a)) l n → b ≡ get_or l n b → new ≡ longer b → out ≡ set l n new
      → out ≡ map (with_bootstrap_at pool handle bootstrap) l ++ new_attribute name handle (bootstrap_bodies pool l)
  first_longer name l n b new out have first read new_is out_is =
      let same : b ≡ first.item = read ∙ get_or_from_slice_get l n first.item b first.stands in
      out_is ∙ ap (set l n) (new_is ∙ ap longer same) ∙ one_longer name l n first.item have first.stands first.fact

  pub none_longer : (name : ℕ) (l : List Attribute) (new : Attribute) (out : List Attribute) → NoItem (λ n a. IsTrue (named a)) l
      → new ≡ attribute name (with_bootstrap handle 0 []) → out ≡ l ++ new ∷ []
      → out ≡ map (with_bootstrap_at pool handle bootstrap) l ++ new_attribute name handle (bootstrap_bodies pool l)
  none_longer name l new out none new_is out_is =
      let no = none_kept named longer l none in
      out_is
      ∙ (λ i. sym (none_put named longer l no) i ++ new_is i ∷ [])
      ∙ ap (λ (k : List Attribute). map (with_bootstrap_at pool handle bootstrap) l ++ new_attribute name handle (map (λ x. x.body) k)) (sym no)

  -- ---- what stays

  abbrev AreKept : List Attribute → Type 0
  AreKept l = AreKeptOrLonger pool bootstrap handle l (map (with_bootstrap_at pool handle bootstrap) l)

  -- without the first
  filtered : (a : Attribute) (l kept : List Attribute) (t : Bool) → named a ≡ t → filter named (a ∷ l) ≡ kept → (if t then a ∷ filter named l else filter named l) ≡ kept
  filtered a l kept t is are = ap (λ (t : Bool). if t then a ∷ filter named l else filter named l) (sym is) ∙ are

  other_kept : (a : Attribute) → named a ≡ false → IsKeptOrLonger pool bootstrap handle a (with_bootstrap_at pool handle bootstrap a)
  other_kept a is =
      let here : with_bootstrap_at pool handle bootstrap a ≡ a = ap (λ (t : Bool). if t then longer a else a) is in
      subst (IsKeptOrLonger pool bootstrap handle a) (sym here) (refl, inr ((λ text. not_true (named a) is (text_named a text)), refl))

  no_item : (a : Attribute) (l : List Attribute) → a ∷ l ≡ [] → ⊥
  no_item a l e = cc

  none_kept_on : (l : List Attribute) → filter named l ≡ [] → AreKept l
  none_kept_on [] none = tt
  none_kept_on (a ∷ l) none = by (named a) refl (none_kept_on l)
    where
      by : (t : Bool) → named a ≡ t → (filter named l ≡ [] → AreKept l) → AreKept (a ∷ l)
      by true is later = absurd (no_item a (filter named l) (filtered a l [] true is none))
      by false is later = (other_kept a is, later (filtered a l [] false is none))

  kept_or_longer : (l kept : List Attribute) → filter named l ≡ kept → HaveBootstraps (map (λ x. x.body) kept) bootstrap → AreKept l
  kept_or_longer [] kept are have = tt
  kept_or_longer (a ∷ l) kept are have = by (named a) refl (λ rest. kept_or_longer l kept rest have)
    where
      with_first : (kept : List Attribute) → named a ≡ true → a ∷ filter named l ≡ kept → HaveBootstraps (map (λ x. x.body) kept) bootstrap → AreKept (a ∷ l)
      with_first [] is none have = absurd (no_item a (filter named l) none)
      with_first (x ∷ []) is one have =
          let same : a ≡ x = ap (λ (k : List Attribute). get_or k 0 a) one in
          let form = subst (λ (y : Attribute). HaveBootstraps (y.body ∷ []) bootstrap) (sym same) have in
          let here : with_bootstrap_at pool handle bootstrap a ≡ longer a = ap (λ (t : Bool). if t then longer a else a) is in (
            subst (IsKeptOrLonger pool bootstrap handle a) (sym here)
                (refl, inl (named_text a is, record { entries = form.0; form = form.1; number = form.2; is = refl })),
            none_kept_on l (ap (drop 1) one),
          )
      with_first (x ∷ y ∷ kept) is more have = absurd have

      by : (t : Bool) → named a ≡ t → (filter named l ≡ kept → AreKept l) → AreKept (a ∷ l)
      by false is later = (other_kept a is, later (filtered a l kept false is are))
      by true is later = with_first kept is (filtered a l kept true is are) have

  nothing_named : (l : List Attribute) → filter named l ≡ [] → (a : Attribute) → Contains l a → utf8_of pool a.name ≢ Some bootstraps_name
  nothing_named l none a listed text =
      let p = place_of l a listed in
      none_named named longer l p.0 a none p.1 (text_named a text)

  some_named : (l : List Attribute) (x : Attribute) (kept : List Attribute) → filter named l ≡ x ∷ kept → SomeOfName pool l
  some_named [] x kept are = absurd (no_item x kept (sym are))
  some_named (a ∷ l) x kept are = by (named a) refl (some_named l x kept)
    where
      by : (t : Bool) → named a ≡ t → (filter named l ≡ x ∷ kept → SomeOfName pool l) → SomeOfName pool (a ∷ l)
      by true is later = (a, first_in a l, named_text a is)
      by false is later =
          let rest = later (filtered a l (x ∷ kept) false is are) in
          (rest.0, later_in a l rest.0 rest.1, rest.2)

  -- the attributes are as they were, and one has one bootstrap method more, or is new
  pub more_kept : (new : PoolValue) (p : MemberPlaces) (l : List Attribute) → p.handle ≡ handle → utf8_of new p.bootstraps ≡ Some bootstraps_name
      → HaveBootstraps (bootstrap_bodies pool l) bootstrap
      → (SomeOfName pool l × AreKeptOrLonger pool bootstrap handle l (with_one_more pool bootstrap p l))
      ⊎ ((bootstrap ≡ 0) × IsNewBootstraps pool new handle l (with_one_more pool bootstrap p l))
  more_kept new p l handle_is text have = by (filter named l) refl have
    where
      all : (kept : List Attribute) → filter named l ≡ kept
          → map (with_bootstrap_at pool handle bootstrap) l ++ new_attribute p.bootstraps handle (map (λ x. x.body) kept) ≡ with_one_more pool bootstrap p l
      all kept are =
          ap (λ (k : List Attribute). map (with_bootstrap_at pool handle bootstrap) l ++ new_attribute p.bootstraps handle (map (λ x. x.body) k)) (sym are)
          ∙ ap (λ (h : ℕ). map (with_bootstrap_at pool h bootstrap) l ++ new_attribute p.bootstraps h (bootstrap_bodies pool l)) (sym handle_is)

      by : (kept : List Attribute) → filter named l ≡ kept → HaveBootstraps (map (λ x. x.body) kept) bootstrap
          → (SomeOfName pool l × AreKeptOrLonger pool bootstrap handle l (with_one_more pool bootstrap p l))
          ⊎ ((bootstrap ≡ 0) × IsNewBootstraps pool new handle l (with_one_more pool bootstrap p l))
      by [] none have = inr (
        have,
        record {
          none = nothing_named l none;
          attribute = attribute p.bootstraps (with_bootstrap handle 0 []);
          name = text;
          body = refl;
          is = sym (all [] none) ∙ ap (λ (k : List Attribute). k ++ attribute p.bootstraps (with_bootstrap handle 0 []) ∷ []) (none_put named longer l none);
        },
      )
      by (x ∷ kept) some have = inl (
        some_named l x kept some,
        subst (AreKeptOrLonger pool bootstrap handle l) (sym (append-nil (map (with_bootstrap_at pool handle bootstrap) l)) ∙ all (x ∷ kept) some)
            (kept_or_longer l (x ∷ kept) some have),
      )

-- ---- room for a new attribute

none_of_name : (pool : PoolValue) (l : List Attribute) → ((a : Attribute) → Contains l a → utf8_of pool a.name ≢ Some bootstraps_name) → bootstrap_bodies pool l ≡ []
none_of_name pool l none =
    ap (map (λ (x : Attribute). x.body))
    (none_kept (has_name pool bootstraps_name) (λ a. a) l (λ n a at is. none a (stands_in l n a at) (text_passes bootstraps_name (utf8_of pool a.name) is)))

-- a class whose bootstrap methods take one more, and that has no attribute for them, has a number left for one
pub room_left : (c : ClassFile) (new : PoolValue) (handle : ℕ) (added : List Attribute) → Never (HasBadBootstraps c) → fetch_of c.major ≡ fetches.Constant
    → IsNewBootstraps c.pool new handle c.attributes added → length c.attributes ≡ 65535 → ⊥
room_left c new handle added never by_constant out full = bad 65536 (inr ((λ nothing. bad 0 (inl (nothing, refl))), full, refl))
  where
    bad : (place : ℕ) → TakesNoMore c.pool [] (length c.attributes ≡ 65535) place → ⊥
    bad place none = never (of_class kinds.BadBootstraps place) (record {
      by_constant = by_constant;
      place = place;
      none = subst (λ (bodies : List (List ℕ)). TakesNoBootstrap c.pool (length c.attributes) bodies place) (sym (none_of_name c.pool c.attributes out.none)) none;
      refusal = refl;
    })
