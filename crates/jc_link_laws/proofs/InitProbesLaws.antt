-- What the added method of a twin class asks for.
use Rattle.std.proofs.Common.{◌≡◌, ◌⊎◌, inl, inr, ℕ, ℤ, zero, suc, ◌≤◌, List, [], ◌∷◌, length, map, cond, nat_le, if◌then◌else◌, Option, Some, codes, refl, sym, ◌∙◌, ap, subst}
use Rattle.std.specs.Prelude.{slice_get}
use Rattle.std.proofs.lemmas.Option.{none-some, slice_get_within, get_or_from_slice_get}
use Rattle.jc_bytes.specs.BigNumbers.{short}
use Rattle.jc_bytes.proofs.ListLaws.{all_at, put_cases}
use Rattle.jc_methods.specs.ProbeMembers.{init_name, most_short}
use Rattle.jc_methods.specs.VerificationTypes.{Names}
use Rattle.jc_methods.specs.declared.body.Body.{Body}
use Rattle.jc_methods.specs.declared.probe_members.Fetch.{Fetch}
use Rattle.jc_methods.specs.declared.probe_members.Fetch.TheVariants as fetches
use Rattle.jc_pool.specs.Lookup.{class_name_of, string_of, utf8_of}
use Rattle.jc_pool.specs.Pool.{PoolValue}
use Rattle.jc_pool.proofs.AddedLaws.{utf8_kept}
use Rattle.jc_class.specs.ClassFormat.{HasText, HasMethodDescriptor}
use Rattle.jc_class.specs.Writable.{IsClassFile, IsMember}
use Rattle.jc_class.specs.declared.class_file.Attribute.{Attribute}
use Rattle.jc_class.specs.declared.class_file.ClassFile.{ClassFile}
use Rattle.jc_class.specs.declared.class_file.Member.{Member}
use Rattle.jc_body.specs.Attributes.{bodies_of, is_text}
use Rattle.jc_body.specs.BodyOf.{BodyOf, IsBody}
use Rattle.jc_instrument_code.specs.InitText.{added_text, bootstrap_bytes, init_bytes, init_frames, named_places}
use Rattle.jc_instrument_code.specs.CodeText.{code_text}
use Rattle.jc_emit.specs.Added.{InitPlaces, init_stack}
use Rattle.jc_instrument_code.specs.declared.init.AddedPlaces.{AddedPlaces}
use Rattle.jc_instrument_reread.specs.InitRead.{HasFieldPlaces}
use Rattle.jc_instrument_reread.specs.Written.{HasFieldEntries, IsAddedMethod}
use Rattle.jc_instrument_reread.proofs.BootstrapAgainLaws.{bootstrap_body, bootstrap_is_body}
use Rattle.jc_instrument_reread.proofs.InitAgainLaws.{init_body, init_is_body, init_names}
use Rattle.jc_instrument_reread.proofs.OneBodyLaws.{same_bodies}
use Rattle.jc_instrument.specs.Reasons.{HasAdded}
use Rattle.jc_instrument.specs.SameOutside.{AreKeptMethods, IsInitMethod, IsSameOutside, NamesField}
use Rattle.jc_instrument.specs.Contents.{Content}
use Rattle.jc_instrument.proofs.WrittenAgainLaws.{count_below, count_entry, long_below, member_below, pushed_same, string_below}
use Rattle.jc_link_programs.specs.ProbeInits.{added_code}
use Rattle.jc_link_programs.proofs.ProbeInitLaws.{same_name_place}

-- ---- the name that its code names

module _ (fetch : Fetch) (t : ClassFile) (few_places : length t.pool ≤ 65535) (owner : List ℕ) (id : ℤ) (count : ℕ)
    (owner_is : class_name_of t.pool t.this_class ≡ Some owner) (method : Member) (m : IsInitMethod fetch t.pool owner id count method) where
  -- where no Integer is pushed its place is of no matter
  abbrev places : AddedPlaces
  places = record {
    field = m.places.field;
    id = m.places.id;
    name = m.places.name;
    count = if nat_le count most_short then 0 else m.places.count;
    fetch = m.places.fetch;
    array = m.array;
    frames = m.frames;
  }

  field_placed : (f : Fetch) → NamesField f t.pool owner m.places m.frames m.array → HasFieldPlaces f t.pool places
  field_placed fetches.Member is = (member_below t.pool few_places m.places.field _ is.0, is.1)
  field_placed fetches.Constant is = tt

  field_found : (f : Fetch) → NamesField f t.pool owner m.places m.frames m.array → HasFieldEntries f t.pool owner places
  field_found fetches.Member is = (is.0, is.2)
  field_found fetches.Constant is = tt

  text_same : (f : Fetch) → added_text f m.places m.frames m.array count ≡ added_text f (named_places places) m.frames m.array count
  unfolding init_bytes bootstrap_bytes
  text_same fetches.Member = λ k.
      code_text init_stack 0 (init_bytes m.places (pushed_same count m.places.count k)) (short 0) (init_frames m.frames m.array (pushed_same count m.places.count k) ∷ [])
  text_same fetches.Constant = λ k. code_text init_stack 3 (bootstrap_bytes m.places (pushed_same count m.places.count k)) (short 0) []

  added : IsAddedMethod fetch t owner id count places method
  added = record {
    code = record {
      pool_few = few_places;
      field = field_placed fetch m.field_is;
      count = count_below t.pool few_places count m.places.count (nat_le count most_short) m.count_is;
      id = long_below t.pool few_places m.places.id id m.id_is;
      name = string_below t.pool few_places m.places.name owner m.name_is;
      fetch_method = member_below t.pool few_places m.places.fetch _ m.fetch_is;
    };
    owner_is = owner_is;
    flags = m.flags;
    name = m.name;
    desc = m.desc;
    code_is = code_is;
    field_entries = field_found fetch m.field_is;
    id_is = m.id_is;
    name_is = m.name_is;
    count_is = count_entry t.pool count m.places.count (nat_le count most_short) m.count_is;
    fetch_is = m.fetch_is;
  }
    where
      code_is : bodies_of t.pool (codes "Code") method.attributes ≡ added_text fetch (named_places places) m.frames m.array count ∷ []
      code_is =
          ap (bodies_of t.pool (codes "Code")) m.attributes
          ∙ ap (λ (o : Option (List ℕ)). map (λ (a : Attribute). a.body) (cond (is_text (codes "Code") o) (m.code ∷ []) [])) m.code_is
          ∙ ap (λ (text : List ℕ). text ∷ []) (m.text ∙ text_same fetch)

  -- its code, whatever the names with which it is read
  code_read : (f : Fetch) (w : IsAddedMethod f t owner id count places method) (names : Names) (number : ℕ) (b : Body) → IsBody names t number method b
      → b.code ≡ added_code f (named_places places) count
  code_read fetches.Member w names number b body =
      let same = same_bodies names (init_names t owner id count places method w) t number method _ _ b (init_body t owner id count places method w number) body
      (init_is_body t owner id count places method w number) in
      ap (λ (x : Body). x.code) same.rest
  code_read fetches.Constant w names number b body =
      let same = same_bodies names [] t number method _ _ b (bootstrap_body t owner id count places method w number) body
      (bootstrap_is_body t owner id count places method w number) in
      ap (λ (x : Body). x.code) same.rest

  pub text_is : (names : Names) (number : ℕ) (b : Body) (p : InitPlaces) → BodyOf names t number b → slice_get t.methods number ≡ Some method
      → b.code ≡ added_code fetch p count → string_of t.pool p.name ≡ Some owner
  text_is names number b p body at code =
      let same_method = same_of (sym body.at ∙ at) in
      let own = code_read fetch added names number b (subst (λ (x : Member). IsBody names t number x b) same_method body.is) in
      let place = same_name_place fetch p (named_places places) count count (sym code ∙ own) in
      ap (string_of t.pool) place ∙ m.name_is
    where
      same_of : {x y : Member} → Some x ≡ Some y → x ≡ y
      same_of e = cc

-- ---- which method it is

kept_there : (pool : PoolValue) (ms ns : List Member) → AreKeptMethods pool ms ns → (i : ℕ) (n : Member) → slice_get ns i ≡ Some n
    → (m : Member) × (slice_get ms i ≡ Some m) × (n.name ≡ m.name)
kept_there pool [] [] kept i n at = absurd (none-some n at)
kept_there pool [] (y ∷ ns) kept i n at = absurd kept
kept_there pool (x ∷ ms) [] kept i n at = absurd kept
kept_there pool (x ∷ ms) (y ∷ ns) kept zero n at = (x, refl, ap (λ (m : Member). m.name) (some_is (sym at)) ∙ kept.0.name)
  where
    some_is : {a b : Member} → Some a ≡ Some b → a ≡ b
    some_is e = cc
kept_there pool (x ∷ ms) (y ∷ ns) kept (suc i) n at = kept_there pool ms ns kept.1 i n at

module _ (id bootstrap count : ℕ) (needs : List Content) (c t : ClassFile) (class : IsClassFile c) (not_added : HasAdded c → ⊥)
    (out : IsSameOutside id bootstrap needs count c t) where
  none_kept : (number : ℕ) (x : Member) → slice_get out.kept number ≡ Some x → utf8_of t.pool x.name ≡ Some init_name → ⊥
  none_kept number x at named =
      let m = kept_there c.pool c.methods out.kept out.kept_are number x at in
      let is = all_at (IsMember (HasText c.pool) (HasMethodDescriptor c.pool)) c.methods number m.0 class.methods.each m.1 in
      let old = utf8_kept c.pool t.pool is.name.0 m.0.name out.pool.extends is.name.1 in
      let same = sym old ∙ ap (utf8_of t.pool) (sym m.2) ∙ named in
      not_added (inr (inl (m.0, (number, slice_get_within c.methods number m.0 m.1, get_or_from_slice_get c.methods number m.0 m.0 m.1), inl (is.name.1 ∙ same))))

  -- the method with the name is the one that is added
  pub added_at : (number : ℕ) (x : Member) → slice_get t.methods number ≡ Some x → utf8_of t.pool x.name ≡ Some init_name → slice_get t.methods number ≡ Some out.method
  added_at number x at named = by (put_cases out.kept out.method x number (ap (λ (l : List Member). slice_get l number) (sym out.methods) ∙ at))
    where
      by : (slice_get out.kept number ≡ Some x) ⊎ ((number ≡ length out.kept) × (out.method ≡ x)) → slice_get t.methods number ≡ Some out.method
      by (inl kept) = absurd (none_kept number x kept named)
      by (inr last) = at ∙ ap Some (sym last.1)
