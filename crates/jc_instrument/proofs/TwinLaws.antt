-- The one twin class that is written: its pool has what is added, and outside of code it is the class.
use Rattle.std.proofs.Common.{◌≡◌, inl, inr, ℕ, ℤ, ◌+◌, Bool, true, false, List, [], ◌∷◌, ◌++◌, map, Option, Some, None, refl, sym, ◌∙◌, ap, subst, if◌then◌else◌}
use Rattle.std.specs.Prelude.{codes}
use Rattle.std.proofs.lemmas.Slice.Eq.{bytes_eq-Decides}
use Rattle.jc_methods.specs.ProbeMembers.{fetch_of}
use Rattle.jc_methods.specs.declared.probe_members.Fetch.{Fetch}
use Rattle.jc_methods.specs.declared.probe_members.Fetch.TheVariants as fetches
use Rattle.jc_methods.specs.VerificationTypes.{Names, TypeStateAt}
use Rattle.jc_bytes.specs.PlainLists.{map_from}
use Rattle.jc_pool.specs.Lookup.{utf8_of}
use Rattle.jc_pool.specs.Pool.{PoolValue}
use Rattle.jc_class.specs.declared.class_file.Attribute.{Attribute}
use Rattle.jc_class.specs.declared.class_file.ClassFile.{ClassFile}
use Rattle.jc_class.specs.declared.class_file.Member.{Member}
use Rattle.jc_body.specs.Attributes.{is_text, has_name}
use Rattle.jc_bootstraps.specs.Bootstraps.{bootstrap_bodies}
use Rattle.jc_plan.specs.Analysed.{all_probes}
use Rattle.jc_instrument_code.specs.CodeText.{attribute}
use Rattle.jc_instrument_code.specs.InitText.{added_text}
use Rattle.jc_instrument.specs.Contents.{Content}
use Rattle.jc_instrument.specs.Needed.{IsNextBootstrap, early_list, name_of, place_list, signed_id}
use Rattle.jc_instrument.specs.SameOutside.{AreAddedFields, AreClassAttributes, AreKeptAttributes, AreKeptMethods, IsInitMethod, IsKeptAttribute, IsKeptMethod, IsSameOutside, NamesField}
use Rattle.jc_instrument.specs.TwinText.{IsReadyFor, IsWritten, Writing, added_fields, code_with, constants_of, data_member, init_member, init_places, needs_of, twin_attributes, twin_class, twin_method, twin_methods, with_code, work_of}
use Rattle.jc_instrument.specs.BodiesWithStates.{BodyWithStates, all_frames, bodies_of}
use Rattle.jc_instrument.specs.declared.needs.MemberPlaces.{MemberPlaces}
use Rattle.jc_instrument.proofs.AttributesLaws.{more_kept}
use Rattle.jc_instrument.proofs.GrownPoolLaws.{pool_grown}
use Rattle.jc_instrument.proofs.StandingLaws.{MembersStand, OwnStand, each_listed, needs_stand}

-- ---- what stays

pub text_is : (name : List ℕ) (o : Option (List ℕ)) → is_text name o ≡ true → o ≡ Some name
text_is name None is = absurd (none is)
  where
    none : false ≡ true → ⊥
    none e = cc
text_is name (Some text) is = ap Some ((bytes_eq-Decides text name).0 is)

one_kept : (pool : PoolValue) (bytes : List ℕ) (a : Attribute) → IsKeptAttribute pool a (with_code pool bytes a)
one_kept pool bytes a = by (has_name pool (codes "Code") a) refl
  where
    by : (t : Bool) → has_name pool (codes "Code") a ≡ t → IsKeptAttribute pool a (if t then attribute a.name bytes else a)
    by true is = (refl, inr (text_is (codes "Code") (utf8_of pool a.name) is))
    by false is = (refl, inl refl)

all_kept : (pool : PoolValue) (bytes : List ℕ) (attributes : List Attribute) → AreKeptAttributes pool attributes (map (with_code pool bytes) attributes)
all_kept pool bytes [] = tt
all_kept pool bytes (a ∷ attributes) = (one_kept pool bytes a, all_kept pool bytes attributes)

same_kept : (pool : PoolValue) (attributes : List Attribute) → AreKeptAttributes pool attributes attributes
same_kept pool [] = tt
same_kept pool (a ∷ attributes) = ((refl, inl refl), same_kept pool attributes)

module _ (old : PoolValue) (code : BodyWithStates → List ℕ) where
  method_kept : (method : Member) (o : Option BodyWithStates) → IsKeptMethod old method (twin_method old code method o)
  method_kept method None = record { flags = refl; name = refl; desc = refl; attributes = same_kept old method.attributes }
  method_kept method (Some w) = record {
    flags = refl;
    name = refl;
    desc = refl;
    attributes = all_kept old (code w) method.attributes;
  }

  methods_kept : (works : List BodyWithStates) (number : ℕ) (methods : List Member)
      → AreKeptMethods old methods (map_from (λ number method. twin_method old code method (work_of number works)) number methods)
  methods_kept works number [] = tt
  methods_kept works number (m ∷ methods) = (method_kept m (work_of number works), methods_kept works (number + 1) methods)

-- ---- what is added

added_are : (fetch : Fetch) (pool : PoolValue) (owner : List ℕ) (p : MemberPlaces) → OwnStand fetch pool owner p → AreAddedFields fetch pool (added_fields fetch p)
added_are fetches.Member pool owner p own = (data_member p, refl, record { flags = refl; name = own.0; desc = own.1; attributes = refl })
added_are fetches.Constant pool owner p own = refl

field_named : (fetch : Fetch) (pool : PoolValue) (owner : List ℕ) (id : ℤ) (count : ℕ) (frames : List TypeStateAt) (p : MemberPlaces)
    → MembersStand fetch pool owner id count frames p → NamesField fetch pool owner (init_places p) p.frames p.array
field_named fetches.Member pool owner id count frames p stand = (stand.own.2, stand.own.4, stand.array_is)
field_named fetches.Constant pool owner id count frames p stand = tt

method_is : (fetch : Fetch) (pool : PoolValue) (owner : List ℕ) (id : ℤ) (count : ℕ) (frames : List TypeStateAt) (p : MemberPlaces)
    → MembersStand fetch pool owner id count frames p → IsInitMethod fetch pool owner id count (init_member fetch p count)
method_is fetch pool owner id count frames p stand = record {
  flags = refl;
  name = stand.init_name;
  desc = stand.init_type;
  code = attribute p.code (added_text fetch (init_places p) p.frames p.array count);
  attributes = refl;
  code_is = stand.code;
  places = init_places p;
  frames = p.frames;
  array = p.array;
  text = refl;
  field_is = field_named fetch pool owner id count frames p stand;
  id_is = stand.id_is;
  name_is = stand.name_is;
  count_is = stand.count_is;
  fetch_is = stand.fetch_is;
}

attributes_are : (fetch : Fetch) (old new : PoolValue) (owner : List ℕ) (bootstrap : ℕ) (p : MemberPlaces) (attributes : List Attribute)
    → IsNextBootstrap fetch (bootstrap_bodies old attributes) bootstrap → OwnStand fetch new owner p
    → AreClassAttributes fetch old new owner bootstrap attributes (twin_attributes fetch old bootstrap p attributes)
attributes_are fetches.Member old new owner bootstrap p attributes next own = refl
attributes_are fetches.Constant old new owner bootstrap p attributes next own =
    (p.handle, own.0, more_kept old p.handle bootstrap new p attributes refl own.1 next)

-- ---- the whole

module _ (id : ℕ) (names : Names) (array : ℕ) (works : List BodyWithStates) (c : ClassFile) (w : Writing) (ready : IsReadyFor id names array works c w) where
  abbrev needs : List Content
  needs = needs_of id names array c works w

  abbrev count : ℕ
  count = all_probes (bodies_of works)

  abbrev frames : List TypeStateAt
  frames = all_frames names (constants_of w) array works

  abbrev places : List ℕ
  places = early_list w.fetch w.early ++ (place_list w.fetch count frames w.places ++ ready.takes.class_places)

  stand : MembersStand w.fetch w.pool (name_of c) (signed_id id) count frames w.places
  stand = (needs_stand id names array c works w ready.takes).members

  class_kept : IsSameOutside id w.bootstrap needs count c (twin_class names array c works w)
  unfolding twin_class
  class_kept = record {
    minor = refl;
    major = refl;
    flags = refl;
    this_class = refl;
    super_class = refl;
    interfaces = refl;
    attributes = subst (λ (f : Fetch). AreClassAttributes f c.pool w.pool (name_of c) w.bootstrap c.attributes
        (twin_attributes w.fetch c.pool w.bootstrap w.places c.attributes)) ready.gets.fetch_is
        (attributes_are w.fetch c.pool w.pool (name_of c) w.bootstrap w.places c.attributes ready.gets.bootstrap_is stand.own);
    pool = pool_grown needs c.pool w.pool places (each_listed id names array c works w) ready.takes.takes;
    added = added_fields w.fetch w.places;
    fields = refl;
    added_are = subst (λ (f : Fetch). AreAddedFields f w.pool (added_fields w.fetch w.places)) ready.gets.fetch_is
        (added_are w.fetch w.pool (name_of c) w.places stand.own);
    kept = twin_methods c.pool (code_with names array w) works c.methods;
    method = init_member w.fetch w.places count;
    methods = refl;
    kept_are = methods_kept c.pool (code_with names array w) works 0 c.methods;
    method_is = subst (λ (f : Fetch). IsInitMethod f w.pool (name_of c) (signed_id id) count (init_member w.fetch w.places count)) ready.gets.fetch_is
        (method_is w.fetch w.pool (name_of c) (signed_id id) count frames w.places stand);
  }

pub same_outside : (id : ℕ) (names : Names) (array : ℕ) (works : List BodyWithStates) (c twin : ClassFile) → (w : IsWritten id names array works c twin)
    → IsSameOutside id w.with.bootstrap (needs_of id names array c works w.with) (all_probes (bodies_of works)) c twin
same_outside id names array works c twin w =
    subst (IsSameOutside id w.with.bootstrap (needs_of id names array c works w.with) (all_probes (bodies_of works)) c) (sym w.is)
    (class_kept id names array works c w.with w.ready)
