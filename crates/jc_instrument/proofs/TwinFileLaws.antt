-- The twin class that is written is a class file where the texts of its attributes are not too long.
use Rattle.std.proofs.Common.{◌≡◌, ◌⊎◌, inl, inr, ℕ, ◌≤◌, ◌<◌, Bool, true, false, ◌||◌, List, [], ◌∷◌, ◌++◌, length, Some, refl, sym, ◌∙◌, ap, subst, arith}
use Rattle.std.specs.List.{AllByRecursion, list_any}
use Rattle.std.proofs.lemmas.Bool.{cases_lt, ltb-false}
use Rattle.std.proofs.lemmas.List.{append-nil, length-append}
use Rattle.jc_instrument_reread.proofs.KeptEntryLaws.{init_described}
use Rattle.jc_instrument_reread.proofs.InitAgainLaws.{data_described}
use Rattle.jc_bytes.proofs.EachLaws.{all_both, all_weaker, all_behind}
use Rattle.jc_methods.specs.ProbeMembers.{bootstrap_type, bootstraps_name, data_name, data_type, fetch_of, init_name}
use Rattle.jc_methods.specs.declared.probe_members.Fetch.{Fetch}
use Rattle.jc_methods.specs.declared.probe_members.Fetch.TheVariants as fetches
use Rattle.jc_bytes.specs.Deciding.{after_types}
use Rattle.jc_bytes.specs.DescriptorReading.{after_type, after_brackets, after_name}
use Rattle.jc_bytes.specs.Descriptor.{IsMethodDescriptor}
use Rattle.jc_bytes.proofs.DecidingLaws.{method_text_decided}
use Rattle.jc_pool.specs.Adding.{Extends}
use Rattle.jc_pool.specs.Lookup.{utf8_of}
use Rattle.jc_pool.specs.Pool.{PoolValue}
use Rattle.jc_pool.specs.declared.index.Naming.TheVariants as naming
use Rattle.jc_pool.proofs.AddedLaws.{naming_kept, utf8_kept}
use Rattle.jc_class.specs.ClassFormat.{HasClass, HasFieldDescriptor, HasMethodDescriptor, HasSuper, HasText, IsConstant, NamesPlace}
use Rattle.jc_class.specs.Writable.{AreCounted, IsAttribute, IsClassFile, IsMember, NamesItsConstants}
use Rattle.jc_class.specs.declared.class_file.Attribute.{Attribute}
use Rattle.jc_class.specs.declared.class_file.ClassFile.{ClassFile}
use Rattle.jc_class.specs.declared.class_file.Member.{Member}
use Rattle.jc_instrument.specs.Contents.{Content}
use Rattle.jc_instrument.specs.Changing.{AreShort, AreShortIn, has_too_long, is_too_long}
use Rattle.jc_instrument.specs.Causes.{Never}
use Rattle.jc_instrument.specs.Needed.{name_of}
use Rattle.jc_instrument.specs.RoomCauses.{HasBadBootstraps, IsFull}
use Rattle.jc_instrument_reread.specs.Written.{added_type}
use Rattle.jc_instrument.specs.SameOutside.{AreAddedFields, AreClassAttributes, AreKeptAttributes, AreKeptMethods, AreKeptOrLonger, IsSameOutside}
use Rattle.jc_instrument.proofs.AttributesLaws.{room_left}

-- ---- lists of parts

all_front : {X : Type 0} (P : X → Type 0) (xs ys : List X) → AllByRecursion P (xs ++ ys) → AllByRecursion P xs
all_front P [] ys all = tt
all_front P (x ∷ xs) ys all = (all.0, all_front P xs ys all.1)

one_more : {X : Type 0} (xs : List X) (x : X) → length xs ≤ 65535 → (length xs ≡ 65535 → ⊥) → length (xs ++ x ∷ []) ≤ 65535
one_more xs x few room = by (cases_lt 65534 (length xs))
  where
    by : (65534 < length xs) ⊎ (length xs ≤ 65534) → length (xs ++ x ∷ []) ≤ 65535
    by (inl full) = absurd (room (omega (arith, few, full)))
    by (inr less) = let count = length-append xs (x ∷ []) in omega (arith, count, less)

-- a test that holds of no item of the list
none_holds : {X : Type 0} (p : X → Bool) (P : X → Type 0) → ((x : X) → p x ≡ false → P x) → (xs : List X) → list_any p xs ≡ false → AllByRecursion P xs
none_holds p P turn [] none = tt
none_holds p P turn (x ∷ xs) none = by (p x) refl none (λ others. none_holds p P turn xs others)
  where
    by : (t : Bool) → p x ≡ t → (t || list_any p xs) ≡ false → (list_any p xs ≡ false → AllByRecursion P xs) → P x × AllByRecursion P xs
    by true is none later = absurd (no none)
      where
        no : true ≡ false → ⊥
        no e = cc
    by false is none later = (turn x is, later none)

short_enough : (a : Attribute) → is_too_long a ≡ false → length a.body ≤ 4294967295
short_enough a is = ltb-false 4294967295 (length a.body) is

pub short_attributes : (attributes : List Attribute) → list_any is_too_long attributes ≡ false → AreShort attributes
short_attributes attributes none = none_holds is_too_long (λ a. length a.body ≤ 4294967295) short_enough attributes none

pub are_short : (methods : List Member) → list_any has_too_long methods ≡ false → AreShortIn methods
are_short methods none =
    none_holds has_too_long (λ m. AreShort m.attributes)
    (λ m fits. short_attributes m.attributes fits) methods none

-- ---- what the grown pool has

module _ (old new : PoolValue) (more : Extends old new) where
  text_kept : (place : ℕ) → HasText old place → HasText new place
  text_kept place has = (has.0, utf8_kept old new has.0 place more has.1)

  class_kept : (place : ℕ) → HasClass old place → HasClass new place
  class_kept place has = (has.0, naming_kept naming.Class old new has.0 place more has.1, has.2)

  super_kept : (place : ℕ) → HasSuper old place → HasSuper new place
  super_kept place (inl none) = inl none
  super_kept place (inr has) = inr (class_kept place has)

  field_kept : (place : ℕ) → HasFieldDescriptor old place → HasFieldDescriptor new place
  field_kept place has = (has.0, utf8_kept old new has.0 place more has.1, has.2)

  method_kept : (place : ℕ) → HasMethodDescriptor old place → HasMethodDescriptor new place
  method_kept place has = (has.0, utf8_kept old new has.0 place more has.1, has.2)

  attribute_kept : (a : Attribute) → IsAttribute (HasText old) a → IsAttribute (HasText new) a
  attribute_kept a is = record { name = text_kept a.name is.name; size = is.size }

  attributes_kept : (l : List Attribute) → AreCounted (IsAttribute (HasText old)) l → AreCounted (IsAttribute (HasText new)) l
  attributes_kept l are = record { few = are.few; each = all_weaker (IsAttribute (HasText old)) (IsAttribute (HasText new)) attribute_kept l are.each }

  member_kept : (m : Member) → IsMember (HasText old) (HasFieldDescriptor old) m → IsMember (HasText new) (HasFieldDescriptor new) m
  member_kept m is = record {
    name = text_kept m.name is.name;
    desc = field_kept m.desc is.desc;
    attributes = attributes_kept m.attributes is.attributes;
  }

  -- a place below the old count is below the new one
  place_kept : (body : List ℕ) → NamesPlace old body → NamesPlace new body
  place_kept (high ∷ low ∷ []) names =
      let longer = ap (λ (l : PoolValue). length l) more.1 ∙ length-append old more.0 in
      omega (arith, names, longer)
  place_kept body names = tt

  -- what has a text in the old pool has no other in the new one
  old_text : (place : ℕ) → HasText old place → (text : List ℕ) → utf8_of new place ≡ Some text → utf8_of old place ≡ Some text
  old_text place has text is = has.1 ∙ sym (utf8_kept old new has.0 place more has.1) ∙ is

  constants_in : (flags : ℕ) (l : List Attribute) → AllByRecursion (IsAttribute (HasText old)) l
      → AllByRecursion (λ (a : Attribute). IsConstant old flags a.name → NamesPlace old a.body) l
      → AllByRecursion (λ (a : Attribute). IsConstant new flags a.name → NamesPlace new a.body) l
  constants_in flags [] are named = tt
  constants_in flags (a ∷ l) are named = (
    (λ is. place_kept a.body (named.0 (is.0, old_text a.name are.0.name _ is.1))),
    constants_in flags l are.1 named.1,
  )

  constants_kept : (fields : List Member) → AllByRecursion (IsMember (HasText old) (HasFieldDescriptor old)) fields
      → AllByRecursion (NamesItsConstants old) fields → AllByRecursion (NamesItsConstants new) fields
  constants_kept [] are named = tt
  constants_kept (m ∷ fields) are named =
      (constants_in m.flags m.attributes are.0.attributes.each named.0, constants_kept fields are.1 named.1)

  -- attributes with other texts, which are short
  coded_attributes : (olds news : List Attribute) → AreKeptAttributes old olds news → AllByRecursion (IsAttribute (HasText old)) olds → AreShort news
      → AllByRecursion (IsAttribute (HasText new)) news
  coded_attributes [] [] kept are short = tt
  coded_attributes [] (b ∷ news) kept are short = absurd kept
  coded_attributes (a ∷ olds) [] kept are short = absurd kept
  coded_attributes (a ∷ olds) (b ∷ news) kept are short = (
    record { name = subst (HasText new) (sym kept.0.0) (text_kept a.name are.0.name); size = short.0 },
    coded_attributes olds news kept.1 are.1 short.1,
  )

  same_count : (olds news : List Attribute) → AreKeptAttributes old olds news → length news ≡ length olds
  same_count [] [] kept = refl
  same_count [] (b ∷ news) kept = absurd kept
  same_count (a ∷ olds) [] kept = absurd kept
  same_count (a ∷ olds) (b ∷ news) kept = let same = same_count olds news kept.1 in omega (arith, same)

  coded_methods : (ms ns : List Member) → AreKeptMethods old ms ns → AllByRecursion (IsMember (HasText old) (HasMethodDescriptor old)) ms
      → AreShortIn ns → AllByRecursion (IsMember (HasText new) (HasMethodDescriptor new)) ns
  coded_methods [] [] kept are short = tt
  coded_methods [] (n ∷ ns) kept are short = absurd kept
  coded_methods (m ∷ ms) [] kept are short = absurd kept
  coded_methods (m ∷ ms) (n ∷ ns) kept are short =
      let same = same_count m.attributes n.attributes kept.0.attributes in
      let few = are.0.attributes.few in (
        record {
          name = subst (HasText new) (sym kept.0.name) (text_kept m.name are.0.name);
          desc = subst (HasMethodDescriptor new) (sym kept.0.desc) (method_kept m.desc are.0.desc);
          attributes = record {
            few = omega (arith, same, few);
            each = coded_attributes m.attributes n.attributes kept.0.attributes are.0.attributes.each short.0;
          };
        },
        coded_methods ms ns kept.1 are.1 short.1,
      )

  same_methods : (ms ns : List Member) → AreKeptMethods old ms ns → length ns ≡ length ms
  same_methods [] [] kept = refl
  same_methods [] (n ∷ ns) kept = absurd kept
  same_methods (m ∷ ms) [] kept = absurd kept
  same_methods (m ∷ ms) (n ∷ ns) kept = let same = same_methods ms ns kept.1 in omega (arith, same)

-- ---- what is added

-- without an attribute there is no constant
no_constant : (pool : PoolValue) (field : Member) → field.attributes ≡ [] → NamesItsConstants pool field
no_constant pool field none = subst (AllByRecursion (λ (a : Attribute). IsConstant pool field.flags a.name → NamesPlace pool a.body)) (sym none) tt

bootstrap_described : IsMethodDescriptor bootstrap_type
unfolding after_types after_type after_brackets after_name
bootstrap_described = (method_text_decided bootstrap_type).to refl

type_described : (fetch : Fetch) → IsMethodDescriptor (added_type fetch)
type_described fetches.Member = init_described
type_described fetches.Constant = bootstrap_described

-- ---- the field that is added, where one is

fields_few : (fetch : Fetch) (c : ClassFile) (pool : PoolValue) (added : List Member) → AreAddedFields fetch pool added → length c.fields ≤ 65535
    → (IsFull fetch c → ⊥) → length (c.fields ++ added) ≤ 65535
fields_few fetches.Member c pool added are few room =
    subst (λ (l : List Member). length (c.fields ++ l) ≤ 65535) (sym are.1) (one_more c.fields are.0 few (λ full. room (inl full)))
fields_few fetches.Constant c pool added none few room =
    subst (λ (l : List Member). length l ≤ 65535) (sym (ap (λ (l : List Member). c.fields ++ l) none ∙ append-nil c.fields)) few

fields_added : (fetch : Fetch) (pool : PoolValue) (added : List Member) → AreAddedFields fetch pool added
    → AllByRecursion (IsMember (HasText pool) (HasFieldDescriptor pool)) added × AllByRecursion (NamesItsConstants pool) added
fields_added fetches.Member pool added are =
    let field = are.0 in
    let is = are.2 in
    subst (λ (l : List Member). AllByRecursion (IsMember (HasText pool) (HasFieldDescriptor pool)) l × AllByRecursion (NamesItsConstants pool) l) (sym are.1) (
      (
        record {
          name = (data_name, is.name);
          desc = (data_type, is.desc, data_described);
          attributes = subst (AreCounted (IsAttribute (HasText pool))) (sym is.attributes) (record { few = omega arith; each = tt });
        },
        tt,
      ),
      (no_constant pool field is.attributes, tt),
    )
fields_added fetches.Constant pool added none =
    subst (λ (l : List Member). AllByRecursion (IsMember (HasText pool) (HasFieldDescriptor pool)) l × AllByRecursion (NamesItsConstants pool) l) (sym none) (tt, tt)

method_room : (fetch : Fetch) (c : ClassFile) → (IsFull fetch c → ⊥) → length c.methods ≡ 65535 → ⊥
method_room fetches.Member c room full = room (inr full)
method_room fetches.Constant c room full = room full

-- ---- the attributes of the class

module _ (old new : PoolValue) (more : Extends old new) (bootstrap handle : ℕ) where
  longer_attributes : (olds news : List Attribute) → AreKeptOrLonger old bootstrap handle olds news → AllByRecursion (IsAttribute (HasText old)) olds → AreShort news
      → AllByRecursion (IsAttribute (HasText new)) news
  longer_attributes [] [] kept are short = tt
  longer_attributes [] (b ∷ news) kept are short = absurd kept
  longer_attributes (a ∷ olds) [] kept are short = absurd kept
  longer_attributes (a ∷ olds) (b ∷ news) kept are short = (
    record { name = subst (HasText new) (sym kept.0.0) (text_kept old new more a.name are.0.name); size = short.0 },
    longer_attributes olds news kept.1 are.1 short.1,
  )

  longer_count : (olds news : List Attribute) → AreKeptOrLonger old bootstrap handle olds news → length news ≡ length olds
  longer_count [] [] kept = refl
  longer_count [] (b ∷ news) kept = absurd kept
  longer_count (a ∷ olds) [] kept = absurd kept
  longer_count (a ∷ olds) (b ∷ news) kept = let same = longer_count olds news kept.1 in omega (arith, same)

class_attributes : (fetch : Fetch) (c : ClassFile) (new : PoolValue) (bootstrap : ℕ) (others : List Attribute) → fetch_of c.major ≡ fetch → Extends c.pool new
    → Never (HasBadBootstraps c) → AreClassAttributes fetch c.pool new (name_of c) bootstrap c.attributes others
    → AreCounted (IsAttribute (HasText c.pool)) c.attributes → AreShort others → AreCounted (IsAttribute (HasText new)) others
class_attributes fetches.Member c new bootstrap others by more never same are short =
    subst (AreCounted (IsAttribute (HasText new))) (sym same) (attributes_kept c.pool new more c.attributes are)
class_attributes fetches.Constant c new bootstrap others by more never (handle, there, inl kept) are short =
    let count = longer_count c.pool new more bootstrap handle c.attributes others kept.1 in
    let few = are.few in
    record { few = omega (arith, count, few); each = longer_attributes c.pool new more bootstrap handle c.attributes others kept.1 are.each short }
class_attributes fetches.Constant c new bootstrap others by more never (handle, there, inr fresh) are short =
    let out = fresh.1 in
    let own = all_behind (λ (a : Attribute). length a.body ≤ 4294967295) c.attributes (out.attribute ∷ []) (subst AreShort out.is short) in
    subst (AreCounted (IsAttribute (HasText new))) (sym out.is) (record {
      few = one_more c.attributes out.attribute are.few (room_left c new handle others never by out);
      each = all_both (IsAttribute (HasText new)) c.attributes (out.attribute ∷ []) (attributes_kept c.pool new more c.attributes are).each
          (record { name = (bootstraps_name, out.name); size = own.0 }, tt);
    })

-- ---- the class

pub twin_is_class : (id bootstrap : ℕ) (needs : List Content) (count : ℕ) (c twin : ClassFile) → IsClassFile c → (IsFull (fetch_of c.major) c → ⊥)
    → Never (HasBadBootstraps c) → IsSameOutside id bootstrap needs count c twin → AreShortIn twin.methods → AreShort twin.attributes → IsClassFile twin
twin_is_class id bootstrap needs count c twin is room never out short short_attributes =
    let old = c.pool in
    let new = twin.pool in
    let more = out.pool.extends in
    let fetch = fetch_of c.major in
    let all_short = subst AreShortIn out.methods short in
    let kept_short = all_front (λ (m : Member). AreShort m.attributes) out.kept (out.method ∷ []) all_short in
    let own_short = subst AreShort out.method_is.attributes (all_behind (λ (m : Member). AreShort m.attributes) out.kept (out.method ∷ []) all_short).0 in
    let count = same_methods old new more c.methods out.kept out.kept_are in
    let few = is.methods.few in
    let most : length out.kept ≤ 65535 = omega (arith, count, few) in
    let added = fields_added fetch new out.added out.added_are in
    record {
      this_class = subst (HasClass new) (sym out.this_class) (class_kept old new more c.this_class is.this_class);
      super_class = subst (HasSuper new) (sym out.super_class) (super_kept old new more c.super_class is.super_class);
      interfaces = subst (AreCounted (HasClass new)) (sym out.interfaces)
          (record { few = is.interfaces.few; each = all_weaker (HasClass old) (HasClass new) (class_kept old new more) c.interfaces is.interfaces.each });
      fields = subst (AreCounted (IsMember (HasText new) (HasFieldDescriptor new))) (sym out.fields) (record {
        few = fields_few fetch c new out.added out.added_are is.fields.few room;
        each = all_both (IsMember (HasText new) (HasFieldDescriptor new)) c.fields out.added
            (all_weaker (IsMember (HasText old) (HasFieldDescriptor old)) (IsMember (HasText new) (HasFieldDescriptor new)) (member_kept old new more) c.fields is.fields.each)
            added.0;
      });
      constants = subst (AllByRecursion (NamesItsConstants new)) (sym out.fields)
          (all_both (NamesItsConstants new) c.fields out.added (constants_kept old new more c.fields is.fields.each is.constants) added.1);
      methods = subst (AreCounted (IsMember (HasText new) (HasMethodDescriptor new))) (sym out.methods) (record {
        few = one_more out.kept out.method most (λ full. method_room fetch c room (sym count ∙ full));
        each = all_both (IsMember (HasText new) (HasMethodDescriptor new)) out.kept (out.method ∷ [])
            (coded_methods old new more c.methods out.kept out.kept_are is.methods.each kept_short) (
              record {
                name = (init_name, out.method_is.name);
                desc = (added_type fetch, out.method_is.desc, type_described fetch);
                attributes = subst (AreCounted (IsAttribute (HasText new))) (sym out.method_is.attributes)
                    (record { few = omega arith; each = (record { name = (_, out.method_is.code_is); size = own_short.0 }, tt) });
              },
              tt,
            );
      });
      attributes = class_attributes fetch c new bootstrap twin.attributes refl more never out.attributes is.attributes short_attributes;
    }
