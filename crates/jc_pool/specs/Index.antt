-- What an index says of a pool: where equal entries stand first.
use Rattle.std.specs.Prelude.{◌≡◌, ◌≢◌, ◌⊎◌, ℕ, ◌+◌, ◌<◌, Bool, if◌then◌else◌, List, length, slice_index_or}
use Rattle.std.specs.Prelude.{IfSome, IsTrue, Option, Some, None, Result, Err, is_some}
use Rattle.std.specs.Map.{lookup}
use Rattle.std.specs.Str.{bytes_eq}
use Rattle.indexmap.specs.IndexMap.{spare}
use Rattle.jc_bytes.specs.Decoder.{◌>>=◌}
use Rattle.jc_bytes.specs.declared.fail.Fail.{Fail}
use Rattle.jc_bytes.specs.declared.fail.Fail.TheVariants as fails
use Rattle.jc_pool.specs.declared.add.PoolFull.{PoolFull}
use Rattle.jc_pool.specs.declared.entry.Entry.{Entry}
use Rattle.jc_pool.specs.declared.entry.Entry.TheVariants as entry
use Rattle.jc_pool.specs.declared.index.Key.{Key}
use Rattle.jc_pool.specs.declared.index.Key.TheVariants as key
use Rattle.jc_pool.specs.declared.index.Naming.{Naming}
use Rattle.jc_pool.specs.declared.index.Naming.TheVariants as naming
use Rattle.jc_pool.specs.declared.index.Index.{Index}
use Rattle.jc_pool.specs.declared.linked.ComputedText.{ComputedText}
use Rattle.jc_pool.specs.declared.members.NamedPlaces.{NamedPlaces}
use Rattle.jc_pool.specs.contracts.index.KeyPartialEq.TheImpl as equal
use Rattle.jc_pool.specs.Pool.{PoolValue}
use Rattle.jc_pool.specs.Lookup.{entry_of, utf8_in, utf8_of, class_name_of, string_of, Member, Computed, Handle}
use Rattle.jc_pool.specs.Adding.{IsFirst, Adds, PutsNaming, HasClass, PutsMember, bootstrap_constant}

-- ---- first places

-- below this place, this is found first there, or not at all
abbrev pub IsFirstBelow : {X : Type 0} → ℕ → (ℕ → Option X) → X → Option ℕ → Type 0
IsFirstBelow end found what (Some place) = (place < end) × IsFirst found what place
IsFirstBelow end found what None = (place : ℕ) → place < end → found place ≢ Some what

-- the table has the first place below this one of all that is found there
abbrev pub AreFirsts : {X : Type 0} → ℕ → (ℕ → Option X) → (X → Option ℕ) → Type 0
AreFirsts {X} end found table = (what : X) → IsFirstBelow end found what (table what)

-- this has its first place in the table, which stays; or it is put into the table with this place
abbrev pub Notes : {X : Type 0} → (X → Option ℕ) → (X → Option ℕ) → X → ℕ → ℕ → Type 0
Notes {X} old new what place first =
    ((old what ≡ Some first) × ((other : X) → new other ≡ old other))
    ⊎ ((old what ≡ None) × (first ≡ place)
    × ((other : X) → ((other ≢ what) × (new other ≡ old other)) ⊎ ((other ≡ what) × (new other ≡ Some place))))

-- the place of an entry is noted, where it names others
abbrev pub NotesEntry : (Key → Option ℕ) → (Key → Option ℕ) → Option Key → ℕ → Type 0
NotesEntry old new None place = (k : Key) → new k ≡ old k
NotesEntry old new (Some k) place = (first : ℕ) × Notes old new k place first

-- ---- texts

-- the place that the entries of a map have for a text, where this is the text of a key
abbrev pub text_place : {X : Type 0} → List (X × ℕ) → (X → List ℕ) → List ℕ → Option ℕ
text_place entries text_of text = lookup (λ x. bytes_eq text (text_of x)) entries

-- the place that stands for a place: the one in the table, and behind its end the place itself
abbrev pub standing_for : List ℕ → ℕ → ℕ
standing_for firsts place = slice_index_or firsts place place

-- where something is found at a place, the first such place stands for it, and every other place for itself
pub record AreStandins {X : Type 0} (found : ℕ → Option X) (end : ℕ) (firsts : List ℕ) : Type 0 where
  pub found_there : (place : ℕ) (what : X) → place < end → found place ≡ Some what → IsFirst found what (standing_for firsts place)
  pub others : (place : ℕ) → found place ≡ None → standing_for firsts place ≡ place

-- ---- keys

abbrev pub same_key : Key → Key → Bool
same_key = equal.ghosts.eq

-- the place that the entries of a map have for a key
abbrev pub key_place : List (Key × ℕ) → Key → Option ℕ
key_place entries k = lookup (same_key k) entries

-- the entry of this kind that names a place
abbrev pub entry_naming : Naming → ℕ → Entry
entry_naming naming.Class text = entry.Class text
entry_naming naming.String text = entry.String text

-- the text that an entry of this kind names
abbrev pub naming_of : Naming → PoolValue → ℕ → Option (List ℕ)
naming_of naming.Class pool place = class_name_of pool place
naming_of naming.String pool place = string_of pool place

-- the key of an entry of this kind whose text has this first place
abbrev pub key_naming : Naming → ℕ → Key
key_naming naming.Class text = key.Class text
key_naming naming.String text = key.String text

-- the place that the entries of a map have for such an entry
abbrev pub naming_place : List (Key × ℕ) → Naming → Option ℕ → Option ℕ
naming_place entries kind (Some text) = key_place entries (key_naming kind text)
naming_place entries kind None = None

-- the place that they have for a name and a descriptor, which have these first places
abbrev pub signature_place : (Key → Option ℕ) → Option ℕ → Option ℕ → Option ℕ
signature_place places (Some name) (Some descriptor) = places (key.Signature name descriptor)
signature_place places _ _ = None

-- the key of an entry that is a number, or names texts
abbrev pub key_in : List ℕ → Entry → Option Key
key_in firsts (entry.Integer value) = Some (key.Integer value)
key_in firsts (entry.Long value) = Some (key.Long value)
key_in firsts (entry.Class name) = Some (key.Class (standing_for firsts name))
key_in firsts (entry.String text) = Some (key.String (standing_for firsts text))
key_in firsts (entry.NameAndType name descriptor) = Some (key.Signature (standing_for firsts name) (standing_for firsts descriptor))
key_in firsts _ = None

-- the key of the entry at a place
unfoldable pub key_at : List ℕ → PoolValue → ℕ → Option Key
key_at firsts pool place = entry_of pool place >>= key_in firsts

-- a pool with an entry of this kind
abbrev pub HasNaming : Naming → PoolValue → List ℕ → PoolValue → ℕ → Type 0
HasNaming kind old text = Adds (naming_of kind) text old (PutsNaming old text (entry_naming kind))

-- ---- members

-- the tag of a field or a method and the places that it names, where the entry is one
abbrev pub named_places : Entry → Option NamedPlaces
named_places (entry.Fieldref class name_and_type) = Some (record { tag = 9; class = class; name_and_type = name_and_type })
named_places (entry.Methodref class name_and_type) = Some (record { tag = 10; class = class; name_and_type = name_and_type })
named_places (entry.InterfaceMethodref class name_and_type) = Some (record { tag = 11; class = class; name_and_type = name_and_type })
named_places _ = None

-- the same of what stands at a place
abbrev pub slot_places : Option Entry → Option NamedPlaces
slot_places slot = slot >>= named_places

-- the places that a field or a method names are below this one
abbrev pub NamesWithin : ℕ → Option Entry → Type 0
NamesWithin end slot = IfSome (slot_places slot) (λ named. (named.class < end) × (named.name_and_type < end))

-- the key of a member, by those of its class, and of its name and descriptor
abbrev pub member_key : ℕ → Option Key → Option Key → Option Key
member_key tag (Some (key.Class class)) (Some (key.Signature name descriptor)) = Some (key.Member tag class name descriptor)
member_key tag _ _ = None

-- the key of the member that names these places
abbrev pub places_key : List ℕ → PoolValue → NamedPlaces → Option Key
places_key firsts pool named = member_key named.tag (key_at firsts pool named.class) (key_at firsts pool named.name_and_type)

-- the key of the member at a place
abbrev pub member_key_at : List ℕ → PoolValue → ℕ → Option Key
member_key_at firsts pool place = slot_places (entry_of pool place) >>= places_key firsts pool

-- the key of a member with this tag, whose class, name and descriptor have these first places
abbrev pub texts_key : ℕ → Option ℕ → Option ℕ → Option ℕ → Option Key
texts_key tag (Some class) (Some name) (Some descriptor) = Some (key.Member tag class name descriptor)
texts_key tag _ _ _ = None

-- Each field and each method in the pool names places of the pool alone, and the table has the first place of each.
pub record AreMembersOf (pool : PoolValue) (firsts : List ℕ) (places : Key → Option ℕ) : Type 0 where
  pub within : (place : ℕ) → NamesWithin (length pool) (entry_of pool place)
  pub first : AreFirsts (length pool) (member_key_at firsts pool) places

-- ---- method handles and computed constants

-- the constant that these texts are of
abbrev pub computed : ComputedText → Computed
computed c = bootstrap_constant c.bootstrap c.name.now c.desc.now

-- the handle of this kind to a member
abbrev pub handle : ℕ → Member → Handle
handle kind m = record { kind = kind; target = m }

-- the key of a name and a descriptor, which have these first places
abbrev pub signature_key : Option ℕ → Option ℕ → Option Key
signature_key (Some name) (Some descriptor) = Some (key.Signature name descriptor)
signature_key _ _ = None

-- the key of a method handle, by that of its member
abbrev pub handle_key : ℕ → Option Key → Option Key
handle_key kind (Some (key.Member tag class name descriptor)) = Some (key.Handle kind tag class name descriptor)
handle_key kind _ = None

-- the key of a computed constant, by that of its name and descriptor
abbrev pub computed_key : ℕ → Option Key → Option Key
computed_key bootstrap (Some (key.Signature name descriptor)) = Some (key.Computed bootstrap name descriptor)
computed_key bootstrap _ = None

-- the key of an entry, where it is one of these
abbrev pub linked_key : List ℕ → PoolValue → Entry → Option Key
linked_key firsts pool (entry.MethodHandle kind reference) = handle_key kind (member_key_at firsts pool reference)
linked_key firsts pool (entry.Dynamic bootstrap name_and_type) = computed_key bootstrap (key_at firsts pool name_and_type)
linked_key firsts pool _ = None

-- the key of the one at a place
abbrev pub linked_key_at : List ℕ → PoolValue → ℕ → Option Key
linked_key_at firsts pool place = entry_of pool place >>= linked_key firsts pool

-- ---- the index

-- the tables have the first place of each text and of each key of a pool, and the place that stands for each place
pub record AreTables (pool : PoolValue) (text_places : List ℕ → Option ℕ) (firsts : List ℕ) (key_places : Key → Option ℕ) : Type 0 where
  pub texts : AreFirsts (length pool) (utf8_of pool) text_places
  pub standins : AreStandins (utf8_of pool) (length pool) firsts
  pub keys : AreFirsts (length pool) (key_at firsts pool) key_places

-- the tables of an index are those of the pool, and so is that of its members, if it is looked at
pub record IsIndexOf (pool : PoolValue) (index : Index) : Type 0 where
  pub tables : AreTables pool (text_place index.texts.entries (λ x. x.items)) index.firsts.items (key_place index.keys.entries)
  pub members : IsTrue index.members.within → AreMembersOf pool index.firsts.items (key_place index.members.keys.entries)

-- one more entry can be noted
abbrev pub HasSpare : Index → Type 0
HasSpare index = (0 < spare index.keys) × (0 < spare index.members.keys)

-- ---- what a member lacks

-- the places of texts, where this text is put at this place
abbrev pub with_text : (List ℕ → Option ℕ) → Option (List ℕ × ℕ) → List ℕ → Option ℕ
with_text places None text = places text
with_text places (Some put) text = if bytes_eq text put.0 then Some put.1 else places text

-- the text that is put at the place, if one is
abbrev pub new_name : Bool → List ℕ → ℕ → Option (List ℕ × ℕ)
new_name put text place = if put then Some (text, place) else None

-- how many places a text lacks that has this place
abbrev pub absent : Option ℕ → ℕ
absent place = if is_some place then 0 else 1

-- how many places a NameAndType entry and its texts lack, where an equal one and the texts have these places
abbrev pub missing_signature : Option ℕ → Bool → Option ℕ → Option ℕ → ℕ
missing_signature (Some place) same name desc = 0
missing_signature None same name desc = absent name + (if same then 0 else absent desc) + 1

-- A pool with the class is so many places longer. In it the texts have the places that they have in the pool, but for
-- the one that is put, and so have all names with descriptors.
pub record IsClassed (pool : PoolValue) (index : Index) (class : List ℕ) (missing : ℕ) (put : Option (List ℕ × ℕ)) : Type 0 where
  pub classed : PoolValue
  pub place : ℕ
  pub has : HasClass pool class classed place
  pub size : length classed ≡ length pool + missing
  pub keys : Key → Option ℕ
  pub tables : AreTables classed (with_text (text_place index.texts.entries (λ x. x.items)) put) index.firsts.items keys
  pub signatures : (name descriptor : ℕ) → keys (key.Signature name descriptor) ≡ key_place index.keys.entries (key.Signature name descriptor)

-- a pool in which this is put is so many places longer
abbrev pub GrowsBy : PoolValue → (PoolValue → ℕ → Type 0) → ℕ → Type 0
GrowsBy pool Put missing = (grown : PoolValue) × (place : ℕ) × Put grown place × (length grown ≡ length pool + missing)

-- a pool with the member is so many places longer
abbrev pub Lacks : PoolValue → Member → ℕ → Type 0
Lacks pool m missing = GrowsBy pool (PutsMember pool m) missing

-- the text of what stands at a place
abbrev pub text_in : Option Entry → Option (List ℕ)
text_in slot = slot >>= utf8_in

-- the key of what stands at a place
abbrev pub slot_key : List ℕ → Option Entry → Option Key
slot_key firsts slot = slot >>= key_in firsts

-- the first place of a text is noted; where there is no text, it is the place itself
abbrev pub NotesText : (List ℕ → Option ℕ) → (List ℕ → Option ℕ) → Option (List ℕ) → ℕ → ℕ → Type 0
NotesText old new None place first = (first ≡ place) × ((text : List ℕ) → new text ≡ old text)
NotesText old new (Some text) place first = Notes old new text place first

-- how many places an entry lacks that names a text, which has this place
abbrev pub missing : Option ℕ → ℕ
missing named = if is_some named then 1 else 2

-- a refusal names this count, which is above the limit (JVM Specification 4.1)
abbrev pub CountsTo : {X : Type 0} → Result X (Fail PoolFull) → ℕ → Type 0
CountsTo (Err (fails.Said full)) count = (full.count ≡ count) × (65535 < count)
CountsTo _ count = Unit {0}
