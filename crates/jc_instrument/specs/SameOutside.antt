-- What stays of a class that gets its probes, and what is added to it.
use Rattle.std.specs.Prelude.{◌≡◌, ◌≢◌, ◌⊎◌, ⊤, ℕ, ℤ, List, [], ◌∷◌, ◌++◌, length, Contains, Some, codes, nat_le}
use Rattle.jc_pool.specs.Lookup.{utf8_of, class_name_of, string_of, long_of, member_of, handle_of}
use Rattle.jc_pool.specs.Pool.{PoolValue}
use Rattle.jc_bootstraps.specs.Bootstraps.{Bootstrap, bootstraps, with_bootstrap}
use Rattle.jc_class.specs.declared.class_file.Attribute.{Attribute}
use Rattle.jc_class.specs.declared.class_file.ClassFile.{ClassFile}
use Rattle.jc_class.specs.declared.class_file.Member.{Member}
use Rattle.jc_emit.specs.Added.{InitPlaces}
use Rattle.jc_methods.specs.ProbeMembers.{data_name, data_type, data_flags, init_name, init_flags, bootstraps_name, fetch_of, most_short}
use Rattle.jc_methods.specs.declared.probe_members.Fetch.{Fetch}
use Rattle.jc_methods.specs.declared.probe_members.Fetch.TheVariants as fetches
use Rattle.jc_instrument.specs.Contents.{Content}
use Rattle.jc_instrument.specs.GrownPool.{IsGrown}
use Rattle.jc_instrument_code.specs.InitText.{added_text}
use Rattle.jc_instrument.specs.Needed.{bootstrap_handle, name_of, signed_id}
use Rattle.jc_instrument_reread.specs.Written.{data_field, fetch_method, added_type, HasCountEntry}

-- ---- what stays

-- the same attribute, or another Code attribute in its place
abbrev pub IsKeptAttribute : PoolValue → Attribute → Attribute → Type 0
IsKeptAttribute pool a new = (new.name ≡ a.name) × ((new.body ≡ a.body) ⊎ (utf8_of pool a.name ≡ Some (codes "Code")))

abbrev pub AreKeptAttributes : PoolValue → List Attribute → List Attribute → Type 0
AreKeptAttributes pool [] [] = ⊤
AreKeptAttributes pool (a ∷ olds) (b ∷ news) = IsKeptAttribute pool a b × AreKeptAttributes pool olds news
AreKeptAttributes pool _ _ = ⊥

-- a method is as before but for its code
pub record IsKeptMethod (pool : PoolValue) (method new : Member) : Type 0 where
  pub flags : new.flags ≡ method.flags
  pub name : new.name ≡ method.name
  pub desc : new.desc ≡ method.desc
  pub attributes : AreKeptAttributes pool method.attributes new.attributes

abbrev pub AreKeptMethods : PoolValue → List Member → List Member → Type 0
AreKeptMethods pool [] [] = ⊤
AreKeptMethods pool (m ∷ ms) (n ∷ ns) = IsKeptMethod pool m n × AreKeptMethods pool ms ns
AreKeptMethods pool _ _ = ⊥

-- ---- what is added

-- the field that keeps the probe array
pub record IsDataField (pool : PoolValue) (added : Member) : Type 0 where
  pub flags : added.flags ≡ data_flags
  pub name : utf8_of pool added.name ≡ Some data_name
  pub desc : utf8_of pool added.desc ≡ Some data_type
  pub attributes : added.attributes ≡ []

-- the fields that are added
abbrev pub AreAddedFields : Fetch → PoolValue → List Member → Type 0
AreAddedFields fetches.Member pool added = (field : Member) × (added ≡ field ∷ []) × IsDataField pool field
AreAddedFields fetches.Constant pool added = added ≡ []

-- what the field's getter names beside
abbrev pub NamesField : Fetch → PoolValue → (owner : List ℕ) → InitPlaces → (frames array : ℕ) → Type 0
NamesField fetches.Member pool owner places frames array =
    (member_of pool places.field ≡ Some (data_field owner))
    × (utf8_of pool frames ≡ Some (codes "StackMapTable"))
    × (class_name_of pool array ≡ Some data_type)
NamesField fetches.Constant pool owner places frames array = ⊤

-- The method that gives the probe array of the class with this name and this id, which has so many probes. It has one
-- attribute, of which each byte is told: no other spelling of its code is meant.
pub record IsInitMethod (fetch : Fetch) (pool : PoolValue) (owner : List ℕ) (id : ℤ) (count : ℕ) (added : Member) : Type 0 where
  pub flags : added.flags ≡ init_flags
  pub name : utf8_of pool added.name ≡ Some init_name
  pub desc : utf8_of pool added.desc ≡ Some (added_type fetch)
  pub code : Attribute
  pub attributes : added.attributes ≡ code ∷ []
  pub code_is : utf8_of pool code.name ≡ Some (codes "Code")
  pub places : InitPlaces
  pub frames : ℕ
  pub array : ℕ
  pub text : code.body ≡ added_text fetch places frames array count
  pub field_is : NamesField fetch pool owner places frames array
  pub id_is : long_of pool places.id ≡ Some id
  pub name_is : string_of pool places.name ≡ Some owner
  pub count_is : HasCountEntry (nat_le count most_short) pool count places.count
  pub fetch_is : member_of pool places.fetch ≡ Some fetch_method

-- ---- the bootstrap method

-- what the attribute holds with one more bootstrap method, behind so many: the others are as before, byte by byte
pub record IsLongerBootstraps (bootstrap handle : ℕ) (old new : List ℕ) : Type 0 where
  pub entries : List Bootstrap
  pub form : bootstraps.Text old entries
  pub number : bootstrap ≡ length entries
  pub is : new ≡ with_bootstrap handle bootstrap old

-- the attribute is as before, or it is the one of bootstrap methods and has one more
abbrev pub IsKeptOrLonger : PoolValue → (bootstrap handle : ℕ) → Attribute → Attribute → Type 0
IsKeptOrLonger pool bootstrap handle a new =
    (new.name ≡ a.name)
    × (((utf8_of pool a.name ≡ Some bootstraps_name) × IsLongerBootstraps bootstrap handle a.body new.body)
    ⊎ ((utf8_of pool a.name ≢ Some bootstraps_name) × (new.body ≡ a.body)))

abbrev pub AreKeptOrLonger : PoolValue → (bootstrap handle : ℕ) → List Attribute → List Attribute → Type 0
AreKeptOrLonger pool bootstrap handle [] [] = ⊤
AreKeptOrLonger pool bootstrap handle (a ∷ olds) (b ∷ news) = IsKeptOrLonger pool bootstrap handle a b × AreKeptOrLonger pool bootstrap handle olds news
AreKeptOrLonger pool bootstrap handle _ _ = ⊥

-- no attribute has the name, and one is put behind all others
pub record IsNewBootstraps (old new : PoolValue) (handle : ℕ) (attributes added : List Attribute) : Type 0 where
  pub none : (a : Attribute) → Contains attributes a → utf8_of old a.name ≢ Some bootstraps_name
  pub attribute : Attribute
  pub name : utf8_of new attribute.name ≡ Some bootstraps_name
  pub body : attribute.body ≡ with_bootstrap handle 0 []
  pub is : added ≡ attributes ++ attribute ∷ []

-- one of them has the name
abbrev pub SomeOfName : PoolValue → List Attribute → Type 0
SomeOfName pool attributes = (a : Attribute) × Contains attributes a × (utf8_of pool a.name ≡ Some bootstraps_name)

-- The attributes of the class. One more bootstrap method is the added one, by its handle and without arguments; its number is this one.
abbrev pub AreClassAttributes : Fetch → (old new : PoolValue) → (owner : List ℕ) → (bootstrap : ℕ) → List Attribute → List Attribute → Type 0
AreClassAttributes fetches.Member old new owner bootstrap attributes others = others ≡ attributes
AreClassAttributes fetches.Constant old new owner bootstrap attributes others =
    (handle : ℕ) × (handle_of new handle ≡ Some (bootstrap_handle owner))
    × ((SomeOfName old attributes × AreKeptOrLonger old bootstrap handle attributes others)
    ⊎ ((bootstrap ≡ 0) × IsNewBootstraps old new handle attributes others))

-- ---- the class

-- Outside of code the two are the same, but for these needs of the pool, the members that are added and, where the array is given by a
-- constant, one more bootstrap method. The method gives the array of so many probes of the class with this id.
pub record IsSameOutside (id : ℕ) (bootstrap : ℕ) (needs : List Content) (count : ℕ) (c twin : ClassFile) : Type 0 where
  pub minor : twin.minor ≡ c.minor
  pub major : twin.major ≡ c.major
  pub flags : twin.flags ≡ c.flags
  pub this_class : twin.this_class ≡ c.this_class
  pub super_class : twin.super_class ≡ c.super_class
  pub interfaces : twin.interfaces ≡ c.interfaces
  pub attributes : AreClassAttributes (fetch_of c.major) c.pool twin.pool (name_of c) bootstrap c.attributes twin.attributes
  pub pool : IsGrown c.pool twin.pool needs
  pub added : List Member
  pub fields : twin.fields ≡ c.fields ++ added
  pub added_are : AreAddedFields (fetch_of c.major) twin.pool added
  pub kept : List Member
  pub method : Member
  pub methods : twin.methods ≡ kept ++ method ∷ []
  pub kept_are : AreKeptMethods c.pool c.methods kept
  pub method_is : IsInitMethod (fetch_of c.major) twin.pool (name_of c) (signed_id id) count method
