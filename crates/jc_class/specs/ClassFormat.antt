-- The form of a class file, item by item (JVM Specification 4.1, 4.5 to 4.7).
use Rattle.std.specs.Prelude.{◌≡◌, ◌≢◌, ◌⊎◌, ⊤, ℕ, ◌+◌, ◌*◌, ◌<◌, Some, List, [], ◌∷◌, length, codes}
use Rattle.std.specs.Int.Bits.{bit_and}
use Rattle.jc_bytes.specs.Counted.{counted}
use Rattle.jc_bytes.specs.Decoder.{IsBig}
use Rattle.jc_bytes.specs.Descriptor.{IsFieldDescriptor, IsMethodDescriptor}
use Rattle.jc_bytes.specs.Grammar.{Grammar, nothing, one}
use Rattle.jc_bytes.specs.ItemForms.{◌>>=◌, number, number_where, piece}
use Rattle.jc_bytes.specs.Modified.{IsModified}
use Rattle.jc_pool.specs.Lookup.{utf8_of, class_name_of}
use Rattle.jc_pool.specs.Pool.{PoolValue}
use Rattle.jc_pool.specs.PoolGrammar as pools
use Rattle.jc_class.specs.declared.class_file.Attribute.{Attribute}
use Rattle.jc_class.specs.declared.class_file.Member.{Member}
use Rattle.jc_class.specs.declared.class_file.ClassFile.{ClassFile}

-- ---- what an item names in the pool

-- a Utf8 entry
abbrev pub HasText : PoolValue → ℕ → Type 0
HasText pool place = (text : List ℕ) × (utf8_of pool place ≡ Some text)

-- a Class entry whose name is modified UTF-8
abbrev pub HasClass : PoolValue → ℕ → Type 0
HasClass pool place = (name : List ℕ) × (class_name_of pool place ≡ Some name) × IsModified name

-- a superclass, or none
abbrev pub HasSuper : PoolValue → ℕ → Type 0
HasSuper pool place = (place ≡ 0) ⊎ HasClass pool place

-- a Utf8 entry that is the descriptor of a field
abbrev pub HasFieldDescriptor : PoolValue → ℕ → Type 0
HasFieldDescriptor pool place = (text : List ℕ) × (utf8_of pool place ≡ Some text) × IsFieldDescriptor text

-- a Utf8 entry that is the descriptor of a method
abbrev pub HasMethodDescriptor : PoolValue → ℕ → Type 0
HasMethodDescriptor pool place = (text : List ℕ) × (utf8_of pool place ≡ Some text) × IsMethodDescriptor text

-- ---- items

-- the number in front of every class file
abbrev pub magic : Grammar (Unit {0})
magic = one (λ bytes _. IsBig 4 bytes 0xcafebabe)

-- ---- the parts (JVM Specification 4.7, 4.5, 4.6)

-- a name, a length, and so many bytes
abbrev pub attribute : (ℕ → Type 0) → Grammar Attribute
attribute HasName = do
  name ← number_where HasName
  size ← number 4
  body ← piece size
  nothing (record { name = name; body = body })

-- a field or a method, whose attributes have the form that its flags ask for
abbrev pub member_of : (ℕ → Type 0) → (ℕ → Type 0) → (of : (flags : ℕ) → Grammar Attribute) → Grammar Member
member_of HasName HasDescriptor of = do
  flags ← number 2
  name ← number_where HasName
  desc ← number_where HasDescriptor
  attributes ← counted (of flags)
  nothing (record { flags = flags; name = name; desc = desc; attributes = attributes })

-- one whose attributes hold any bytes
abbrev pub member : (ℕ → Type 0) → (ℕ → Type 0) → Grammar Member
member HasName HasDescriptor = member_of HasName HasDescriptor (λ flags. attribute HasName)

-- ---- the constant of a static field (JVM Specification 4.5, 4.7.2)

-- a number of two bytes is a place of the pool
abbrev pub NamesPlace : PoolValue → List ℕ → Type 0
NamesPlace pool (high ∷ low ∷ []) = high * 256 + low < length pool
NamesPlace pool bytes = ⊤

-- the attribute of a field with these flags holds the place of the constant with which it begins: ACC_STATIC is 0x0008
abbrev pub IsConstant : PoolValue → (flags name : ℕ) → Type 0
IsConstant pool flags name = (bit_and flags 0x0008 ≢ 0) × (utf8_of pool name ≡ Some (codes "ConstantValue"))

-- so many bytes; those of such an attribute are a place of the pool, where they are two
abbrev pub field_piece : PoolValue → (flags name size : ℕ) → Grammar (List ℕ)
field_piece pool flags name size =
    one (λ bytes body. (length bytes ≡ size) × (bytes ≡ body) × (IsConstant pool flags name → NamesPlace pool body))

-- the attribute of a field: if its bytes aren't of this form, they fail at the first of them
abbrev pub field_attribute : PoolValue → (flags : ℕ) → Grammar Attribute
field_attribute pool flags = do
  name ← number_where (HasText pool)
  size ← number 4
  body ← field_piece pool flags name size
  nothing (record { name = name; body = body })

abbrev pub field : PoolValue → Grammar Member
field pool = member_of (HasText pool) (HasFieldDescriptor pool) (field_attribute pool)

-- ---- the whole (JVM Specification 4.1)

unfoldable pub class_file : Grammar ClassFile
class_file = do
  _ ← magic
  minor ← number 2
  major ← number 2
  pool ← pools.pool
  flags ← number 2
  this_class ← number_where (HasClass pool)
  super_class ← number_where (HasSuper pool)
  interfaces ← counted (number_where (HasClass pool))
  fields ← counted (field pool)
  methods ← counted (member (HasText pool) (HasMethodDescriptor pool))
  attributes ← counted (attribute (HasText pool))
  nothing (record {
    minor = minor;
    major = major;
    pool = pool;
    flags = flags;
    this_class = this_class;
    super_class = super_class;
    interfaces = interfaces;
    fields = fields;
    methods = methods;
    attributes = attributes;
  })
