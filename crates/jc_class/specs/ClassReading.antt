-- Reading a class file, item by item.
use Rattle.std.specs.Prelude.{◌≡◌, ◌≢◌, ◌⊎◌, ℕ, List, [], take, Result, Ok, Err}
use Rattle.jc_bytes.specs.Counted.{counted_at}
use Rattle.jc_bytes.specs.Decoder.{first, number_at}
use Rattle.jc_bytes.specs.Parsing.{Parsed, Good, Bad, ◌>>=◌, item, RefusedAt}
use Rattle.jc_bytes.specs.declared.fail.Fail.{Fail}
use Rattle.jc_bytes.specs.declared.fail.Fail.TheVariants as fails
use Rattle.jc_bytes.specs.declared.refusal.Refusal.{Refusal}
use Rattle.jc_pool.specs.Pool.{PoolValue}
use Rattle.jc_pool.specs.PoolReading.{pool_at}
use Rattle.jc_class.specs.declared.item.Named.{Named}
use Rattle.jc_class.specs.declared.item.Named.TheVariants as named
use Rattle.jc_class.specs.declared.class_file.Attribute.{Attribute}
use Rattle.jc_class.specs.declared.class_file.Member.{Member}
use Rattle.jc_class.specs.declared.class_file.ClassFile.{ClassFile}
use Rattle.jc_class.specs.ItemReading.{names, number_if, magic_at, field_piece_at}

-- a place that names what it is to name
abbrev pub named_at : PoolValue → Named → List ℕ → Parsed ℕ
named_at pool what left = item (number_if (names pool what)) left

unfoldable pub attribute_at : PoolValue → List ℕ → Parsed Attribute
attribute_at pool left = do
  name ← named_at pool named.Text left
  size ← item (number_at 4) name.1
  body ← item (first size.0 (take size.0)) size.1
  Good (record { name = name.0; body = body.0 }) body.1

abbrev pub attributes_at : PoolValue → List ℕ → Parsed (List Attribute)
attributes_at pool left = counted_at (attribute_at pool) left

-- the attribute of a field with these flags
unfoldable pub field_attribute_at : PoolValue → (flags : ℕ) → List ℕ → Parsed Attribute
field_attribute_at pool flags left = do
  name ← named_at pool named.Text left
  size ← item (number_at 4) name.1
  body ← item (field_piece_at pool flags name.0 size.0) size.1
  Good (record { name = name.0; body = body.0 }) body.1

-- a field or a method, by the kind of its descriptor, with attributes that are read so
abbrev pub member_at : PoolValue → Named → (of : (flags : ℕ) → List ℕ → Parsed Attribute) → List ℕ → Parsed Member
member_at pool what of left = do
  flags ← item (number_at 2) left
  name ← named_at pool named.Text flags.1
  desc ← named_at pool what name.1
  attributes ← counted_at (of flags.0) desc.1
  Good (record { flags = flags.0; name = name.0; desc = desc.0; attributes = attributes.0 }) attributes.1

unfoldable pub field_at : PoolValue → List ℕ → Parsed Member
field_at pool left = member_at pool named.FieldDescriptor (field_attribute_at pool) left

unfoldable pub method_at : PoolValue → List ℕ → Parsed Member
method_at pool left = member_at pool named.MethodDescriptor (λ flags. attribute_at pool) left

-- a whole class file, and what stands behind it
unfoldable pub class_at : List ℕ → Parsed ClassFile
class_at left = do
  m ← item magic_at left
  minor ← item (number_at 2) m.1
  major ← item (number_at 2) minor.1
  pool ← pool_at major.1
  flags ← item (number_at 2) pool.1
  this_class ← named_at pool.0 named.Class flags.1
  super_class ← named_at pool.0 named.ClassOrNone this_class.1
  interfaces ← counted_at (named_at pool.0 named.Class) super_class.1
  fields ← counted_at (field_at pool.0) interfaces.1
  methods ← counted_at (method_at pool.0) fields.1
  attributes ← attributes_at pool.0 methods.1
  Good (record {
    minor = minor.0;
    major = major.0;
    pool = pool.0;
    flags = flags.0;
    this_class = this_class.0;
    super_class = super_class.0;
    interfaces = interfaces.0;
    fields = fields.0;
    methods = methods.0;
    attributes = attributes.0;
  }) attributes.1

-- a class file that was not whole, or bytes that are left behind one
abbrev pub Stops : Parsed ClassFile → List ℕ → Type 0
Stops parsed left = (parsed ≡ Bad left) ⊎ ((c : ClassFile) × (parsed ≡ Good c left) × (left ≢ []))

-- what was returned of bytes that are to be one class file, unless memory ran out
abbrev pub GivesWhole : Result ClassFile (Fail Refusal) → List ℕ → Parsed ClassFile → Type 0
GivesWhole (Ok c) bytes parsed = parsed ≡ Good c []
GivesWhole (Err fails.Memory) bytes parsed = Unit {0}
GivesWhole (Err (fails.Said refusal)) bytes parsed =
    (left : List ℕ) × Stops parsed left × RefusedAt refusal (record { left = bytes; place = 0 }) left
