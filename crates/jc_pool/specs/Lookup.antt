-- What the places of a constant pool name (JVM Specification 4.4).
use Rattle.std.specs.Prelude.{ℕ, ℤ, List, [], slice_index_or, Option, Some, None, option_map}
use Rattle.jc_bytes.specs.Decoder.{◌>>=◌}
use Rattle.jc_bytes.specs.Texts.{IsShortText}
use Rattle.jc_pool.specs.declared.entry.Entry.{Entry}
use Rattle.jc_pool.specs.declared.entry.Entry.TheVariants as entry
use Rattle.jc_pool.specs.declared.constant.ConstText.{ConstText}
use Rattle.jc_pool.specs.declared.constant.ConstText.TheVariants as constant
use Rattle.jc_pool.specs.declared.lookup.JudgedMember.{JudgedMember}
use Rattle.jc_pool.specs.declared.lookup.MemberText.{MemberText}
use Rattle.jc_pool.specs.Pool.{PoolValue}

-- the entry at a place
abbrev pub entry_of : PoolValue → ℕ → Option Entry
entry_of pool place = slice_index_or pool place None

-- ---- text

abbrev pub utf8_in : Entry → Option (List ℕ)
utf8_in (entry.Utf8 text) = Some text
utf8_in _ = None

-- the bytes of a Utf8 entry (JVM Specification 4.4.7)
unfoldable pub utf8_of : PoolValue → ℕ → Option (List ℕ)
utf8_of pool place = entry_of pool place >>= utf8_in

abbrev pub class_in : Entry → Option ℕ
class_in (entry.Class name) = Some name
class_in _ = None

-- the name of a Class entry, which has to be a Utf8 entry (JVM Specification 4.4.1)
unfoldable pub class_name_of : PoolValue → ℕ → Option (List ℕ)
class_name_of pool place = do
  e ← entry_of pool place
  name ← class_in e
  utf8_of pool name

abbrev pub string_in : Entry → Option ℕ
string_in (entry.String text) = Some text
string_in _ = None

-- the text of a String entry, which has to be a Utf8 entry (JVM Specification 4.4.3)
unfoldable pub string_of : PoolValue → ℕ → Option (List ℕ)
string_of pool place = do
  e ← entry_of pool place
  text ← string_in e
  utf8_of pool text

-- ---- numbers

abbrev pub integer_in : Entry → Option ℤ
integer_in (entry.Integer value) = Some value
integer_in _ = None

-- the value of an Integer entry (JVM Specification 4.4.4)
unfoldable pub integer_of : PoolValue → ℕ → Option ℤ
integer_of pool place = entry_of pool place >>= integer_in

abbrev pub long_in : Entry → Option ℤ
long_in (entry.Long value) = Some value
long_in _ = None

-- the value of a Long entry (JVM Specification 4.4.5)
unfoldable pub long_of : PoolValue → ℕ → Option ℤ
long_of pool place = entry_of pool place >>= long_in

-- ---- members

-- a name and a descriptor
pub record Signature : Type 0 where
  pub name : List ℕ
  pub desc : List ℕ

abbrev pub signature_in : Entry → Option (ℕ × ℕ)
signature_in (entry.NameAndType name descriptor) = Some (name, descriptor)
signature_in _ = None

-- the texts of a NameAndType entry, which have to be Utf8 entries (JVM Specification 4.4.6)
unfoldable pub signature_of : PoolValue → ℕ → Option Signature
signature_of pool place = do
  e ← entry_of pool place
  parts ← signature_in e
  name ← utf8_of pool parts.0
  desc ← utf8_of pool parts.1
  Some (record { name = name; desc = desc })

-- what an entry names as a member: its tag, its class, its name and its descriptor
pub record Member : Type 0 where
  pub tag : ℕ
  pub class : List ℕ
  pub name : List ℕ
  pub desc : List ℕ

-- its name and its descriptor
abbrev pub signature : Member → Signature
signature m = record { name = m.name; desc = m.desc }

-- the texts of a member
abbrev pub member : MemberText → Member
member m = record { tag = m.tag; class = m.class.now; name = m.name.now; desc = m.desc.now }

abbrev pub judged_member : JudgedMember → Member
judged_member m = record { tag = m.tag; class = m.class.now; name = m.name.now; desc = m.desc.now }

-- each text fits into a Utf8 entry
pub record HasShortTexts (m : Member) : Type 0 where
  pub class : IsShortText m.class
  pub name : IsShortText m.name
  pub desc : IsShortText m.desc

-- a member of a class: the class has to be a Class entry, the rest a NameAndType entry (JVM Specification 4.4.2)
unfoldable pub ref_of : PoolValue → ℕ → ℕ → ℕ → Option Member
ref_of pool tag class name_and_type = do
  name ← class_name_of pool class
  signature ← signature_of pool name_and_type
  Some (record { tag = tag; class = name; name = signature.name; desc = signature.desc })

-- a constant or a call that is linked at run time has no class (JVM Specification 4.4.10)
unfoldable pub dynamic_of : PoolValue → ℕ → ℕ → Option Member
dynamic_of pool tag name_and_type = do
  signature ← signature_of pool name_and_type
  Some (record { tag = tag; class = []; name = signature.name; desc = signature.desc })

-- a field or a method of a class
abbrev pub ref_in : PoolValue → Entry → Option Member
ref_in pool (entry.Fieldref class name_and_type) = ref_of pool 9 class name_and_type
ref_in pool (entry.Methodref class name_and_type) = ref_of pool 10 class name_and_type
ref_in pool (entry.InterfaceMethodref class name_and_type) = ref_of pool 11 class name_and_type
ref_in pool _ = None

-- the field or the method at a place
unfoldable pub reference_of : PoolValue → ℕ → Option Member
reference_of pool place = entry_of pool place >>= ref_in pool

-- a member, or a constant or a call that is linked at run time
abbrev pub member_in : PoolValue → Entry → Option Member
member_in pool (entry.Dynamic bootstrap name_and_type) = dynamic_of pool 17 name_and_type
member_in pool (entry.InvokeDynamic bootstrap name_and_type) = dynamic_of pool 18 name_and_type
member_in pool e = ref_in pool e

-- the member that the entry at a place names
unfoldable pub member_of : PoolValue → ℕ → Option Member
member_of pool place = entry_of pool place >>= member_in pool

-- ---- constants

-- the constant, if what is named stands there
abbrev pub where_named : {X : Type 0} → ConstText → Option X → Option ConstText
where_named c (Some named) = Some c
where_named c None = None

-- the constant that an entry stands for: an entry that it names has to stand there (JVM Specification 4.4, table 4.4-C)
abbrev pub const_in : PoolValue → Entry → Option ConstText
const_in pool (entry.Integer value) = Some (constant.Int value)
const_in pool (entry.Float bits) = Some constant.Float
const_in pool (entry.Long value) = Some (constant.Long value)
const_in pool (entry.Double bits) = Some constant.Double
const_in pool (entry.Class name) = where_named constant.Class (utf8_of pool name)
const_in pool (entry.String text) = where_named constant.Text (utf8_of pool text)
const_in pool (entry.MethodHandle kind reference) = where_named constant.Handle (reference_of pool reference)
const_in pool (entry.MethodType descriptor) = where_named constant.MethodKind (utf8_of pool descriptor)
const_in pool (entry.Dynamic bootstrap name_and_type) = where_named constant.Computed (signature_of pool name_and_type)
const_in pool _ = None

-- the constant at a place
unfoldable pub const_of : PoolValue → ℕ → Option ConstText
const_of pool place = entry_of pool place >>= const_in pool

-- ---- computed constants and method handles

-- a constant that a bootstrap method of the class gives, by the number of that method
pub record Computed : Type 0 where
  pub signed : Signature
  pub bootstrap : ℕ

abbrev pub computed_in : PoolValue → Entry → Option Computed
computed_in pool (entry.Dynamic bootstrap name_and_type) =
    option_map (λ s. record { signed = s; bootstrap = bootstrap }) (signature_of pool name_and_type)
computed_in pool _ = None

-- the one at a place, whose name and descriptor have to be there (JVM Specification 4.4.10)
unfoldable pub computed_of : PoolValue → ℕ → Option Computed
computed_of pool place = entry_of pool place >>= computed_in pool

-- the number of the bootstrap method of a constant or a call that is linked at run time
abbrev pub bootstrap_in : PoolValue → Entry → Option ℕ
bootstrap_in pool (entry.Dynamic bootstrap name_and_type) = option_map (λ s. bootstrap) (signature_of pool name_and_type)
bootstrap_in pool (entry.InvokeDynamic bootstrap name_and_type) = option_map (λ s. bootstrap) (signature_of pool name_and_type)
bootstrap_in pool _ = None

-- the one at a place, whose name and descriptor have to be there (JVM Specification 4.4.10)
unfoldable pub bootstrap_of : PoolValue → ℕ → Option ℕ
bootstrap_of pool place = entry_of pool place >>= bootstrap_in pool

-- the same number, whether what else the entry names is there or not
abbrev pub number_in : Entry → Option ℕ
number_in (entry.Dynamic bootstrap name_and_type) = Some bootstrap
number_in (entry.InvokeDynamic bootstrap name_and_type) = Some bootstrap
number_in _ = None

unfoldable pub number_of : PoolValue → ℕ → Option ℕ
number_of pool place = entry_of pool place >>= number_in

-- a method handle: its kind, and the field or the method that it names
pub record Handle : Type 0 where
  pub kind : ℕ
  pub target : Member

abbrev pub handle_in : PoolValue → Entry → Option Handle
handle_in pool (entry.MethodHandle kind reference) = option_map (λ m. record { kind = kind; target = m }) (reference_of pool reference)
handle_in pool _ = None

-- the one at a place, whose field or method has to be there, with all that it names (JVM Specification 4.4.8)
unfoldable pub handle_of : PoolValue → ℕ → Option Handle
handle_of pool place = entry_of pool place >>= handle_in pool

-- its kind, and the place of what it names
abbrev pub handle_parts_in : PoolValue → Entry → Option (ℕ × ℕ)
handle_parts_in pool (entry.MethodHandle kind reference) = option_map (λ m. (kind, reference)) (reference_of pool reference)
handle_parts_in pool _ = None

unfoldable pub handle_parts : PoolValue → ℕ → Option (ℕ × ℕ)
handle_parts pool place = entry_of pool place >>= handle_parts_in pool
