-- What the steps answer by which a class gets its probes.
use Rattle.std.specs.Prelude.{◌≡◌, ℕ, ◌≤◌, Bool, List, ◌++◌, length, Some, nat_lt}
use Rattle.std.specs.List.{AllByRecursion, list_any}
use Rattle.jc_pool.specs.Lookup.{class_name_of}
use Rattle.jc_class.specs.declared.class_file.Attribute.{Attribute}
use Rattle.jc_class.specs.declared.class_file.ClassFile.{ClassFile}
use Rattle.jc_class.specs.declared.class_file.Member.{Member}
use Rattle.jc_instrument.specs.Causes.{Cause, NoCause}
use Rattle.jc_instrument.specs.InstrumentedFile.{HasProbes}
use Rattle.jc_instrument.specs.Reasons.{code_causes}
use Rattle.jc_instrument.specs.RoomCauses.{room_causes}
use Rattle.jc_instrument.specs.declared.whole.Instrumented.{Instrumented}

-- the causes that stand behind those for the class as a whole and for interfaces
abbrev pub changing_causes : (id : ℕ) → ClassFile → List Cause
changing_causes id c = code_causes c ++ room_causes id c

-- the class with this id has its probes, and none of those causes refuses it
pub record GetsProbes (id : ℕ) (c : ClassFile) (a : Instrumented) : Type 0 where
  pub id_is : a.id ≡ id
  pub name : class_name_of c.pool c.this_class ≡ Some a.name
  pub has : HasProbes id c a
  pub no_cause : NoCause (changing_causes id c)

-- ---- the length of an attribute has four bytes (JVM Specification 4.7)

abbrev pub is_too_long : Attribute → Bool
is_too_long a = nat_lt 4294967295 (length a.body)

abbrev pub has_too_long : Member → Bool
has_too_long m = list_any is_too_long m.attributes

abbrev pub AreShort : List Attribute → Type 0
AreShort attributes = AllByRecursion (λ a. length a.body ≤ 4294967295) attributes

-- those of each of the members
abbrev pub AreShortIn : List Member → Type 0
AreShortIn members = AllByRecursion (λ m. AreShort m.attributes) members
