-- What a class file has to be to have a text (JVM Specification 4.1, 4.5 to 4.7).
use Rattle.std.specs.Prelude.{◌≤◌, ⊤, ℕ, List, length}
use Rattle.std.specs.List.{AllByRecursion}
use Rattle.jc_class.specs.declared.class_file.Attribute.{Attribute}
use Rattle.jc_class.specs.declared.class_file.Member.{Member}
use Rattle.jc_class.specs.declared.class_file.ClassFile.{ClassFile}
use Rattle.jc_pool.specs.Pool.{PoolValue}
use Rattle.jc_class.specs.ClassFormat.{HasText, HasClass, HasSuper, HasFieldDescriptor, HasMethodDescriptor, IsConstant, NamesPlace}

-- any number
abbrev pub Anything : ℕ → Type 0
Anything n = ⊤

-- the count fits into two bytes, and the fact holds of each part
pub record AreCounted {X : Type 0} (Fact : X → Type 0) (parts : List X) : Type 0 where
  pub few : length parts ≤ 65535
  pub each : AllByRecursion Fact parts

-- the length fits into four bytes
pub record IsAttribute (HasName : ℕ → Type 0) (a : Attribute) : Type 0 where
  pub name : HasName a.name
  pub size : length a.body ≤ 4294967295

pub record IsMember (HasName HasDescriptor : ℕ → Type 0) (m : Member) : Type 0 where
  pub name : HasName m.name
  pub desc : HasDescriptor m.desc
  pub attributes : AreCounted (IsAttribute HasName) m.attributes

-- the constants of a static field are places of the pool (JVM Specification 4.7.2)
abbrev pub NamesItsConstants : PoolValue → Member → Type 0
NamesItsConstants pool field = AllByRecursion (λ a. IsConstant pool field.flags a.name → NamesPlace pool a.body) field.attributes

-- no item fails, and each count and length fits into its bytes
pub record IsClassFile (c : ClassFile) : Type 0 where
  pub this_class : HasClass c.pool c.this_class
  pub super_class : HasSuper c.pool c.super_class
  pub interfaces : AreCounted (HasClass c.pool) c.interfaces
  pub fields : AreCounted (IsMember (HasText c.pool) (HasFieldDescriptor c.pool)) c.fields
  pub constants : AllByRecursion (NamesItsConstants c.pool) c.fields
  pub methods : AreCounted (IsMember (HasText c.pool) (HasMethodDescriptor c.pool)) c.methods
  pub attributes : AreCounted (IsAttribute (HasText c.pool)) c.attributes
