-- How long the attributes of a class file are (JVM Specification 4.7).
use Rattle.std.specs.Prelude.{ℕ, ◌≤◌, List, length, All}
use Rattle.jc_class.specs.declared.class_file.Attribute.{Attribute}
use Rattle.jc_class.specs.declared.class_file.ClassFile.{ClassFile}

-- the body of each has at most so many bytes
abbrev pub BodiesWithin : ℕ → List Attribute → Type 0
BodiesWithin most attributes = All (λ a. length a.body ≤ most) attributes

-- the body of each attribute of the class, of its fields and of its methods has at most so many bytes
pub record AttributesWithin (most : ℕ) (c : ClassFile) : Type 0 where
  pub class : BodiesWithin most c.attributes
  pub fields : All (λ m. BodiesWithin most m.attributes) c.fields
  pub methods : All (λ m. BodiesWithin most m.attributes) c.methods
