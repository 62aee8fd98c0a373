-- The forms of a text.
use Rattle.std.specs.Prelude.{ℕ, List, IsTrue, ◌↔◌}
use Rattle.jc_bytes.specs.Descriptor.{IsFieldDescriptor, IsMethodDescriptor}
use Rattle.jc_bytes.specs.Modified.{IsModified}
use Rattle.jc_pool.specs.declared.judged_text.TextForms.{TextForms}

-- the forms are those of the text: modified UTF-8, the descriptor of a field, that of a method (JVM Specification 4.4.7, 4.3.2, 4.3.3)
pub record AreForms (forms : TextForms) (text : List ℕ) : Type 0 where
  pub modified : IsTrue forms.modified ↔ IsModified text
  pub field_descriptor : IsTrue forms.field_descriptor ↔ IsFieldDescriptor text
  pub method_descriptor : IsTrue forms.method_descriptor ↔ IsMethodDescriptor text
