-- What a place names, by the answers of the pool and by the form of a class file.
use Rattle.std.proofs.Common.{◌≡◌, Bool, true, false, List, ℕ, Option, None, Some, IsSomeAnd, IsTrue, ◌↔◌, refl}
use Rattle.jc_bytes.specs.Modified.{IsModified}
use Rattle.jc_bytes.specs.Descriptor.{IsFieldDescriptor, IsMethodDescriptor}
use Rattle.jc_bytes.specs.Deciding.{is_modified_text, is_field_text, is_method_text}
use Rattle.jc_bytes.proofs.DecidingLaws.{Decides, one_test, modified_decided, field_text_decided, method_text_decided}
use Rattle.jc_class.specs.ItemReading.{passes}

-- the pool answered whether the fact holds of the text that stands there
abbrev Answers : Bool → Option (List ℕ) → (List ℕ → Type 0) → Type 0
Answers answer there Fact = IsTrue answer ↔ IsSomeAnd there Fact

answers_test : (test : List ℕ → Bool) (Fact : List ℕ → Type 0) → ((text : List ℕ) → Decides (test text) (Fact text))
    → (there : Option (List ℕ)) (answer : Bool) → Answers answer there Fact → answer ≡ passes test there
answers_test test Fact d None true a = absurd (a.0 refl)
answers_test test Fact d None false a = refl
answers_test test Fact d (Some text) answer a = one_test answer (test text) (Fact text) (record { to = a.0; back = a.1 }) (d text)

pub modified_there : (there : Option (List ℕ)) (answer : Bool) → Answers answer there IsModified → answer ≡ passes is_modified_text there
modified_there = answers_test is_modified_text IsModified modified_decided

pub field_there : (there : Option (List ℕ)) (answer : Bool) → Answers answer there IsFieldDescriptor → answer ≡ passes is_field_text there
field_there = answers_test is_field_text IsFieldDescriptor field_text_decided

pub method_there : (there : Option (List ℕ)) (answer : Bool) → Answers answer there IsMethodDescriptor → answer ≡ passes is_method_text there
method_there = answers_test is_method_text IsMethodDescriptor method_text_decided
