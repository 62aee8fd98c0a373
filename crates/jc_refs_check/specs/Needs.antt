-- Which references an instruction needs: how many operands lie above each, and which classes will do (JVM Specification 6.5).
use Rattle.std.specs.Prelude.{ℕ, ◌+◌, Bool, true, false, List, [], ◌∷◌, ◌++◌, length, Some, is_some, codes, bytes_eq}
use Rattle.std.specs.List.{list_any}
use Rattle.jc_bytes.specs.Descriptor.{FieldType, Byte, Char, Int, Long, Short, Boolean, Array, field_text}
use Rattle.jc_methods.specs.EntryState.{held_of}
use Rattle.jc_methods.specs.VerificationTypes.{VerificationType}
use Rattle.jc_methods.specs.VerificationTypes as verification
use Rattle.jc_programs.specs.Throwables.{name_of, thrown_named}
use Rattle.jc_machine_model.specs.Operations.{Printed, an_empty_line, Operation, reads, writes, measures, puts, invokes, builds, prints, fetches, returns, throws_top}
use Rattle.jc_refs_check.specs.Suits.{object_class, class_suits}

pub record Need : Type 0 where
  -- how many operands lie above the reference
  pub above : ℕ
  -- the classes that will do, by their names
  pub takes : List ℕ → Bool
  -- those of an object whose constructor wasn't called
  pub fresh : List ℕ → Bool

abbrev pub need : ℕ → (takes fresh : List ℕ → Bool) → List Need
need above takes fresh = record { above = above; takes = takes; fresh = fresh } ∷ []

abbrev pub no_class : List ℕ → Bool
no_class name = false

abbrev pub any_class : List ℕ → Bool
any_class name = true

-- arrays of one dimension of elements of one of these types
abbrev pub is_array_of : List FieldType → List ℕ → Bool
is_array_of types name = list_any (λ type. bytes_eq name (field_text (Array type))) types

abbrev pub is_any_array : List ℕ → Bool
is_any_array name = is_array_of (Boolean ∷ Char ∷ Byte ∷ Short ∷ Int ∷ Long ∷ []) name

unfoldable pub is_throwable : List ℕ → Bool
is_throwable name = is_some (thrown_named name)

-- what is kept as a value of a type suits it
abbrev pub need_held : ℕ → VerificationType → List Need
need_held above (verification.object name) = need above (λ class. class_suits class name) (λ class. bytes_eq name object_class)
need_held above h = []

-- arguments, the last of which is the top operand
abbrev pub argument_needs : List FieldType → List Need
argument_needs [] = []
argument_needs (type ∷ types) = need_held (length types) (held_of type) ++ argument_needs types

abbrev pub stream_need : ℕ → List Need
stream_need above = need above (bytes_eq (codes "java/io/PrintStream")) no_class

abbrev pub printed_needs : Printed → List Need
printed_needs an_empty_line = stream_need 0
printed_needs printed = stream_need 1

-- Loads and stores of local variables, moves of operands and comparisons take any reference. An instruction outside of
-- the profile needs none.
abbrev pub needs_of : Operation → List Need
needs_of (reads types) = need 1 (is_array_of types) no_class
needs_of (writes types) = need 2 (is_array_of types) no_class
needs_of measures = need 0 is_any_array no_class
needs_of throws_top = need 0 is_throwable any_class
needs_of (prints printed) = printed_needs printed
needs_of (puts at type) = need_held 0 (held_of type)
needs_of (invokes callee parameters max_locals) = argument_needs parameters
needs_of (fetches class init) = need_held 1 (verification.object (codes "java/lang/String"))
needs_of (returns computational (Some type)) = need_held 0 (held_of type)
-- the object for which a constructor is called is of just its class
needs_of (builds c) = need 0 (bytes_eq (name_of c)) (bytes_eq (name_of c))
needs_of _ = []
