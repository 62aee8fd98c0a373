-- The classes that types name by their numbers, and what is known of each.
use Rattle.std.specs.Prelude.{◌≡◌, ℕ, List, [], ◌++◌, length, map, slice_index_or}
use Rattle.jc_bytes.specs.Names.{AreNames}
use Rattle.jc_methods.specs.VerificationTypes.{Names, IsNumbered}
use Rattle.jc_methods.specs.declared.kind.Kind.{Kind}
use Rattle.jc_refs_check.specs.declared.classes.Classes.{Classes}
use Rattle.jc_refs_check.specs.Known.{known_by}

-- the name of the class with a number
abbrev pub name_at : Names → ℕ → List ℕ
name_at names class = slice_index_or names class []

-- what each name tells is listed
pub record AreKnown (c : Classes) : Type 0 where
  pub names : AreNames c.names
  pub known : c.known.items ≡ map known_by c.names

-- what each of the first names tells is listed
pub record AreFirstKnown (c : Classes) : Type 0 where
  pub read : Names
  pub more : Names
  pub parts : c.names ≡ read ++ more
  pub known : c.known.items ≡ map known_by read

-- the number of a class is one of so many
abbrev pub IsClassOf : Classes → Kind → Type 0
IsClassOf c kind = IsNumbered (length c.names) kind
