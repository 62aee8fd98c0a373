-- The names of packages and classes in a report, as JaCoCo shows those of Java. A class has its name in internal form
-- (JVM Specification 4.2.1), with `/` between the names of packages.
use Rattle.std.specs.Prelude.{ℕ, Bool, false, ◌&&◌, ◌==◌, List, [], ◌∷◌, ◌++◌, map, Option, Some, None}
use Rattle.std.specs.Prelude.{nat_le, if◌then◌else◌, codes}
use Rattle.jc_report.specs.Split.{split_at_last, front_of, back_of}

abbrev pub slash : ℕ
slash = 47

abbrev pub dot : ℕ
dot = 46

abbrev pub dollar : ℕ
dollar = 36

-- the text with another byte for each such byte
abbrev pub replaced : ℕ → ℕ → List ℕ → List ℕ
replaced byte other text = map (λ b. if b == byte then other else b) text

-- ---- packages

abbrev pub or_default : List ℕ → List ℕ
or_default [] = codes "default"
or_default (b ∷ text) = b ∷ text

-- the name before the last `/`, with dots, or `default` where nothing stands there
abbrev pub package_of : List ℕ → List ℕ
package_of text = or_default (replaced slash dot (front_of (split_at_last slash text)))

-- ---- classes

-- the part behind the last `/`, with `$` as `.`
abbrev pub plain_name : List ℕ → List ℕ
plain_name text = replaced dollar dot (back_of text (split_at_last slash text))

-- the first byte is an ASCII digit
abbrev pub begins_with_digit : List ℕ → Bool
begins_with_digit [] = false
begins_with_digit (b ∷ rest) = nat_le 48 b && nat_le b 57

-- the first interface, or else the superclass
abbrev pub parent_of : Option (List ℕ) → List (List ℕ) → Option (List ℕ)
parent_of super_name [] = super_name
parent_of super_name (first ∷ rest) = Some first

-- the class that stands in front of the `$`, and what the class without a name extends or implements
abbrev pub anonymous_name : List ℕ → List ℕ → List ℕ
anonymous_name front parent = plain_name front ++ (codes ".new " ++ (plain_name parent ++ codes "() {...}"))

abbrev pub class_by : List ℕ → Option (List ℕ) → Option (List ℕ × List ℕ) → List ℕ
class_by text None parts = plain_name text
class_by text (Some parent) None = plain_name text
class_by text (Some parent) (Some parts) = if begins_with_digit parts.1 then anonymous_name parts.0 parent else plain_name text

-- Where a digit follows the last `$` of the name, and the class has an interface or a superclass: the name before
-- that `$`, `.new `, that of the first interface or else of the superclass, and `() {...}`. Else the plain form.
abbrev pub class_of : List ℕ → Option (List ℕ) → List ℕ
class_of text parent = class_by text parent (split_at_last dollar text)
