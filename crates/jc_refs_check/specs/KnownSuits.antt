-- Whether a class suits another, by what is known of the two.
use Rattle.std.specs.Prelude.{Bool, true, false}
use Rattle.jc_programs.specs.Throwables.{name_of, is_named_in}
use Rattle.jc_refs_check.specs.declared.known.Known.{Known}
use Rattle.jc_refs_check.specs.declared.known.Known.TheVariants as known

-- the first is `java/lang/Object`, or both are throwables, and it is the other or one of the other's superclasses
abbrev pub is_above : Known → Known → Bool
is_above known.Object below = true
is_above (known.Throwable c) (known.Throwable d) = is_named_in d (name_of c)
is_above above below = false

abbrev pub is_object_known : Known → Bool
is_object_known known.Object = true
is_object_known k = false
