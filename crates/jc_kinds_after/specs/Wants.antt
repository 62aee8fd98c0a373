-- Which values are of the kind that an instruction asks for (JVM Specification 6.5).
use Rattle.std.specs.Prelude.{Bool, true, false, ◌&&◌, List, [], ◌∷◌}
use Rattle.jc_methods.specs.VerificationTypes.{VerificationType, top, int, float, double, long, null, uninit_this, object, uninit, is_pair}
use Rattle.jc_kinds_after.specs.declared.want.Want.{Want}
use Rattle.jc_kinds_after.specs.declared.want.Want.TheVariants as wants

abbrev pub is_int : VerificationType → Bool
is_int int = true
is_int _ = false

abbrev pub is_float : VerificationType → Bool
is_float float = true
is_float _ = false

abbrev pub is_long : VerificationType → Bool
is_long long = true
is_long _ = false

abbrev pub is_double : VerificationType → Bool
is_double double = true
is_double _ = false

-- null, or an object whose constructor was called
abbrev pub is_reference : VerificationType → Bool
is_reference null = true
is_reference (object name) = true
is_reference _ = false

-- that, or `this` before the constructor of the superclass was called
abbrev pub is_target : VerificationType → Bool
is_target null = true
is_target (object name) = true
is_target uninit_this = true
is_target _ = false

-- that, or an object that isn't initialized by its `new`
abbrev pub is_anything : VerificationType → Bool
is_anything null = true
is_anything (object name) = true
is_anything uninit_this = true
is_anything (uninit at) = true
is_anything _ = false

-- a value of one slot: `top` is no value
abbrev pub is_single : VerificationType → Bool
is_single top = false
is_single double = false
is_single long = false
is_single _ = true

abbrev pub accepts : Want → VerificationType → Bool
accepts wants.Int h = is_int h
accepts wants.Float h = is_float h
accepts wants.Long h = is_long h
accepts wants.Double h = is_double h
accepts wants.Reference h = is_reference h
accepts wants.Target h = is_target h
accepts wants.Anything h = is_anything h
accepts wants.Single h = is_single h
accepts wants.Pair h = is_pair h

-- as many operands as are asked for, and each is of its kind
abbrev pub accepts_all : List Want → List VerificationType → Bool
accepts_all [] [] = true
accepts_all (w ∷ ws) (h ∷ hs) = accepts w h && accepts_all ws hs
accepts_all _ _ = false
