-- When a reference may stand where another type is expected, with classes compared by their names (JVM Specification 4.10.1.2). The
-- machine knows the superclasses of its throwables and of no other class. So a class stands for itself, for `java/lang/Object`, and
-- where it is one of these throwables, for its superclasses. The name of an array's class is the array's descriptor (JVM Specification
-- 4.4.1).
use Rattle.std.specs.Prelude.{◌≡◌, ℕ, Bool, true, false, ◌||◌, List, Some, None, nat_eq, codes, bytes_eq}
use Rattle.jc_methods.specs.VerificationTypes.{VerificationType}
use Rattle.jc_methods.specs.VerificationTypes as verification
use Rattle.jc_programs.specs.Throwables.{thrown_named, is_named_in}
use Rattle.jc_kinds_after.specs.Wants.{is_anything}
use Rattle.jc_kinds.specs.Fits.{Fits}

abbrev pub object_class : List ℕ
object_class = codes "java/lang/Object"

-- a class of throwables that the machine knows, and itself or one of its superclasses
abbrev pub is_throwable_below : List ℕ → List ℕ → Bool
is_throwable_below name other = elim (thrown_named name) [ None ↦ false | Some c ↦ is_named_in c other ]

unfoldable pub class_suits : List ℕ → List ℕ → Bool
class_suits name other = bytes_eq name other || (bytes_eq other object_class || is_throwable_below name other)

-- The reference may stand where the other type is expected: null where null or a class is, an object where a class is that its own
-- suits, an object before its constructor where the same one is, or any object (JVM Specification 4.10.1.2).
abbrev pub suits : VerificationType → VerificationType → Bool
suits a verification.top = true
suits verification.null verification.null = true
suits verification.null (verification.object other) = true
suits (verification.object name) (verification.object other) = class_suits name other
suits verification.uninit_this verification.uninit_this = true
suits verification.uninit_this (verification.object other) = bytes_eq other object_class
suits (verification.uninit at) (verification.uninit other) = nat_eq at other
suits (verification.uninit at) (verification.object other) = bytes_eq other object_class
suits _ _ = false

-- where the one is a type of references, it suits the other
abbrev pub SuitsAsReference : VerificationType → VerificationType → Type 0
SuitsAsReference a b = is_anything a ≡ true → suits a b ≡ true

-- The kind check's relation and this one together. It is transitive, and stays where places are renamed.
pub record Passes (a b : VerificationType) : Type 0 where
  pub fits : Fits a b
  pub suits : SuitsAsReference a b
