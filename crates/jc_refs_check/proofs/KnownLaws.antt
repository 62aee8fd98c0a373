-- What is known of a class decides which classes it suits.
use Rattle.std.proofs.Common.{◌≡◌, ℕ, Bool, true, false, ◌||◌, List, Option, Some, None, codes, refl, sym, ◌∙◌, ap, if◌then◌else◌}
use Rattle.std.specs.Str.{bytes_eq}
use Rattle.jc_programs.specs.declared.run_end.Thrown.{Thrown}
use Rattle.jc_programs.specs.Throwables.{thrown_named, is_named_in}
use Rattle.jc_machine_code.specs.declared.operation.PrimitiveType.TheVariants as primitives
use Rattle.jc_refs_check.specs.declared.known.Known.{Known}
use Rattle.jc_refs_check.specs.declared.known.Known.TheVariants as known
use Rattle.jc_refs_check.specs.Suits.{object_class, is_throwable_below, class_suits}
use Rattle.jc_refs_check.specs.Known.{known_array, known_other, known_by}
use Rattle.jc_refs_check.specs.KnownSuits.{is_above, is_object_known}
use Rattle.jc_refs_check.proofs.ThrownLaws.{same_bytes, bytes_are, named_is, unnamed_above}

-- ---- a test of what is known, by each thing that it may be

module _ (test : Known → Bool) (r : Bool) where
  either : (b : Bool) (x y : Known) → test x ≡ r → test y ≡ r → test (if b then x else y) ≡ r
  either true x y p q = p
  either false x y p q = q

  pub array_known : (desc : List ℕ) → ((t : _) → test (known.Array t) ≡ r) → test known.Other ≡ r → test (known_array desc) ≡ r
  array_known desc p q =
      either (bytes_eq desc (codes "[Z")) (known.Array primitives.Boolean) _ (p primitives.Boolean)
      (either (bytes_eq desc (codes "[B")) (known.Array primitives.Byte) _ (p primitives.Byte)
      (either (bytes_eq desc (codes "[C")) (known.Array primitives.Char) _ (p primitives.Char)
      (either (bytes_eq desc (codes "[S")) (known.Array primitives.Short) _ (p primitives.Short)
      (either (bytes_eq desc (codes "[I")) (known.Array primitives.Int) _ (p primitives.Int)
      (either (bytes_eq desc (codes "[J")) (known.Array primitives.Long) _ (p primitives.Long) q)))))

-- of a class that isn't `java/lang/Object`
module _ (test : Known → Bool) (r : Bool) where
  pub rest_known : (name : List ℕ) → bytes_eq name object_class ≡ false → test known.PrintStream ≡ r → test known.Text ≡ r
      → ((t : _) → test (known.Array t) ≡ r) → test known.Other ≡ r → test (known_other name) ≡ r
  rest_known name other stream text array none =
      ap (λ (b : Bool). test (if b then known.Object else if bytes_eq name (codes "java/io/PrintStream") then known.PrintStream
      else if bytes_eq name (codes "java/lang/String") then known.Text else known_array name)) other
      ∙ either test r (bytes_eq name (codes "java/io/PrintStream")) known.PrintStream _ stream
      (either test r (bytes_eq name (codes "java/lang/String")) known.Text _ text (array_known test r name array none))

-- ---- `java/lang/Object`

no_throwable_object : thrown_named object_class ≡ None
no_throwable_object = refl

thrown_no_object : (name : List ℕ) (c : Thrown) → thrown_named name ≡ Some c → bytes_eq name object_class ≡ false
thrown_no_object name c e = by (bytes_eq name object_class) refl
  where
    by : (b : Bool) → bytes_eq name object_class ≡ b → b ≡ false
    by false q = refl
    by true q = let there : Some c ≡ None = sym e ∙ ap thrown_named (bytes_are name object_class q) ∙ no_throwable_object in absurd cc

other_object : (name : List ℕ) → is_object_known (known_other name) ≡ bytes_eq name object_class
other_object name = by (bytes_eq name object_class) refl
  where
    by : (b : Bool) → bytes_eq name object_class ≡ b → is_object_known (known_other name) ≡ b
    by true q = ap (λ (b : Bool). is_object_known (if b then known.Object else if bytes_eq name (codes "java/io/PrintStream") then known.PrintStream
        else if bytes_eq name (codes "java/lang/String") then known.Text else known_array name)) q
    by false q = rest_known is_object_known false name q refl refl (λ t. refl) refl

pub object_known : (name : List ℕ) → is_object_known (known_by name) ≡ bytes_eq name object_class
unfolding known_by
object_known name = by (thrown_named name) refl
  where
    by : (o : Option Thrown) → thrown_named name ≡ o → is_object_known (elim o [ Some c ↦ known.Throwable c | None ↦ known_other name ]) ≡ bytes_eq name object_class
    by (Some c) e = sym (thrown_no_object name c e)
    by None e = other_object name

-- ---- classes above

below_other : (c : Thrown) (name : List ℕ) → is_above (known.Throwable c) (known_other name) ≡ false
below_other c name = by (bytes_eq name object_class) refl
  where
    by : (b : Bool) → bytes_eq name object_class ≡ b → is_above (known.Throwable c) (known_other name) ≡ false
    by true q = ap (λ (b : Bool). is_above (known.Throwable c) (if b then known.Object else if bytes_eq name (codes "java/io/PrintStream") then known.PrintStream
        else if bytes_eq name (codes "java/lang/String") then known.Text else known_array name)) q
    by false q = rest_known (is_above (known.Throwable c)) false name q refl refl (λ t. refl) refl

above_other : (k : Known) (name : List ℕ) → is_above (known_other name) k ≡ bytes_eq name object_class
above_other k name = by (bytes_eq name object_class) refl
  where
    by : (b : Bool) → bytes_eq name object_class ≡ b → is_above (known_other name) k ≡ b
    by true q = ap (λ (b : Bool). is_above (if b then known.Object else if bytes_eq name (codes "java/io/PrintStream") then known.PrintStream
        else if bytes_eq name (codes "java/lang/String") then known.Text else known_array name) k) q
    by false q = rest_known (λ (a : Known). is_above a k) false name q refl refl (λ t. refl) refl

or_false : (b : Bool) → b ≡ (b || false)
or_false true = refl
or_false false = refl

pub above_is : (name other : List ℕ) → is_above (known_by other) (known_by name) ≡ (bytes_eq other object_class || is_throwable_below name other)
unfolding known_by
above_is name other = by (thrown_named other) (thrown_named name) refl refl
  where
    by : (o p : Option Thrown) → thrown_named other ≡ o → thrown_named name ≡ p
        → is_above (elim o [ Some c ↦ known.Throwable c | None ↦ known_other other ]) (elim p [ Some c ↦ known.Throwable c | None ↦ known_other name ])
        ≡ (bytes_eq other object_class || elim p [ None ↦ false | Some c ↦ is_named_in c other ])
    by (Some c) (Some d) e g =
        ap (is_named_in d) (named_is other c e)
        ∙ ap (λ (b : Bool). b || is_named_in d other) (sym (thrown_no_object other c e))
    by (Some c) None e g = below_other c name ∙ ap (λ (b : Bool). b || false) (sym (thrown_no_object other c e))
    by None (Some d) e g = above_other (known.Throwable d) other ∙ or_false (bytes_eq other object_class) ∙ ap (λ (b : Bool). bytes_eq other object_class || b) (sym (unnamed_above other d e))
    by None None e g = above_other (known_other name) other ∙ or_false (bytes_eq other object_class)

-- ---- by numbers of names

pub class_itself : (name : List ℕ) → class_suits name name ≡ true
unfolding class_suits
class_itself name = ap (λ (b : Bool). b || (bytes_eq name object_class || is_throwable_below name name)) (same_bytes name)

-- ---- by what the name names

pub known_thrown : (name : List ℕ) (c : Thrown) → thrown_named name ≡ Some c → known.Throwable c ≡ known_by name
unfolding known_by
known_thrown name c e = sym (ap (λ (o : Option Thrown). elim o [ Some d ↦ known.Throwable d | None ↦ known_other name ]) e)

pub known_not : (name : List ℕ) → thrown_named name ≡ None → known_other name ≡ known_by name
unfolding known_by
known_not name e = sym (ap (λ (o : Option Thrown). elim o [ Some d ↦ known.Throwable d | None ↦ known_other name ]) e)
