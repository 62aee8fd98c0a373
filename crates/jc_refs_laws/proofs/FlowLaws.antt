-- The relation of the reference check is one that twins keep.
use Rattle.std.proofs.Common.{◌≡◌, inl, inr, ℕ, true, false, List, refl, sym, ap, subst}
use Rattle.std.proofs.lemmas.Bool.{eqb-true, eq-eqb, false≢true}
use Rattle.std.specs.Str.{bytes_eq}
use Rattle.jc_methods.specs.VerificationTypes.{VerificationType}
use Rattle.jc_methods.specs.VerificationTypes as verification
use Rattle.jc_kinds_after.specs.Shift.{renamed}
use Rattle.jc_kinds_after.specs.Wants.{is_anything}
use Rattle.jc_kinds.specs.Fits.{IsNullOrObject, Fits}
use Rattle.jc_kinds.specs.Flows.{IsFlow}
use Rattle.jc_emit.proofs.FlowLaws.{kind_flow}
use Rattle.jc_refs_check.specs.Suits.{object_class, class_suits, suits, Passes}
use Rattle.jc_refs_check.proofs.SuitLaws.{suits_itself}
use Rattle.jc_refs_check.proofs.ThrownLaws.{same_bytes, bytes_are}
use Rattle.jc_refs_laws.proofs.ClassLaws.{object_alone, suits_on}

-- where any object will do, only `java/lang/Object` does
object_is : (name : List ℕ) → class_suits object_class name ≡ true → bytes_eq name object_class ≡ true
object_is name e = subst (λ x. bytes_eq x object_class ≡ true) (sym (object_alone name e)) (same_bytes object_class)

top_on : (a c : VerificationType) → Fits verification.top c → suits a c ≡ true
top_on a c (inl e) = subst (λ x. suits a x ≡ true) (sym e) refl
top_on a c (inr (inl e)) = subst (λ x. suits a x ≡ true) e refl
top_on a c (inr (inr g)) = absurd (none g.0)
  where
    none : IsNullOrObject verification.top → ⊥
    none x = x

-- what suits a class suits what that class does
null_on : (other : List ℕ) (c : VerificationType) → suits (verification.object other) c ≡ true → suits verification.null c ≡ true
null_on other verification.top s = refl
null_on other (verification.object name) s = refl
null_on other c s = absurd (false≢true s)

object_on : (name other : List ℕ) (c : VerificationType) → class_suits name other ≡ true → suits (verification.object other) c ≡ true
    → suits (verification.object name) c ≡ true
object_on name other verification.top p s = refl
object_on name other (verification.object last) p s = suits_on name other last p s
object_on name other c p s = absurd (false≢true s)

-- an object before its constructor suits what `java/lang/Object` does
this_on : (c : VerificationType) → suits (verification.object object_class) c ≡ true → suits verification.uninit_this c ≡ true
this_on verification.top s = refl
this_on (verification.object last) s = object_is last s
this_on c s = absurd (false≢true s)

uninit_on : (at : ℕ) (c : VerificationType) → suits (verification.object object_class) c ≡ true → suits (verification.uninit at) c ≡ true
uninit_on at verification.top s = refl
uninit_on at (verification.object last) s = object_is last s
uninit_on at c s = absurd (false≢true s)

of_object : (other : List ℕ) (c : VerificationType) → bytes_eq other object_class ≡ true → suits (verification.object other) c ≡ true
    → suits (verification.object object_class) c ≡ true
of_object other c e s = subst (λ x. suits (verification.object x) c ≡ true) (bytes_are other object_class e) s

suits_through : (a b c : VerificationType) → is_anything a ≡ true → suits a b ≡ true → (is_anything b ≡ true → suits b c ≡ true) → Fits b c → suits a c ≡ true
suits_through a verification.top c r p q f = top_on a c f
suits_through verification.null verification.null c r p q f = q refl
suits_through verification.null (verification.object other) c r p q f = null_on other c (q refl)
suits_through (verification.object name) (verification.object other) c r p q f = object_on name other c p (q refl)
suits_through verification.uninit_this verification.uninit_this c r p q f = q refl
suits_through verification.uninit_this (verification.object other) c r p q f = this_on c (of_object other c p (q refl))
suits_through (verification.uninit at) (verification.uninit other) c r p q f =
    subst (λ x. suits (verification.uninit x) c ≡ true) (sym (eqb-true at other p)) (q refl)
suits_through (verification.uninit at) (verification.object other) c r p q f = uninit_on at c (of_object other c p (q refl))
suits_through a b c r p q f = absurd (false≢true p)

suits_renamed : (image : ℕ → ℕ) (a b : VerificationType) → suits a b ≡ true → suits (renamed image a) (renamed image b) ≡ true
suits_renamed image a verification.top p = refl
suits_renamed image verification.null verification.null p = refl
suits_renamed image verification.null (verification.object other) p = refl
suits_renamed image (verification.object name) (verification.object other) p = p
suits_renamed image verification.uninit_this verification.uninit_this p = refl
suits_renamed image verification.uninit_this (verification.object other) p = p
suits_renamed image (verification.uninit at) (verification.uninit other) p = eq-eqb (image at) (image other) (ap image (eqb-true at other p))
suits_renamed image (verification.uninit at) (verification.object other) p = p
suits_renamed image a b p = absurd (false≢true p)

reference_renamed : (image : ℕ → ℕ) (a : VerificationType) → is_anything (renamed image a) ≡ true → is_anything a ≡ true
reference_renamed image (verification.uninit at) e = refl
reference_renamed image a e = e

pub passes_flow : IsFlow Passes
passes_flow = record {
  same = λ a. record { fits = kind_flow.same a; suits = suits_itself a };
  on = λ a b c p q. record { fits = kind_flow.on a b c p.fits q.fits; suits = λ r. suits_through a b c r (p.suits r) q.suits q.fits };
  stays_renamed = λ image a b p. record {
    fits = kind_flow.stays_renamed image a b p.fits;
    suits = λ r. suits_renamed image a b (p.suits (reference_renamed image a r));
  };
}
