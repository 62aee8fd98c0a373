-- The tests of fitting decide fitting.
use Rattle.std.proofs.Common.{◌≡◌, inl, inr, ℕ, true, false, List, [], ◌∷◌, Option, Some, None, refl, sym, ◌∙◌, ap}
use Rattle.std.proofs.lemmas.Bool.{eqb-true, eq-eqb, true≢false}
use Rattle.jc_bytes.proofs.DecidingLaws.{Decides}
use Rattle.jc_methods.specs.VerificationTypes.{VerificationType, top, int, float, double, long, null, uninit_this, object, uninit, TypeState}
use Rattle.jc_kinds_after.specs.Wants.{is_int, is_float, is_long, is_double, is_reference}
use Rattle.jc_kinds.specs.Fits.{IsObject, IsNullOrObject, Fits, FitEach, FitState, FitsThere, is_null, is_uninit_this, is_uninit_at, fits, fit_each, fit_state, fits_there}
use Rattle.jc_bytes.proofs.BooleanLaws.{both, instead}

pub no : {X : Type 0} → false ≡ true → X
no e = absurd (true≢false (sym e))

int_is : (a : VerificationType) → is_int a ≡ true → a ≡ int
int_is int e = refl
int_is a e = no e

float_is : (a : VerificationType) → is_float a ≡ true → a ≡ float
float_is float e = refl
float_is a e = no e

double_is : (a : VerificationType) → is_double a ≡ true → a ≡ double
double_is double e = refl
double_is a e = no e

long_is : (a : VerificationType) → is_long a ≡ true → a ≡ long
long_is long e = refl
long_is a e = no e

null_is : (a : VerificationType) → is_null a ≡ true → a ≡ null
null_is null e = refl
null_is a e = no e

this_is : (a : VerificationType) → is_uninit_this a ≡ true → a ≡ uninit_this
this_is uninit_this e = refl
this_is a e = no e

reference_is : (a : VerificationType) → is_reference a ≡ true → IsNullOrObject a
reference_is null e = tt
reference_is (object n) e = tt
reference_is a e = no e

uninit_is : (at : ℕ) (a : VerificationType) → is_uninit_at at a ≡ true → a ≡ uninit at
uninit_is at (uninit i) e = ap uninit (eqb-true i at e)
uninit_is at a e = no e

fits_to : (a b : VerificationType) → fits a b ≡ true → Fits a b
fits_to a top e = inl refl
fits_to a int e = inr (inl (int_is a e))
fits_to a float e = inr (inl (float_is a e))
fits_to a double e = inr (inl (double_is a e))
fits_to a long e = inr (inl (long_is a e))
fits_to a null e = inr (inl (null_is a e))
fits_to a uninit_this e = inr (inl (this_is a e))
fits_to a (object name) e = inr (inr (reference_is a e, tt))
fits_to a (uninit at) e = inr (inl (uninit_is at a e))

pub fits_itself : (a : VerificationType) → fits a a ≡ true
fits_itself (uninit at) = eq-eqb at at refl
fits_itself a = refl

object_fits : (a b : VerificationType) → IsNullOrObject a → IsObject b → fits a b ≡ true
object_fits null (object name) p q = refl
object_fits (object n) (object name) p q = refl
object_fits null b p q = absurd q
object_fits (object n) b p q = absurd q
object_fits a b p q = absurd p

fits_back : (a b : VerificationType) → Fits a b → fits a b ≡ true
fits_back a b (inl e) = ap (fits a) e
fits_back a b (inr (inl e)) = sym (ap (fits a) e) ∙ fits_itself a
fits_back a b (inr (inr h)) = object_fits a b h.0 h.1

pub fits_decided : (a b : VerificationType) → Decides (fits a b) (Fits a b)
fits_decided a b = record { to = fits_to a b; back = fits_back a b }

pub each_decided : (a b : List VerificationType) → Decides (fit_each a b) (FitEach a b)
each_decided [] [] = record { to = λ h. tt; back = λ h. refl }
each_decided [] (y ∷ b) = record { to = λ h. no h; back = λ h. absurd h }
each_decided (x ∷ a) [] = record { to = λ h. no h; back = λ h. absurd h }
each_decided (x ∷ a) (y ∷ b) = both (fits_decided x y) (each_decided a b)

pub state_decided : (s t : TypeState) → Decides (fit_state s t) (FitState s t)
state_decided s t = instead (both (each_decided s.locals t.locals) (each_decided s.stack t.stack)) (λ h. record { locals = h.0; stack = h.1 }) (λ h. (h.locals, h.stack))

pub there_decided : (s t : Option TypeState) → Decides (fits_there s t) (FitsThere s t)
there_decided (Some s) (Some t) = state_decided s t
there_decided (Some s) None = record { to = λ h. no h; back = λ h. absurd h }
there_decided None (Some t) = record { to = λ h. no h; back = λ h. absurd h }
there_decided None None = record { to = λ h. no h; back = λ h. absurd h }
