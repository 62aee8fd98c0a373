-- States along a relation that twins keep, and the relation of the kind check.
use Rattle.std.proofs.Common.{◌≡◌, inl, inr, ℕ, zero, suc, List, [], ◌∷◌, length, map, insert, Option, Some, None, refl, sym, ap, subst}
use Rattle.jc_methods.specs.declared.body.Body.{Body}
use Rattle.jc_methods.specs.VerificationTypes.{Names, VerificationType, top, TypeState}
use Rattle.jc_methods.specs.EntryState.{entry_of}
use Rattle.jc_kinds_after.specs.Shift.{renamed, probes, shifted}
use Rattle.jc_kinds.specs.Fits.{IsNullOrObject, IsObject, Fits, FitEach, FitsThere}
use Rattle.jc_kinds.specs.States.{state_of, after_at}
use Rattle.jc_kinds.specs.Checked.{at_handler, Checked}
use Rattle.jc_methods.specs.VerificationTypes as verification
use Rattle.jc_kinds.specs.Flows.{EachBy, StateBy, ThereBy, FlowsBy, IsFlow}

-- ---- along a relation

module _ {S : VerificationType → VerificationType → Type 0} (flow : IsFlow S) where
  pub each_same : (xs : List VerificationType) → EachBy S xs xs
  each_same [] = tt
  each_same (x ∷ xs) = (flow.same x, each_same xs)

  pub each_on : (xs ys zs : List VerificationType) → EachBy S xs ys → EachBy S ys zs → EachBy S xs zs
  each_on [] [] zs f g = g
  each_on [] (y ∷ ys) zs f g = absurd f
  each_on (x ∷ xs) [] zs f g = absurd f
  each_on (x ∷ xs) (y ∷ ys) [] f g = absurd g
  each_on (x ∷ xs) (y ∷ ys) (z ∷ zs) f g = (flow.on x y z f.0 g.0, each_on xs ys zs f.1 g.1)

  pub state_same : (s : TypeState) → StateBy S s s
  state_same s = record { locals = each_same s.locals; stack = each_same s.stack }

  each_renamed : (image : ℕ → ℕ) (xs ys : List VerificationType) → EachBy S xs ys → EachBy S (map (renamed image) xs) (map (renamed image) ys)
  each_renamed image [] [] h = tt
  each_renamed image [] (y ∷ ys) h = absurd h
  each_renamed image (x ∷ xs) [] h = absurd h
  each_renamed image (x ∷ xs) (y ∷ ys) h = (flow.stays_renamed image x y h.0, each_renamed image xs ys h.1)

  each_inserted : (v : ℕ) (e : VerificationType) (xs ys : List VerificationType) → EachBy S xs ys → EachBy S (insert xs v e) (insert ys v e)
  each_inserted zero e xs ys h = (flow.same e, h)
  each_inserted (suc v) e [] [] h = (flow.same e, tt)
  each_inserted (suc v) e [] (y ∷ ys) h = absurd h
  each_inserted (suc v) e (x ∷ xs) [] h = absurd h
  each_inserted (suc v) e (x ∷ xs) (y ∷ ys) h = (h.0, each_inserted v e xs ys h.1)

  pub state_shift : (image : ℕ → ℕ) (v : ℕ) (s t : TypeState) → StateBy S s t → StateBy S (shifted image v s) (shifted image v t)
  state_shift image v s t h = record {
    locals = each_inserted v probes (map (renamed image) s.locals) (map (renamed image) t.locals) (each_renamed image s.locals t.locals h.locals);
    stack = each_renamed image s.stack t.stack h.stack;
  }

module _ (S : VerificationType → VerificationType → Type 0) where
  pub each_length : (xs ys : List VerificationType) → EachBy S xs ys → length xs ≡ length ys
  each_length [] [] f = refl
  each_length [] (y ∷ ys) f = absurd f
  each_length (x ∷ xs) [] f = absurd f
  each_length (x ∷ xs) (y ∷ ys) f = ap suc (each_length xs ys f.1)

  pub there_fit : (o u : Option TypeState) (s t : TypeState) → o ≡ Some s → u ≡ Some t → ThereBy S o u → StateBy S s t
  there_fit o u s t e f h = subst (λ x. ThereBy S (Some s) x) f (subst (λ x. ThereBy S x u) e h)

  pub fit_there : (o : Option TypeState) (s t : TypeState) → o ≡ Some t → StateBy S s t → ThereBy S (Some s) o
  fit_there o s t e h = subst (λ x. ThereBy S (Some s) x) (sym e) h

-- ---- the relation of the kind check

fits_on : (a b c : VerificationType) → Fits a b → Fits b c → Fits a c
fits_on a b c f (inl e) = inl e
fits_on a b c f (inr (inl e)) = subst (Fits a) e f
fits_on a b c (inl e) (inr (inr g)) = absurd (no_top (subst IsNullOrObject e g.0))
  where
    no_top : IsNullOrObject top → ⊥
    no_top x = x
fits_on a b c (inr (inl e)) (inr (inr g)) = inr (inr (subst IsNullOrObject (sym e) g.0, g.1))
fits_on a b c (inr (inr f)) (inr (inr g)) = inr (inr (f.0, g.1))

null_renamed : (image : ℕ → ℕ) (a : VerificationType) → IsNullOrObject a → IsNullOrObject (renamed image a)
null_renamed image verification.null p = p
null_renamed image (verification.object name) p = p
null_renamed image a p = absurd p

object_renamed : (image : ℕ → ℕ) (a : VerificationType) → IsObject a → IsObject (renamed image a)
object_renamed image (verification.object name) p = p
object_renamed image a p = absurd p

fits_renamed : (image : ℕ → ℕ) (a b : VerificationType) → Fits a b → Fits (renamed image a) (renamed image b)
fits_renamed image a b (inl e) = inl (ap (renamed image) e)
fits_renamed image a b (inr (inl e)) = inr (inl (ap (renamed image) e))
fits_renamed image a b (inr (inr p)) = inr (inr (null_renamed image a p.0, object_renamed image b p.1))

pub kind_flow : IsFlow Fits
kind_flow = record { same = λ a. inr (inl refl); on = fits_on; stays_renamed = fits_renamed }

each_fits : (x y : List VerificationType) → FitEach x y → EachBy Fits x y
each_fits [] [] f = tt
each_fits [] (k ∷ y) f = absurd f
each_fits (h ∷ x) [] f = absurd f
each_fits (h ∷ x) (k ∷ y) f = (f.0, each_fits x y f.1)

fit_each_back : (x y : List VerificationType) → EachBy Fits x y → FitEach x y
fit_each_back [] [] f = tt
fit_each_back [] (k ∷ y) f = absurd f
fit_each_back (h ∷ x) [] f = absurd f
fit_each_back (h ∷ x) (k ∷ y) f = (f.0, fit_each_back x y f.1)

pub there_fits : (s t : Option TypeState) → FitsThere s t → ThereBy Fits s t
there_fits (Some s) (Some t) f = record { locals = each_fits s.locals t.locals f.locals; stack = each_fits s.stack t.stack f.stack }
there_fits (Some s) None f = absurd f
there_fits None t f = absurd f

pub fits_there_back : (s t : Option TypeState) → ThereBy Fits s t → FitsThere s t
fits_there_back (Some s) (Some t) f = record { locals = fit_each_back s.locals t.locals f.locals; stack = fit_each_back s.stack t.stack f.stack }
fits_there_back (Some s) None f = absurd f
fits_there_back None t f = absurd f

-- a body that passes the kind check flows by its relation
pub kind_flows : (names : Names) (b : Body) → Checked names b → FlowsBy Fits names b
kind_flows names b c = record {
  entry = there_fits (Some (entry_of b)) (state_of names b 0) c.entry;
  branches = λ i j l. there_fits (after_at names b i) (state_of names b j) (c.branches i j l);
  handlers = λ h i g lt. there_fits (at_handler b h (state_of names b i)) (state_of names b h.target) (c.handlers h i g lt);
}
