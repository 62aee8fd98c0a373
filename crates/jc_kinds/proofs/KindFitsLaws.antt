-- Types that are kept fit where those that they stand for do.
use Rattle.std.proofs.Common.{◌≡◌, ◌≢◌, ℕ, suc, ◌+◌, ◌<◌, ◌≤◌, Bool, false, true, ◌&&◌, List, [], ◌∷◌, length, map, drop, get_or, refl, ◌∙◌, ap, ap₂, arith}
use Rattle.std.proofs.lemmas.Bool.{and_right}
use Rattle.std.proofs.lemmas.List.{drop_more, drop_all}
use Rattle.jc_methods.specs.declared.kind.Kind.{Kind}
use Rattle.jc_methods.specs.declared.kind.Kind.TheVariants as kinds
use Rattle.jc_methods.specs.declared.kind.State.{State}
use Rattle.jc_methods.specs.VerificationTypes.{Names, VerificationType, object, verification_type, type_state}
use Rattle.jc_kinds.specs.Fits.{fits, fit_each, fit_state}
use Rattle.jc_kinds.specs.KindFits.{kind_fits, kinds_fit, state_fits}

-- ---- one by one

pub fit-unequal : (ks ws : List Kind) → length ks ≢ length ws → kinds_fit ks ws ≡ false
fit-unequal [] [] ne = absurd (ne refl)
fit-unequal [] (w ∷ ws) ne = refl
fit-unequal (k ∷ ks) [] ne = refl
fit-unequal (k ∷ ks) (w ∷ ws) ne = and_right (kind_fits k w) (kinds_fit ks ws) (fit-unequal ks ws (λ e. ne (ap suc e)))

pub fit_on : (ks ws : List Kind) (i : ℕ) → i < length ks → length ks ≡ length ws
    → kinds_fit (drop i ks) (drop i ws) ≡ (kind_fits (get_or ks i kinds.Top) (get_or ws i kinds.Top) && kinds_fit (drop (i + 1) ks) (drop (i + 1) ws))
fit_on ks ws i lt same =
    let lt' : i < length ws = omega (arith, lt, same) in
    ap₂ kinds_fit (drop_more ks i kinds.Top lt) (drop_more ws i kinds.Top lt')

pub fit_done : (ks ws : List Kind) (i : ℕ) → length ks ≤ i → length ks ≡ length ws → kinds_fit (drop i ks) (drop i ws) ≡ true
fit_done ks ws i le same = let le' : length ws ≤ i = omega (arith, le, same) in ap₂ kinds_fit (drop_all i ks le) (drop_all i ws le')

-- ---- under any names

-- a test that takes all objects alike
alike : (names : Names) (test : VerificationType → Bool) → ((a b : List ℕ) → test (object a) ≡ test (object b)) → (k : Kind) → test (verification_type [] k) ≡ test (verification_type names k)
alike names test same (kinds.Object n) = same (get_or [] n []) (get_or names n [])
alike names test same b = refl

objects_alike : (w : Kind) (a b : List ℕ) → fits (object a) (verification_type [] w) ≡ fits (object b) (verification_type [] w)
objects_alike kinds.Top a b = refl
objects_alike w a b = refl

wants_alike : (names : Names) (h : VerificationType) (w : Kind) → fits h (verification_type [] w) ≡ fits h (verification_type names w)
wants_alike names h w = alike names (fits h) (λ a b. refl) w

pub held_fits : (names : Names) (k w : Kind) → kind_fits k w ≡ fits (verification_type names k) (verification_type names w)
held_fits names k w = alike names (λ (h : VerificationType). fits h (verification_type [] w)) (objects_alike w) k ∙ wants_alike names (verification_type names k) w

pub each_held_fits : (names : Names) (ks ws : List Kind) → kinds_fit ks ws ≡ fit_each (map (verification_type names) ks) (map (verification_type names) ws)
each_held_fits names [] [] = refl
each_held_fits names [] (w ∷ ws) = refl
each_held_fits names (k ∷ ks) [] = refl
each_held_fits names (k ∷ ks) (w ∷ ws) = ap₂ (λ a b. a && b) (held_fits names k w) (each_held_fits names ks ws)

pub state_held_fits : (names : Names) (s t : State) → state_fits s t ≡ fit_state (type_state names s) (type_state names t)
state_held_fits names s t = ap₂ (λ a b. a && b) (each_held_fits names s.locals t.locals) (each_held_fits names s.stack t.stack)
