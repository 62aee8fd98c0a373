-- Types that are kept suit where those that they stand for do.
use Rattle.std.proofs.Common.{◌≡◌, ◌≢◌, ℕ, zero, suc, ◌+◌, ◌<◌, ◌≤◌, Bool, false, true, not, ◌&&◌, ◌||◌, List, [], ◌∷◌, length, map, drop, get_or, refl, sym, ◌∙◌, ap, ap₂, arith}
use Rattle.std.specs.List.{AllByRecursion}
use Rattle.std.proofs.lemmas.Bool.{and_right, and_parts, eq-eqb}
use Rattle.std.proofs.lemmas.List.{drop_more, drop_all}
use Rattle.jc_methods.specs.declared.kind.Kind.{Kind}
use Rattle.jc_methods.specs.declared.kind.Kind.TheVariants as kinds
use Rattle.jc_methods.specs.declared.kind.State.{State}
use Rattle.jc_methods.specs.VerificationTypes.{Names, VerificationType, verification_type, type_state, IsNumbered}
use Rattle.jc_methods.specs.VerificationTypes as verification
use Rattle.jc_kinds_after.specs.Wants.{is_anything}
use Rattle.jc_kinds.specs.Flows.{EachBy, StateBy}
use Rattle.jc_refs_check.specs.Suits.{suits, SuitsAsReference}
use Rattle.jc_refs_check.proofs.KnownLaws.{class_itself}
use Rattle.jc_refs_check.specs.KindSuits.{reference_suits, kind_suits, kinds_suit, state_suits}

-- ---- one by one

pub suit-unequal : (names : Names) (ks ws : List Kind) → length ks ≢ length ws → kinds_suit names ks ws ≡ false
suit-unequal names [] [] ne = absurd (ne refl)
suit-unequal names [] (w ∷ ws) ne = refl
suit-unequal names (k ∷ ks) [] ne = refl
suit-unequal names (k ∷ ks) (w ∷ ws) ne = and_right (kind_suits names k w) (kinds_suit names ks ws) (suit-unequal names ks ws (λ e. ne (ap suc e)))

pub suit_on : (names : Names) (ks ws : List Kind) (i : ℕ) → i < length ks → length ks ≡ length ws
    → kinds_suit names (drop i ks) (drop i ws) ≡ (kind_suits names (get_or ks i kinds.Top) (get_or ws i kinds.Top) && kinds_suit names (drop (i + 1) ks) (drop (i + 1) ws))
suit_on names ks ws i lt same =
    let lt' : i < length ws = omega (arith, lt, same) in
    ap₂ (kinds_suit names) (drop_more ks i kinds.Top lt) (drop_more ws i kinds.Top lt')

pub suit_done : (names : Names) (ks ws : List Kind) (i : ℕ) → length ks ≤ i → length ks ≡ length ws → kinds_suit names (drop i ks) (drop i ws) ≡ true
suit_done names ks ws i le same = let le' : length ws ≤ i = omega (arith, le, same) in ap₂ (kinds_suit names) (drop_all i ks le) (drop_all i ws le')

-- the number of each class is one of so many
pub numbered_at : (count : ℕ) (ks : List Kind) (i : ℕ) (d : Kind) → AllByRecursion (IsNumbered count) ks → i < length ks → IsNumbered count (get_or ks i d)
numbered_at count [] i d all lt = absurd (omega (arith, lt))
numbered_at count (k ∷ ks) zero d all lt = all.0
numbered_at count (k ∷ ks) (suc i) d all lt = numbered_at count ks i d all.1 (omega (arith, lt))

-- ---- the relation that the tests decide

pub suits_to : (a b : VerificationType) → reference_suits a b ≡ true → SuitsAsReference a b
suits_to a b e is = ap (λ (x : Bool). not x || suits a b) (sym is) ∙ e

pub suits_back : (a b : VerificationType) → SuitsAsReference a b → reference_suits a b ≡ true
suits_back a b s = by (is_anything a) refl
  where
    by : (x : Bool) → is_anything a ≡ x → (not x || suits a b) ≡ true
    by true e = s e
    by false e = refl

-- a type of references suits itself
pub suits_itself : (h : VerificationType) → SuitsAsReference h h
suits_itself verification.null e = refl
suits_itself (verification.object name) e = class_itself name
suits_itself verification.uninit_this e = refl
suits_itself (verification.uninit at) e = eq-eqb at at refl
suits_itself verification.top e = refl
suits_itself verification.int e = absurd cc
suits_itself verification.float e = absurd cc
suits_itself verification.double e = absurd cc
suits_itself verification.long e = absurd cc

pub each_to : (names : Names) (ks ws : List Kind) → kinds_suit names ks ws ≡ true → EachBy SuitsAsReference (map (verification_type names) ks) (map (verification_type names) ws)
each_to names [] [] e = tt
each_to names [] (w ∷ ws) e = absurd cc
each_to names (k ∷ ks) [] e = absurd cc
each_to names (k ∷ ks) (w ∷ ws) e =
    let p = and_parts (kind_suits names k w) (kinds_suit names ks ws) e in
    (suits_to (verification_type names k) (verification_type names w) p.0, each_to names ks ws p.1)

pub each_back : (names : Names) (ks ws : List Kind) → EachBy SuitsAsReference (map (verification_type names) ks) (map (verification_type names) ws) → kinds_suit names ks ws ≡ true
each_back names [] [] e = refl
each_back names [] (w ∷ ws) e = absurd e
each_back names (k ∷ ks) [] e = absurd e
each_back names (k ∷ ks) (w ∷ ws) e = ap₂ (λ (a b : Bool). a && b) (suits_back (verification_type names k) (verification_type names w) e.0) (each_back names ks ws e.1)

pub state_to : (names : Names) (s t : State) → state_suits names s t ≡ true → StateBy SuitsAsReference (type_state names s) (type_state names t)
state_to names s t e =
    let p = and_parts (kinds_suit names s.locals t.locals) (kinds_suit names s.stack t.stack) e in
    record { locals = each_to names s.locals t.locals p.0; stack = each_to names s.stack t.stack p.1 }

pub state_back : (names : Names) (s t : State) → StateBy SuitsAsReference (type_state names s) (type_state names t) → state_suits names s t ≡ true
state_back names s t e = ap₂ (λ (a b : Bool). a && b) (each_back names s.locals t.locals e.locals) (each_back names s.stack t.stack e.stack)
