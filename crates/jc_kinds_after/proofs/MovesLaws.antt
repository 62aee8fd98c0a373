-- Operands that are taken and results that are left, one by one.
use Rattle.jc_methods.specs.WellMade.{kind_slots}
use Rattle.jc_methods.specs.declared.kind.Kind.TheVariants as kinds
use Rattle.std.proofs.Common.{◌≡◌, ◌≢◌, ℕ, suc, ◌+◌, ◌-◌, ◌<◌, ◌≤◌, true, false, ◌&&◌, List, [], ◌∷◌, ◌++◌, length, map, take, drop, Option, Some}
use Rattle.std.proofs.Common.{None, option_map, refl, sym, ap, ap₂, ◌∙◌, arith, get_or, nat_le}
use Rattle.std.proofs.lemmas.List.{drop_more, drop_all, take_all, length-map, length-drop, take-map, drop-map, map-append, map_more, append_assoc}
use Rattle.jc_methods.specs.declared.kind.Kind.{Kind}
use Rattle.jc_methods.specs.declared.kind.State.{State}
use Rattle.jc_kinds_after.specs.declared.want.Want.{Want}
use Rattle.jc_kinds_after.specs.declared.form.Give.{Give}
use Rattle.jc_kinds_after.specs.declared.form.Give.TheVariants as gives
use Rattle.jc_methods.specs.VerificationTypes.{Names, VerificationType, verification_type, type_state, width, slots}
use Rattle.jc_kinds_after.specs.Wants.{accepts, accepts_all}
use Rattle.jc_kinds_after.specs.Step.{StackEffect, limited, below, upper, has_form, moved_by, given_of, with_stack}
use Rattle.std.specs.List.{flat_map, list_any}
use Rattle.std.proofs.lemmas.Bool.{and_right, true≢false}
use Rattle.jc_kinds_after.specs.declared.table.Shape.{Shape}
use Rattle.jc_kinds_after.specs.Shapes.{forms_of}
use Rattle.jc_kinds_after.specs.Shapes.{gives_of, is_item, form_of, moved_in}

pub all-unequal : (ws : List Want) (hs : List VerificationType) → length ws ≢ length hs → accepts_all ws hs ≡ false
all-unequal [] [] ne = absurd (ne refl)
all-unequal [] (h ∷ hs) ne = refl
all-unequal (w ∷ ws) [] ne = refl
all-unequal (w ∷ ws) (h ∷ hs) ne = rw (all-unequal ws hs (λ e. ne (ap suc e))) (and_right (accepts w h) false refl)

-- one operand on
pub all_on : (names : Names) (ws : List Want) (ks : List Kind) (i : ℕ) (w : Want) (k : Kind) → i < length ws → length ws ≡ length ks →
    accepts_all (drop i ws) (map (verification_type names) (drop i ks))
    ≡ accepts (get_or ws i w) (verification_type names (get_or ks i k)) && accepts_all (drop (i + 1) ws) (map (verification_type names) (drop (i + 1) ks))
all_on names ws ks i w k lt e = let lt' : i < length ks = omega arith in rw (drop_more ws i w lt, drop_more ks i k lt') refl

pub all_no : (names : Names) (ws : List Want) (ks : List Kind) (i : ℕ) (w : Want) (k : Kind) → i < length ws → length ws ≡ length ks
    → accepts (get_or ws i w) (verification_type names (get_or ks i k)) ≡ false →
    accepts_all (drop i ws) (map (verification_type names) (drop i ks)) ≡ false
all_no names ws ks i w k lt e a =
    all_on names ws ks i w k lt e ∙ ap (λ b. b && accepts_all (drop (i + 1) ws) (map (verification_type names) (drop (i + 1) ks))) a

pub all_yes : (names : Names) (ws : List Want) (ks : List Kind) (i : ℕ) (w : Want) (k : Kind) → i < length ws → length ws ≡ length ks
    → accepts (get_or ws i w) (verification_type names (get_or ks i k)) ≡ true →
    accepts_all (drop i ws) (map (verification_type names) (drop i ks)) ≡ accepts_all (drop (i + 1) ws) (map (verification_type names) (drop (i + 1) ks))
all_yes names ws ks i w k lt e a =
    all_on names ws ks i w k lt e ∙ ap (λ b. b && accepts_all (drop (i + 1) ws) (map (verification_type names) (drop (i + 1) ks))) a

pub all_end : (names : Names) (ws : List Want) (ks : List Kind) (i : ℕ) → length ws ≤ i → length ws ≡ length ks
    → accepts_all (drop i ws) (map (verification_type names) (drop i ks)) ≡ true
all_end names ws ks i le e = let le' : length ks ≤ i = omega arith in rw (drop_all i ws le, drop_all i ks le') refl

pub width_is : (names : Names) (k : Kind) → width (verification_type names k) ≡ kind_slots k
width_is names (kinds.Uninit at) = refl
width_is names _ = refl

pub slots_on : (names : Names) (ks : List Kind) (i : ℕ) (k : Kind) → i < length ks →
    slots (map (verification_type names) (drop i ks))
    ≡ width (verification_type names (get_or ks i k)) + slots (map (verification_type names) (drop (i + 1) ks))
slots_on names ks i k lt = rw (drop_more ks i k lt) refl

-- too short a stack
pub moved_short : (names : Names) (most : ℕ) (ws : List Want) (gs : List Give) (ks : List Kind) → length ks < length ws
    → moved_in most (form_of names ws gs) (map (verification_type names) ks) ≡ None
moved_short names most ws gs ks lt = rw no refl
  where
    no : accepts_all ws (upper (length ws) (map (verification_type names) ks)) ≡ false
    no = let n = length-map ks (verification_type names) in let m =
        length-drop (length (map (verification_type names) ks) - length ws) (map (verification_type names) ks) in
        all-unequal ws (upper (length ws) (map (verification_type names) ks)) (omega arith)

pub upper_is : (names : Names) (n : ℕ) (ks : List Kind) → upper n (map (verification_type names) ks) ≡ map (verification_type names) (drop (length ks - n) ks)
upper_is names n ks = ap (λ m. drop (m - n) (map (verification_type names) ks)) (length-map ks (verification_type names))
    ∙ drop-map (verification_type names) (length ks - n) ks

pub below_is : (names : Names) (n : ℕ) (ks : List Kind) → below n (map (verification_type names) ks) ≡ map (verification_type names) (take (length ks - n) ks)
below_is names n ks = ap (λ m. take (m - n) (map (verification_type names) ks)) (length-map ks (verification_type names))
    ∙ take-map (verification_type names) (length ks - n) ks

-- other operands
pub moved_unfit : (names : Names) (most : ℕ) (ws : List Want) (gs : List Give) (ks ops : List Kind) → ops ≡ drop (length ks - length ws) ks →
    accepts_all ws (map (verification_type names) ops) ≡ false → moved_in most (form_of names ws gs) (map (verification_type names) ks) ≡ None
moved_unfit names most ws gs ks ops e unfit = rw (upper_is names (length ws) ks, ← e, unfit) refl

-- what is moved, and the limit
pub moved_fit : (names : Names) (most : ℕ) (ws : List Want) (gs : List Give) (ks ops after : List Kind) → ops ≡ drop (length ks - length ws) ks →
    accepts_all ws (map (verification_type names) ops) ≡ true →
    map (verification_type names) after
    ≡ map (verification_type names) (take (length ks - length ws) ks) ++ map (given_of (map (verification_type names) ops)) (map (gives_of names) gs) →
    moved_in most (form_of names ws gs) (map (verification_type names) ks) ≡ limited most (map (verification_type names) after)
moved_fit names most ws gs ks ops after e fit m = rw (upper_is names (length ws) ks, below_is names (length ws) ks, ← e, fit, m) refl

pub pushed : (names : Names) (gs : List Give) (i : ℕ) (g : Give) (k : Kind) (xs ys ops read : List Kind) (front : List VerificationType) → i < length gs →
    verification_type names k ≡ given_of (map (verification_type names) read) (gives_of names (get_or gs i g)) → read ≡ ops → ys ≡ xs ++ k ∷ [] →
    map (verification_type names) xs ≡ front ++ map (given_of (map (verification_type names) ops)) (map (gives_of names) (take i gs)) →
    map (verification_type names) ys ≡ front ++ map (given_of (map (verification_type names) ops)) (map (gives_of names) (take (i + 1) gs))
pushed names gs i g k xs ys ops read front lt one same b m =
    let hs = map (verification_type names) ops in
    let given = one ∙ ap (λ (l : List Kind). given_of (map (verification_type names) l) (gives_of names (get_or gs i g))) same in
    ap (map (verification_type names)) b ∙ map-append (verification_type names) xs (k ∷ []) ∙ ap₂ (λ x y. x ++ y ∷ []) m given
    ∙ append_assoc front (map (given_of hs) (map (gives_of names) (take i gs))) (given_of hs (gives_of names (get_or gs i g)) ∷ [])
    ∙ ap (λ x. front ++ x) (sym (ap (map (given_of hs)) (map_more (gives_of names) gs i g lt)
    ∙ map-append (given_of hs) (map (gives_of names) (take i gs)) (gives_of names (get_or gs i g) ∷ [])))

-- where nothing that is left is an operand, the operands are of no matter
pub no_items : (names : Names) (gs : List Give) (hs js : List VerificationType) → list_any is_item gs ≡ false
    → map (given_of hs) (map (gives_of names) gs) ≡ map (given_of js) (map (gives_of names) gs)
no_items names [] hs js none = refl
no_items names (gives.Kind k ∷ gs) hs js none = ap (λ (l : List VerificationType). verification_type names k ∷ l) (no_items names gs hs js none)
no_items names (gives.Item n ∷ gs) hs js none = absurd (true≢false none)

pub limited_no : (most : ℕ) (hs : List VerificationType) → nat_le (slots hs) most ≡ false → limited most hs ≡ None
limited_no most hs e = rw e refl

pub limited_yes : (most : ℕ) (hs : List VerificationType) → nat_le (slots hs) most ≡ true → limited most hs ≡ Some hs
limited_yes most hs e = rw e refl

-- the operands on top of a list that is the stack
pub operands_are : (stack xs : List Kind) (m b w : ℕ) → xs ≡ stack → m ≡ length xs → b ≡ length stack - w
    → take (m - b) (drop b xs) ≡ drop (length stack - w) stack
operands_are stack xs m b w same all at = take_all (m - b) (drop b xs) (let l = length-drop b xs in omega (arith, l, all))
    ∙ ap₂ (λ (n : ℕ) (l : List Kind). drop n l) at same

-- with all that is left behind them
pub moved_all : (names : Names) (most : ℕ) (ws : List Want) (gs : List Give) (i b : ℕ) (ks kept after : List Kind) → length gs ≤ i → b ≡ length ks - length ws →
    accepts_all ws (map (verification_type names) (drop (length ks - length ws) ks)) ≡ true →
    map (given_of (map (verification_type names) kept)) (map (gives_of names) gs)
    ≡ map (given_of (map (verification_type names) (drop (length ks - length ws) ks))) (map (gives_of names) gs) →
    map (verification_type names) after ≡ map (verification_type names) (take b ks) ++ map (given_of (map (verification_type names) kept))
    (map (gives_of names) (take i gs)) →
    moved_in most (form_of names ws gs) (map (verification_type names) ks) ≡ limited most (map (verification_type names) after)
moved_all names most ws gs i b ks kept after le at fit same m =
    moved_fit names most ws gs ks (drop (length ks - length ws) ks) after refl fit
    (m ∙ ap₂ (λ (n : ℕ) (g : List Give). map (verification_type names) (take n ks) ++ map (given_of (map (verification_type names) kept))
    (map (gives_of names) g)) at (take_all i gs le)
    ∙ ap (λ (hs : List VerificationType). map (verification_type names) (take (length ks - length ws) ks) ++ hs) same)

-- ---- the first form that fits

pub chosen_yes : (f : StackEffect) (fs rest : List StackEffect) (most : ℕ) (st : List VerificationType) → f ∷ [] ≡ fs → has_form f st ≡ true
    → moved_by most (fs ++ rest) st ≡ moved_in most f st
chosen_yes f fs rest most st e h = rw (← e, h) refl

pub chosen_no : (f : StackEffect) (fs rest : List StackEffect) (most : ℕ) (st : List VerificationType) → f ∷ [] ≡ fs → has_form f st ≡ false
    → moved_by most (fs ++ rest) st ≡ moved_by most rest st
chosen_no f fs rest most st e h = rw (← e, h) refl

pub chosen_none : (fs rest : List StackEffect) (most : ℕ) (st : List VerificationType) → [] ≡ fs → moved_by most (fs ++ rest) st ≡ moved_by most rest st
chosen_none fs rest most st e = rw (← e) refl

pub forms_on : (shapes : List Shape) (i : ℕ) (d : Shape) → i < length shapes
    → flat_map forms_of (drop i shapes) ≡ forms_of (get_or shapes i d) ++ flat_map forms_of (drop (i + 1) shapes)
forms_on shapes i d lt = rw (drop_more shapes i d lt) refl

pub forms_end : (shapes : List Shape) (i : ℕ) → length shapes ≤ i → flat_map forms_of (drop i shapes) ≡ []
forms_end shapes i le = rw (drop_all i shapes le) refl

pub upper_slice : (names : Names) (n : ℕ) (ks : List Kind) → n ≤ length ks
    → map (verification_type names) (take (length ks - (length ks - n)) (drop (length ks - n) ks)) ≡ upper n (map (verification_type names) ks)
upper_slice names n ks le =
    ap (map (verification_type names)) (take_all (length ks - (length ks - n)) (drop (length ks - n) ks) (let l = length-drop (length ks - n) ks in
    omega arith)) ∙ sym (upper_is names n ks)

pub put_some : (names : Names) (state s : State) (o : Option (List Kind)) (k st : List Kind) (x : List VerificationType
    → Option (List VerificationType)) → o ≡ Some k → st ≡ state.stack
    → option_map (map (verification_type names)) o ≡ x (map (verification_type names) st) → s.locals ≡ state.locals → s.stack ≡ k →
    Some (type_state names s) ≡ with_stack (type_state names state) (x (map (verification_type names) state.stack))
put_some names state s o k st x e f m l t = rw (← f, ← m, e, l, t) refl

pub put_none : (names : Names) (state : State) (o : Option (List Kind)) (st : List Kind) (x : List VerificationType → Option (List VerificationType))
    → o ≡ None → st ≡ state.stack → option_map (map (verification_type names)) o ≡ x (map (verification_type names) st)
    → None ≡ with_stack (type_state names state) (x (map (verification_type names) state.stack))
put_none names state o st x e f m = rw (← f, ← m, e) refl
