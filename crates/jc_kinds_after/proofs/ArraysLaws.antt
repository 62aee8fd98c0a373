-- Elements of arrays, and classes that are numbered on the way.
use Rattle.std.proofs.Common.{◌≡◌, ℕ, ◌+◌, ◌-◌, ◌≤◌, Bool, true, false, ◌&&◌, List, [], ◌∷◌, ◌++◌, length, map, drop, Option, Some, None, option_map}
use Rattle.std.proofs.Common.{if◌then◌else◌, refl, sym, ap, ◌∙◌, subst, arith, append_assoc, get_or, MatchOption}
use Rattle.std.proofs.lemmas.List.{get_or-drop, length-drop}
use Rattle.std.proofs.lemmas.Bool.{and_right}
use Rattle.jc_methods.specs.declared.kind.Kind.{Kind}
use Rattle.jc_methods.specs.declared.kind.Kind.TheVariants as kinds
use Rattle.jc_methods.specs.declared.kind.State.{State}
use Rattle.jc_methods.specs.VerificationTypes.{Names, VerificationType, top, null, object, verification_type, TypeState, type_state, Grows, IsNumberedState}
use Rattle.jc_methods.proofs.SeenLaws.{seen_stays}
use Rattle.jc_kinds_after.specs.declared.want.Want.{Want}
use Rattle.jc_kinds_after.specs.declared.want.Want.TheVariants as wants
use Rattle.jc_kinds_after.specs.declared.form.Give.TheVariants as given
use Rattle.jc_kinds_after.specs.Wants.{is_int, is_reference, accepts_all}
use Rattle.jc_kinds_after.specs.Step.{kind, below, upper, is_array, element_of, picked, with_stack, limited}
use Rattle.jc_kinds_after.specs.Table.{form}
use Rattle.jc_kinds_after.specs.Shapes.{form_of, moved_in}
use Rattle.jc_kinds_after.proofs.MovesLaws.{upper_is}
use Rattle.jc_kinds_after.proofs.LocalsLaws.{get_held}

pub seen_later : (old new more : Names) (s : State) → Grows old new → IsNumberedState (length old) s → type_state (new ++ more) s ≡ type_state old s
seen_later old new more s g n =
    ap (λ (l : Names). type_state (l ++ more) s) g.1 ∙ ap (λ (l : Names). type_state l s) (append_assoc old g.0 more) ∙ seen_stays old (g.0 ++ more) s n

-- a form that leaves one value, by what it is
pub one_given : (old names : Names) (state : State) (wanted : List Want) (k : Kind) (h : VerificationType) (most : ℕ) (o : Option State)
    → type_state names state ≡ type_state old state → verification_type names k ≡ h
    → option_map (type_state names) o
    ≡ with_stack (type_state names state) (moved_in most (form_of names wanted (given.Kind k ∷ [])) (map (verification_type names) state.stack))
    → option_map (type_state names) o ≡ with_stack (type_state old state) (moved_in most (form wanted (kind h ∷ [])) (map (verification_type old) state.stack))
one_given old names state wanted k h most o same is m =
    let P : TypeState → Type 0 =
    λ s. option_map (type_state names) o ≡ with_stack s (moved_in most (form wanted (kind (verification_type names k) ∷ [])) s.stack) in
    let Q : VerificationType → Type 0 =
    λ x. option_map (type_state names) o
    ≡ with_stack (type_state old state) (moved_in most (form wanted (kind x ∷ [])) (map (verification_type old) state.stack)) in
    subst Q is (subst P same m)

-- the deepest of so many operands
pub deepest_is : (names : Names) (n : ℕ) (ks : List Kind)
    → get_or (upper n (map (verification_type names) ks)) 0 top ≡ verification_type names (get_or ks (length ks - n) kinds.Top)
deepest_is names n ks =
    ap (λ hs. get_or hs 0 top) (upper_is names n ks) ∙ get_held names (drop (length ks - n) ks) 0
    ∙ ap (verification_type names) (get_or-drop (length ks - n) ks 0 kinds.Top)
    ∙ ap (λ i. verification_type names (get_or ks i kinds.Top)) (let P : length ks - n + 0 ≡ length ks - n = omega arith in P)

array_reference : (h : VerificationType) → is_array h ≡ true → is_reference h ≡ true
array_reference null e = refl
array_reference (object name) e = refl
array_reference _ e = absurd cc

-- what is said of the value that is there
pub some_element : {X : Type 0} (o : Option X) (x : X) (P : Type 0) (Q : X → Type 0) → o ≡ Some x → MatchOption o P Q → Q x
some_element {X = X} o x P Q e m = subst (λ (p : Option X). MatchOption p P Q) e m

-- what is said where there is none
pub no_element : {X : Type 0} (o : Option X) (P : Type 0) (Q : X → Type 0) → o ≡ None → MatchOption o P Q → P
no_element {X = X} o P Q e m = subst (λ (p : Option X). MatchOption p P Q) e m

pub picked_no : (most : ℕ) (s : TypeState) (array : VerificationType) → get_or (upper 2 s.stack) 0 top ≡ array → is_array array ≡ false → None ≡ picked most s
picked_no most s array at none = sym (rw (at, none) refl)

-- aaload takes an array and an index, and leaves an element
pub picked_moves : (most : ℕ) (s : TypeState) (array : VerificationType) → get_or (upper 2 s.stack) 0 top ≡ array → is_array array ≡ true
    → with_stack s (moved_in most (form (wants.Reference ∷ wants.Int ∷ []) (kind (element_of array) ∷ [])) s.stack) ≡ picked most s
picked_moves most s array at is = by (upper 2 s.stack) (let n = length-drop (length s.stack - 2) s.stack in omega arith) at
  where
    by : (u : List VerificationType) → length u ≤ 2 → get_or u 0 top ≡ array
        → with_stack s (if accepts_all (wants.Reference ∷ wants.Int ∷ []) u then limited most (below 2 s.stack ++ element_of array ∷ []) else None)
        ≡ (if is_array (get_or u 0 top) && is_int (get_or u 1 top) then with_stack s
        (limited most (below 2 s.stack ++ element_of (get_or u 0 top) ∷ [])) else None)
    by [] few at = refl
    by (x ∷ []) few at = rw (and_right (is_reference x) false refl, and_right (is_array x) false refl) refl
    by (x ∷ y ∷ []) few at =
        let array_is : is_array x ≡ true = ap is_array at ∙ is in
        rw (array_reference x array_is, array_is, ← at) (index (is_int y))
      where
        index : (b : Bool) → with_stack s (if b && true then limited most (below 2 s.stack ++ element_of x ∷ []) else None)
            ≡ (if b then with_stack s (limited most (below 2 s.stack ++ element_of x ∷ [])) else None)
        index true = refl
        index false = refl
    by (x ∷ y ∷ z ∷ u) few at = absurd (omega (arith, few))
