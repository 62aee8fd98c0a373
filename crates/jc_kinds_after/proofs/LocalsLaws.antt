-- Local variables and values on top of the stack, by what they hold.
use Rattle.std.proofs.Common.{◌≡◌, ℕ, zero, suc, ◌+◌, ◌-◌, ◌<◌, ◌≤◌, ◌==◌, Bool, true, false, List, [], ◌∷◌, ◌++◌, length, map, take, drop, Option}
use Rattle.std.proofs.Common.{Some, None, option_map, if◌then◌else◌, refl, sym, ap, ◌∙◌, subst, arith, get_or, set, nat_le}
use Rattle.std.proofs.lemmas.List.{get_or-drop, map-set, set_past, length-map, drop_all, take_all}
use Rattle.jc_methods.specs.declared.kind.Kind.{Kind}
use Rattle.jc_methods.specs.declared.kind.Kind.TheVariants as kinds
use Rattle.jc_methods.specs.declared.kind.State.{State}
use Rattle.jc_methods.specs.VerificationTypes.{Names, VerificationType, top, verification_type, type_state, is_pair, slots}
use Rattle.jc_kinds_after.specs.declared.want.Want.{Want}
use Rattle.jc_kinds_after.specs.declared.want.Want.TheVariants as wants
use Rattle.jc_kinds_after.specs.Wants.{accepts, accepts_all, is_int}
use Rattle.jc_kinds_after.specs.Step.{Gives, kind, last, below, upper, cleared, clear_before, put_second, put_local, loaded, stored, counted}
use Rattle.jc_kinds_after.specs.Step.{with_stack, limited, given_of}
use Rattle.jc_kinds_after.specs.Table.{form}
use Rattle.jc_kinds_after.specs.Shapes.{moved_in}
use Rattle.jc_kinds_after.proofs.MovesLaws.{upper_is, below_is}

pub get_held : (names : Names) (ks : List Kind) (i : ℕ) → get_or (map (verification_type names) ks) i top ≡ verification_type names (get_or ks i kinds.Top)
get_held names [] i = refl
get_held names (k ∷ ks) zero = refl
get_held names (k ∷ ks) (suc i) = get_held names ks i

-- ---- writes

-- what was read, whatever is given for a missing item
pub read_is : (ks : List Kind) (i : ℕ) (y d : Kind) → i < length ks → y ≡ get_or ks i y → get_or ks i d ≡ y
read_is [] i y d lt e = absurd (omega (arith, lt))
read_is (k ∷ ks) zero y d lt e = sym e
read_is (k ∷ ks) (suc i) y d lt e = read_is ks i y d (omega (arith, lt)) e

pub cleared_there : (names : Names) (ks : List Kind) (slot i : ℕ) (x : Kind) → slot ≡ suc i
    → verification_type names x ≡ cleared (verification_type names (get_or ks i kinds.Top))
    → map (verification_type names) (set ks i x) ≡ clear_before slot (map (verification_type names) ks)
cleared_there names ks slot i x at e =
    map-set (verification_type names) ks i x ∙ ap (λ h. set (map (verification_type names) ks) i h) (e ∙ ap cleared (sym (get_held names ks i)))
    ∙ ap (λ n. clear_before n (map (verification_type names) ks)) (sym at)

pub single_there : (names : Names) (ks : List Kind) (slot : ℕ) (h : VerificationType) → is_pair h ≡ false
    → map (verification_type names) ks ≡ put_second h slot (map (verification_type names) ks)
single_there names ks slot h e = sym (rw e refl)

pub past_there : (names : Names) (ks : List Kind) (slot : ℕ) (h : VerificationType) → length ks ≤ slot + 1
    → map (verification_type names) ks ≡ put_second h slot (map (verification_type names) ks)
past_there names ks slot h past = by (is_pair h)
  where
    by : (b : Bool) → map (verification_type names) ks ≡ (if b then set (map (verification_type names) ks) (slot + 1) top else map (verification_type names) ks)
    by true = sym (set_past (map (verification_type names) ks) (slot + 1) top (let n = length-map ks (verification_type names) in omega (arith, n, past)))
    by false = refl

pub second_there : (names : Names) (ks : List Kind) (slot : ℕ) (h : VerificationType) → is_pair h ≡ true
    → map (verification_type names) (set ks (slot + 1) kinds.Top) ≡ put_second h slot (map (verification_type names) ks)
second_there names ks slot h e = map-set (verification_type names) ks (slot + 1) kinds.Top ∙ sym (rw e refl)

pub put_there : (names : Names) (ks before after : List Kind) (slot : ℕ) (k : Kind)
    → map (verification_type names) before ≡ clear_before slot (map (verification_type names) ks)
    → map (verification_type names) after ≡ put_second (verification_type names k) slot (map (verification_type names) (set before slot k))
    → map (verification_type names) after ≡ put_local slot (verification_type names k) (map (verification_type names) ks)
put_there names ks before after slot k b a =
    a ∙ ap (put_second (verification_type names k) slot) (map-set (verification_type names) before slot k
    ∙ ap (λ hs. set hs slot (verification_type names k)) b)

-- ---- pushes

pub no_operands : (n : ℕ) (stack : List VerificationType) → n ≡ length stack → drop n stack ≡ []
no_operands n stack e = drop_all n stack (omega (arith, e))

minus_zero : (n : ℕ) → n - 0 ≡ n
minus_zero n = omega arith

pub upper_none : (stack : List VerificationType) → upper 0 stack ≡ []
upper_none stack = ap (λ n. drop n stack) (minus_zero (length stack)) ∙ drop_all (length stack) stack (omega arith)

pub below_none : (stack : List VerificationType) → below 0 stack ≡ stack
below_none stack = ap (λ n. take n stack) (minus_zero (length stack)) ∙ take_all (length stack) stack (omega arith)

-- what takes nothing leaves all, and its results
pub pushed_on : (most : ℕ) (given : List Gives) (stack : List VerificationType)
    → moved_in most (form [] given) stack ≡ limited most (stack ++ map (given_of []) given)
pushed_on most given stack = by (upper 0 stack) (upper_none stack) (below 0 stack) (below_none stack)
  where
    by : (u : List VerificationType) → u ≡ [] → (b : List VerificationType) → b ≡ stack
        → (if accepts_all [] u then limited most (b ++ map (given_of u) given) else None) ≡ limited most (stack ++ map (given_of []) given)
    by u e b f = rw (e, f) refl

-- ---- loads and stores

pub load_no : (names : Names) (state : State) (ks : List Kind) (slot most : ℕ) (want : Want) → ks ≡ state.locals
    → accepts want (verification_type names (get_or ks slot kinds.Top)) ≡ false
    → None ≡ loaded most slot want (type_state names state)
load_no names state ks slot most want same e =
    let P : List Kind → Type 0 =
    λ xs. None ≡ loaded most slot want (record { locals = map (verification_type names) xs; stack = map (verification_type names) state.stack }) in
    subst P same (sym (rw (get_held names ks slot, e) refl))

pub load_yes : (names : Names) (state : State) (ks : List Kind) (slot most : ℕ) (want : Want) (o : Option State) → ks ≡ state.locals
    → accepts want (verification_type names (get_or ks slot kinds.Top)) ≡ true
    → option_map (type_state names) o
    ≡ with_stack (type_state names state)
    (moved_in most (form [] (kind (verification_type names (get_or ks slot kinds.Top)) ∷ [])) (map (verification_type names) state.stack))
    → option_map (type_state names) o ≡ loaded most slot want (type_state names state)
load_yes names state ks slot most want o same e m =
    let P : List Kind → Type 0 =
    λ xs. with_stack (record { locals = map (verification_type names) xs; stack = map (verification_type names) state.stack })
    (limited most (map (verification_type names) state.stack ++ verification_type names (get_or ks slot kinds.Top) ∷ []))
    ≡ loaded most slot want (record { locals = map (verification_type names) xs; stack = map (verification_type names) state.stack }) in
    m ∙ ap (with_stack (type_state names state))
    (pushed_on most (kind (verification_type names (get_or ks slot kinds.Top)) ∷ []) (map (verification_type names) state.stack))
    ∙ subst P same (sym (rw (get_held names ks slot, e) refl))

pub count_no : (names : Names) (state : State) (ks : List Kind) (slot most : ℕ) → ks ≡ state.locals
    → is_int (verification_type names (get_or ks slot kinds.Top)) ≡ false → None ≡ counted most slot (type_state names state)
count_no names state ks slot most same e =
    let P : List Kind → Type 0 =
    λ xs. None ≡ counted most slot (record { locals = map (verification_type names) xs; stack = map (verification_type names) state.stack }) in
    subst P same (sym (rw (get_held names ks slot, e) refl))

-- the stack has too many slots
pub count_past : (names : Names) (state : State) (ks : List Kind) (slot most : ℕ) → ks ≡ state.locals
    → is_int (verification_type names (get_or ks slot kinds.Top)) ≡ true
    → nat_le (slots (map (verification_type names) state.stack)) most ≡ false → None ≡ counted most slot (type_state names state)
count_past names state ks slot most same e past =
    let P : List Kind → Type 0 =
    λ xs. None ≡ counted most slot (record { locals = map (verification_type names) xs; stack = map (verification_type names) state.stack }) in
    subst P same (sym (rw (get_held names ks slot, e, past) refl))

pub count_yes : (names : Names) (state : State) (ks : List Kind) (slot most : ℕ) → ks ≡ state.locals
    → is_int (verification_type names (get_or ks slot kinds.Top)) ≡ true
    → nat_le (slots (map (verification_type names) state.stack)) most ≡ true → Some (type_state names state) ≡ counted most slot (type_state names state)
count_yes names state ks slot most same e fits =
    let P : List Kind → Type 0 =
    λ xs. Some (record { locals = map (verification_type names) xs; stack = map (verification_type names) state.stack })
    ≡ counted most slot (record { locals = map (verification_type names) xs; stack = map (verification_type names) state.stack }) in
    subst P same (sym (rw (get_held names ks slot, e, fits) refl))

pub no_top : (want : Want) → accepts want top ≡ false
no_top wants.Pair = refl
no_top _ = refl

-- the value on top
pub last_is : (names : Names) (ks : List Kind) → 0 < length ks
    → last (map (verification_type names) ks) ≡ verification_type names (get_or ks (length ks - 1) kinds.Top)
last_is names ks some =
    ap (λ hs. get_or hs 0 top) (upper_is names 1 ks) ∙ get_held names (drop (length ks - 1) ks) 0
    ∙ ap (verification_type names) (get_or-drop (length ks - 1) ks 0 kinds.Top)
    ∙ ap (λ n. verification_type names (get_or ks n kinds.Top)) (let P : length ks - 1 + 0 ≡ length ks - 1 = omega arith in P)

pub store_none : (names : Names) (state : State) (slot most : ℕ) (want : Want) → state.stack ≡ [] → None ≡ stored most slot want (type_state names state)
store_none names state slot most want e =
    let P : List Kind → Type 0 =
    λ ks. None ≡ stored most slot want (record { locals = map (verification_type names) state.locals; stack = map (verification_type names) ks }) in
    subst P (sym e) (sym (rw (no_top want) refl))

pub store_no : (names : Names) (state : State) (ks : List Kind) (slot most : ℕ) (want : Want) → ks ≡ state.stack → 0 < length ks
    → accepts want (verification_type names (get_or ks (length ks - 1) kinds.Top)) ≡ false
    → None ≡ stored most slot want (type_state names state)
store_no names state ks slot most want same some e =
    let P : List Kind → Type 0 =
    λ xs. None ≡ stored most slot want (record { locals = map (verification_type names) state.locals; stack = map (verification_type names) xs }) in
    subst P same (sym (rw (last_is names ks some, e) refl))

-- what is below the value on top has too many slots
pub store_past : (names : Names) (state : State) (ks : List Kind) (slot most : ℕ) (want : Want) → ks ≡ state.stack → 0 < length ks
    → accepts want (verification_type names (get_or ks (length ks - 1) kinds.Top)) ≡ true
    → nat_le (slots (map (verification_type names) (take (length ks - 1) ks))) most ≡ false → None ≡ stored most slot want (type_state names state)
store_past names state ks slot most want same some e past =
    let P : List Kind → Type 0 =
    λ xs. None ≡ stored most slot want (record { locals = map (verification_type names) state.locals; stack = map (verification_type names) xs }) in
    subst P same (sym (rw (last_is names ks some, e, below_is names 1 ks, past) refl))

pub store_yes : (names : Names) (state : State) (ks vs : List Kind) (slot most : ℕ) (want : Want) (locals below : List Kind) → ks ≡ state.stack
    → vs ≡ state.locals → 0 < length ks
    → accepts want (verification_type names (get_or ks (length ks - 1) kinds.Top)) ≡ true
    → nat_le (slots (map (verification_type names) (take (length ks - 1) ks))) most ≡ true
    → map (verification_type names) locals ≡ put_local slot (verification_type names (get_or ks (length ks - 1) kinds.Top)) (map (verification_type names) vs)
    → below ≡ take (length ks - 1) ks → Some (type_state names (record { locals = locals; stack = below })) ≡ stored most slot want (type_state names state)
store_yes names state ks vs slot most want locals below same vars some e fits l b =
    let P : List Kind → Type 0 =
    λ xs. Some (type_state names (record { locals = locals; stack = below }))
    ≡ stored most slot want (record { locals = map (verification_type names) state.locals; stack = map (verification_type names) xs }) in
    let Q : List Kind → Type 0 =
    λ xs. Some (type_state names (record { locals = locals; stack = below }))
    ≡ stored most slot want (record { locals = map (verification_type names) xs; stack = map (verification_type names) ks }) in
    subst P same (subst Q vars (sym (rw (last_is names ks some, e, below_is names 1 ks, fits, ← l, ← b) refl)))

pub some_items : (ks : List Kind) → (length ks == 0) ≡ false → 0 < length ks
some_items [] e = absurd cc
some_items (k ∷ ks) e = omega arith
