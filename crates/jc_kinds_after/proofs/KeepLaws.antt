-- What every instruction keeps of a state.
use Rattle.std.proofs.Common.{◌≡◌, ℕ, zero, suc, ◌+◌, ◌-◌, ◌≤◌, Bool, true, false, ◌&&◌, List, [], ◌∷◌, ◌++◌, length, map, take, drop, Option, Some}
use Rattle.std.proofs.Common.{None, if◌then◌else◌, refl, sym, ap, ◌∙◌, subst, get_or, set, nat_le}
use Rattle.std.specs.List.{list_any, AllByRecursion}
use Rattle.std.proofs.lemmas.List.{length-set, length-map}
use Rattle.std.proofs.lemmas.Bool.{leb-true}
use Rattle.std.proofs.lemmas.Option.{none-some, same_Some}
use Rattle.jc_methods.specs.VerificationTypes.{VerificationType, top, object, uninit, TypeState, is_pair, slots}
use Rattle.jc_kinds_after.specs.declared.want.Want.TheVariants as wants
use Rattle.jc_kinds_after.specs.Wants.{is_int, accepts, accepts_all}
use Rattle.jc_kinds_after.specs.Step.{Gives, kind, item, StackEffect, Step, moves, loads, stores, counts, picks, makes, builds, fails, Ground, apply}
use Rattle.jc_kinds_after.specs.Step.{upper, below, last, limited, has_form, moved, moved_by, given_of, cleared, clear_before, put_second, put_local}
use Rattle.jc_kinds_after.specs.Step.{with_stack, is_array, element_of, without, is_made, class_built, built_as, replaced, same_new}
use Rattle.jc_kinds_after.specs.Shift.{IsPlaceless, IsPlain, CanShift}

pub then_some : {X : Type 0} (b : Bool) (x : Option X) (y : X) → (if b then x else None) ≡ Some y → (b ≡ true) × (x ≡ Some y)
then_some true x y e = (refl, e)
then_some false x y e = absurd (none-some _ e)

pub else_some : {X : Type 0} (b : Bool) (x : Option X) (y : X) → (if b then None else x) ≡ Some y → x ≡ Some y
else_some true x y e = absurd (none-some _ e)
else_some false x y e = e

-- ---- a fact of every value

-- holds of every type but that of an object before its constructor
abbrev OfOthers : (VerificationType → Type 0) → Type 0
OfOthers P = (h : VerificationType) → IsPlaceless (kind h) → P h

abbrev All : (VerificationType → Type 0) → List VerificationType → Type 0
All P hs = AllByRecursion P hs

module _ (P : VerificationType → Type 0) (others : OfOthers P) where
  all_take : (n : ℕ) (hs : List VerificationType) → All P hs → All P (take n hs)
  all_take zero hs all = tt
  all_take (suc n) [] all = tt
  all_take (suc n) (h ∷ hs) all = (all.0, all_take n hs all.1)

  all_drop : (n : ℕ) (hs : List VerificationType) → All P hs → All P (drop n hs)
  all_drop zero hs all = all
  all_drop (suc n) [] all = tt
  all_drop (suc n) (h ∷ hs) all = all_drop n hs all.1

  all_append : (hs js : List VerificationType) → All P hs → All P js → All P (hs ++ js)
  all_append [] js a b = b
  all_append (h ∷ hs) js a b = (a.0, all_append hs js a.1 b)

  all_get : (hs : List VerificationType) (i : ℕ) → All P hs → P (get_or hs i top)
  all_get [] i all = others top tt
  all_get (h ∷ hs) zero all = all.0
  all_get (h ∷ hs) (suc i) all = all_get hs i all.1

  all_set : (hs : List VerificationType) (i : ℕ) (h : VerificationType) → All P hs → P h → All P (set hs i h)
  all_set [] i h all p = tt
  all_set (x ∷ hs) zero h all p = (p, all.1)
  all_set (x ∷ hs) (suc i) h all p = (all.0, all_set hs i h all.1 p)

  all_map : (f : VerificationType → VerificationType) → ((h : VerificationType) → P h → P (f h)) → (hs : List VerificationType) → All P hs → All P (map f hs)
  all_map f keeps [] all = tt
  all_map f keeps (h ∷ hs) all = (keeps h all.0, all_map f keeps hs all.1)

  all_given : (operands : List VerificationType) (given : List Gives) → All P operands → AllByRecursion IsPlaceless given
      → All P (map (given_of operands) given)
  all_given operands [] all plain = tt
  all_given operands (kind h ∷ given) all plain = (others h plain.0, all_given operands given all plain.1)
  all_given operands (item n ∷ given) all plain = (all_get operands n all, all_given operands given all plain.1)

  all_moved : (f : StackEffect) (stack : List VerificationType) → IsPlain f → All P stack → All P (moved f stack)
  all_moved f stack plain all =
      all_append _ _ (all_take (length stack - length f.wanted) stack all)
      (all_given (upper (length f.wanted) stack) f.given (all_drop (length stack - length f.wanted) stack all) plain)

  limited_is : (most : ℕ) (stack x : List VerificationType) → limited most stack ≡ Some x → stack ≡ x
  limited_is most stack x e = same_Some stack x (then_some (nat_le (slots stack) most) (Some stack) x e).1

  all_by : (most : ℕ) (forms : List StackEffect) (stack x : List VerificationType) → AllByRecursion IsPlain forms → All P stack
      → moved_by most forms stack ≡ Some x → All P x
  all_by most [] stack x plain all e = absurd (none-some _ e)
  all_by most (f ∷ forms) stack x plain all e = by (has_form f stack) (λ r. all_by most forms stack x plain.1 all r) e
    where
      by : (b : Bool) → (moved_by most forms stack ≡ Some x → All P x)
          → (if b then limited most (moved f stack) else moved_by most forms stack) ≡ Some x → All P x
      by true more e = subst (All P) (limited_is most (moved f stack) x e) (all_moved f stack plain.0 all)
      by false more e = more e

  all_put : (k : ℕ) (h : VerificationType) (hs : List VerificationType) → All P hs → P h → All P (put_local k h hs)
  all_put k h hs all p = second (is_pair h)
    where
      front : (k : ℕ) → All P (clear_before k hs)
      front zero = all
      front (suc k) = all_set hs k (cleared (get_or hs k top)) all (clear (is_pair (get_or hs k top)))
        where
          clear : (b : Bool) → P (if b then top else get_or hs k top)
          clear true = others top tt
          clear false = all_get hs k all

      second : (b : Bool) → All P (if b then set (set (clear_before k hs) k h) (k + 1) top else set (clear_before k hs) k h)
      second true = all_set (set (clear_before k hs) k h) (k + 1) top (all_set (clear_before k hs) k h (front k) p) (others top tt)
      second false = all_set (clear_before k hs) k h (front k) p

  -- of all values of a state
  pub record AllOf (s : TypeState) : Type 0 where
    pub locals : All P s.locals
    pub stack : All P s.stack

  stack_of : (s t : TypeState) (o : Option (List VerificationType)) → All P s.locals → ((x : List VerificationType) → o ≡ Some x → All P x)
      → with_stack s o ≡ Some t → AllOf t
  stack_of s t None l more e = absurd (none-some _ e)
  stack_of s t (Some x) l more e = subst AllOf (same_Some (record s { stack = x }) t e) (record { locals = l; stack = more x refl })

  if_one : (b : Bool) (x y : VerificationType) → P x → P y → P (if b then x else y)
  if_one true x y p q = p
  if_one false x y p q = q

  built_all : (most : ℕ) (old : VerificationType) (rest : List VerificationType) (given : List Gives) (name : Option (List ℕ)) (s t : TypeState)
      → AllByRecursion IsPlaceless given → All P rest → AllOf s → built_as most old rest given name s ≡ Some t → AllOf t
  built_all most old rest given None s t plain r all e = absurd (none-some _ e)
  built_all most old rest given (Some name) s t plain r all e =
      let keeps : (h : VerificationType) → P h → P (replaced old name h) = λ h p. if_one (same_new old h) (object name) h (others (object name) tt) p in
      stack_of (record { locals = map (replaced old name) s.locals; stack = s.stack }) t _ (all_map (replaced old name) keeps s.locals all.locals)
      (λ x q. subst (All P) (limited_is most _ x q) (all_append _ _ (all_map (replaced old name) keeps rest r) (all_given [] given tt plain))) e

  element_all : (h : VerificationType) → P h → P (element_of h)
  element_all (object name) p = others _ tt
  element_all _ p = p

  -- what a step keeps: the fact of each value, where it holds of the object that a `new` makes
  pub step_all : (v : ℕ) (g : Ground) (st : Step) (s t : TypeState) → CanShift v st → (st ≡ makes → P (uninit g.place)) → AllOf s
      → apply g st s ≡ Some t → AllOf t
  step_all v g (moves forms) s t can new all e =
      stack_of s t (moved_by g.most forms s.stack) all.locals (λ x q. all_by g.most forms s.stack x can all.stack q) e
  step_all v g (loads k w) s t can new all e =
      let h = get_or s.locals k top in
      stack_of s t _ all.locals (λ x q. subst (All P) (limited_is g.most _ x q) (all_append s.stack _ all.stack (all_get s.locals k all.locals, tt)))
      (then_some (accepts w h) (with_stack s (limited g.most (s.stack ++ h ∷ []))) t e).1
  step_all v g (stores k w) s t can new all e =
      let h = last s.stack in
      stack_of (record { locals = put_local k h s.locals; stack = s.stack }) t _
      (all_put k h s.locals all.locals (all_get (upper 1 s.stack) 0 (all_drop (length s.stack - 1) s.stack all.stack)))
      (λ x q. subst (All P) (limited_is g.most _ x q) (all_take (length s.stack - 1) s.stack all.stack))
      (then_some (accepts w h) _ t e).1
  step_all v g (counts k) s t can new all e =
      stack_of s t _ all.locals (λ x q. subst (All P) (limited_is g.most _ x q) all.stack) (then_some (is_int (get_or s.locals k top)) _ t e).1
  step_all v g picks s t can new all e =
      let array = get_or (upper 2 s.stack) 0 top in
      stack_of s t _ all.locals
      (λ x q. subst (All P) (limited_is g.most _ x q)
      (all_append (below 2 s.stack) _ (all_take (length s.stack - 2) s.stack all.stack)
      (element_all array (all_get (upper 2 s.stack) 0 (all_drop (length s.stack - 2) s.stack all.stack)), tt)))
      (then_some (is_array array && is_int (get_or (upper 2 s.stack) 1 top)) (with_stack s (limited g.most (below 2 s.stack ++ element_of array ∷ []))) t e).1
  step_all v g makes s t can new all e =
      stack_of (record { locals = map (without g.place) s.locals; stack = s.stack }) t _
      (all_map (without g.place) (λ h p. if_one (is_made g.place h) top h (others top tt) p) s.locals all.locals)
      (λ x q. subst (All P) (limited_is g.most _ x q) (all_append s.stack _ all.stack (new refl, tt)))
      (else_some (list_any (is_made g.place) s.stack) _ t e)
  step_all v g (builds f) s t can new all e =
      let n = suc (length f.wanted) in let old = get_or (upper n s.stack) 0 top in
      built_all g.most old (below n s.stack) f.given (class_built g old) s t can (all_take (length s.stack - n) s.stack all.stack) all
      (then_some (accepts_all (wants.Anything ∷ f.wanted) (upper n s.stack)) _ t e).1
  step_all v g fails s t can new all e = absurd (none-some _ e)

-- ---- the number of local variables

pub same_locals : (s t : TypeState) (o : Option (List VerificationType)) → with_stack s o ≡ Some t → s.locals ≡ t.locals
same_locals s t None e = absurd (none-some _ e)
same_locals s t (Some x) e = ap (λ (u : TypeState). u.locals) (same_Some (record s { stack = x }) t e)

pub length_clear : (k : ℕ) (ls : List VerificationType) → length (clear_before k ls) ≡ length ls
length_clear zero ls = refl
length_clear (suc k) ls = length-set ls k (cleared (get_or ls k top))

length_second : (h : VerificationType) (k : ℕ) (ls : List VerificationType) → length (put_second h k ls) ≡ length ls
length_second h k ls = by (is_pair h)
  where
    by : (b : Bool) → length (if b then set ls (k + 1) top else ls) ≡ length ls
    by true = length-set ls (k + 1) top
    by false = refl

length_put : (k : ℕ) (h : VerificationType) (ls : List VerificationType) → length (put_local k h ls) ≡ length ls
length_put k h ls = length_second h k (set (clear_before k ls) k h) ∙ length-set (clear_before k ls) k h ∙ length_clear k ls

length_built : (most : ℕ) (old : VerificationType) (rest : List VerificationType) (given : List Gives) (name : Option (List ℕ)) (s t : TypeState)
    → built_as most old rest given name s ≡ Some t → length t.locals ≡ length s.locals
length_built most old rest given None s t e = absurd (none-some _ e)
length_built most old rest given (Some name) s t e =
    ap (λ (l : List VerificationType). length l) (sym (same_locals (record { locals = map (replaced old name) s.locals; stack = s.stack }) t _ e))
    ∙ length-map s.locals (replaced old name)

pub step_count : (g : Ground) (st : Step) (s t : TypeState) → apply g st s ≡ Some t → length t.locals ≡ length s.locals
step_count g (moves forms) s t e = ap (λ (l : List VerificationType). length l) (sym (same_locals s t _ e))
step_count g (loads k w) s t e = ap (λ (l : List VerificationType). length l) (sym (same_locals s t _ (then_some (accepts w (get_or s.locals k top)) _ t e).1))
step_count g (stores k w) s t e =
    let h = last s.stack in
    ap (λ (l : List VerificationType). length l)
    (sym (same_locals (record { locals = put_local k h s.locals; stack = s.stack }) t _ (then_some (accepts w h) _ t e).1)) ∙ length_put k h s.locals
step_count g (counts k) s t e = ap (λ (l : List VerificationType). length l) (sym (same_locals s t _ (then_some (is_int (get_or s.locals k top)) _ t e).1))
step_count g picks s t e =
    ap (λ (l : List VerificationType). length l)
    (sym (same_locals s t _ (then_some (is_array (get_or (upper 2 s.stack) 0 top) && is_int (get_or (upper 2 s.stack) 1 top)) _ t e).1))
step_count g makes s t e =
    ap (λ (l : List VerificationType). length l)
    (sym (same_locals (record { locals = map (without g.place) s.locals; stack = s.stack }) t _ (else_some (list_any (is_made g.place) s.stack) _ t e)))
    ∙ length-map s.locals (without g.place)
step_count g (builds f) s t e =
    let n = suc (length f.wanted) in let old = get_or (upper n s.stack) 0 top in
    length_built g.most old (below n s.stack) f.given (class_built g old) s t (then_some (accepts_all (wants.Anything ∷ f.wanted) (upper n s.stack)) _ t e).1
step_count g fails s t e = absurd (none-some _ e)

-- ---- the slots of the stack

pub limit : (most : ℕ) (stack x : List VerificationType) → limited most stack ≡ Some x → slots x ≤ most
limit most stack x e =
    let p = then_some (nat_le (slots stack) most) (Some stack) x e in
    subst (λ (l : List VerificationType). slots l ≤ most) (same_Some stack x p.1) (leb-true (slots stack) most p.0)

pub limit_by : (most : ℕ) (forms : List StackEffect) (stack x : List VerificationType) → moved_by most forms stack ≡ Some x → slots x ≤ most
limit_by most [] stack x e = absurd (none-some _ e)
limit_by most (f ∷ forms) stack x e = by (has_form f stack) (λ r. limit_by most forms stack x r) e
  where
    by : (b : Bool) → (moved_by most forms stack ≡ Some x → slots x ≤ most)
        → (if b then limited most (moved f stack) else moved_by most forms stack) ≡ Some x → slots x ≤ most
    by true more e = limit most (moved f stack) x e
    by false more e = more e

limit_of : (most : ℕ) (s t : TypeState) (o : Option (List VerificationType)) → ((x : List VerificationType) → o ≡ Some x → slots x ≤ most)
    → with_stack s o ≡ Some t → slots t.stack ≤ most
limit_of most s t None more e = absurd (none-some _ e)
limit_of most s t (Some x) more e = subst (λ (u : TypeState). slots u.stack ≤ most) (same_Some (record s { stack = x }) t e) (more x refl)

limit_built : (most : ℕ) (old : VerificationType) (rest : List VerificationType) (given : List Gives) (name : Option (List ℕ)) (s t : TypeState)
    → built_as most old rest given name s ≡ Some t → slots t.stack ≤ most
limit_built most old rest given None s t e = absurd (none-some _ e)
limit_built most old rest given (Some name) s t e =
    limit_of most (record { locals = map (replaced old name) s.locals; stack = s.stack }) t _ (λ x q. limit most _ x q) e

pub step_slots : (g : Ground) (st : Step) (s t : TypeState) → slots s.stack ≤ g.most → apply g st s ≡ Some t → slots t.stack ≤ g.most
step_slots g (moves forms) s t le e = limit_of g.most s t (moved_by g.most forms s.stack) (λ x q. limit_by g.most forms s.stack x q) e
step_slots g (loads k w) s t le e = limit_of g.most s t _ (λ x q. limit g.most _ x q) (then_some (accepts w (get_or s.locals k top)) _ t e).1
step_slots g (stores k w) s t le e =
    let h = last s.stack in
    limit_of g.most (record { locals = put_local k h s.locals; stack = s.stack }) t _ (λ x q. limit g.most _ x q) (then_some (accepts w h) _ t e).1
step_slots g (counts k) s t le e = limit_of g.most s t _ (λ x q. limit g.most _ x q) (then_some (is_int (get_or s.locals k top)) _ t e).1
step_slots g picks s t le e =
    limit_of g.most s t _ (λ x q. limit g.most _ x q) (then_some (is_array (get_or (upper 2 s.stack) 0 top) && is_int (get_or (upper 2 s.stack) 1 top)) _ t e).1
step_slots g makes s t le e =
    limit_of g.most (record { locals = map (without g.place) s.locals; stack = s.stack }) t _ (λ x q. limit g.most _ x q)
    (else_some (list_any (is_made g.place) s.stack) _ t e)
step_slots g (builds f) s t le e =
    let n = suc (length f.wanted) in let old = get_or (upper n s.stack) 0 top in
    limit_built g.most old (below n s.stack) f.given (class_built g old) s t (then_some (accepts_all (wants.Anything ∷ f.wanted) (upper n s.stack)) _ t e).1
step_slots g fails s t le e = absurd (none-some _ e)
