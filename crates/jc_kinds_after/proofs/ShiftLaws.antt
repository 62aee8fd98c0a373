-- A step of the shifted state is the shifted step.
use Rattle.std.proofs.Common.{◌≡◌, ℕ, zero, suc, ◌+◌, ◌-◌, ◌<◌, ◌≤◌, Bool, true, false, ◌&&◌, ◌||◌, List, [], ◌∷◌, ◌++◌, length, map, take, drop}
use Rattle.std.proofs.Common.{Option, Some, None, option_map, if◌then◌else◌, refl, sym, ap, ap₂, ◌∙◌, ⊎_elim, arith, get_or, set, nat_eq, nat_lt}
use Rattle.std.proofs.Common.{nat_le, insert}
use Rattle.std.proofs.lemmas.List.{take-map, drop-map, map-append, length-map, length-set, map-set}
use Rattle.std.proofs.lemmas.Bool.{cases_lt, lt-ltb, le-ltb, cond-true, cond-false}
use Rattle.std.specs.List.{AllByRecursion, list_any}
use Rattle.jc_kinds_after.specs.declared.want.Want.{Want}
use Rattle.jc_kinds_after.specs.declared.want.Want.TheVariants as wants
use Rattle.jc_methods.specs.VerificationTypes.{VerificationType, top, int, float, double, long, null, uninit_this, object, uninit, TypeState, width, is_pair, slots}
use Rattle.jc_kinds_after.specs.Wants.{accepts, accepts_all}
use Rattle.jc_kinds_after.specs.Step.{Gives, kind, item, StackEffect, moves, loads, stores, counts, picks, picked, makes, builds, fails, Ground}
use Rattle.jc_kinds_after.specs.Step.{apply, is_array, element_of, given_of, limited, below, upper, has_form, moved, moved_by, cleared, clear_before}
use Rattle.jc_kinds_after.specs.Step.{put_second, put_local, with_stack, last, loaded, stored, counted, is_made, without, same_new, replaced, built_as, class_built}
use Rattle.jc_kinds_after.specs.Shift.{renamed, probes, shifted, slot_of, IsPlaceless, IsPlain, CanShift, NoPairBefore, StaysWhole, Images, StepShifts, takes_pair}
use Rattle.jc_kinds_after.proofs.KeepLaws.{length_clear}

module _ (f : ℕ → ℕ) where
  abbrev r : VerificationType → VerificationType
  r = renamed f

  pub accepts-renamed : (w : Want) (h : VerificationType) → accepts w (renamed f h) ≡ accepts w h
  accepts-renamed w top = refl
  accepts-renamed w int = refl
  accepts-renamed w float = refl
  accepts-renamed w double = refl
  accepts-renamed w long = refl
  accepts-renamed w null = refl
  accepts-renamed w uninit_this = refl
  accepts-renamed w (object n) = refl
  accepts-renamed wants.Int (uninit i) = refl
  accepts-renamed wants.Float (uninit i) = refl
  accepts-renamed wants.Long (uninit i) = refl
  accepts-renamed wants.Double (uninit i) = refl
  accepts-renamed wants.Reference (uninit i) = refl
  accepts-renamed wants.Anything (uninit i) = refl
  accepts-renamed wants.Target (uninit i) = refl
  accepts-renamed wants.Single (uninit i) = refl
  accepts-renamed wants.Pair (uninit i) = refl

  width-renamed : (h : VerificationType) → width (renamed f h) ≡ width h
  width-renamed (uninit i) = refl
  width-renamed _ = refl

  pair-renamed : (h : VerificationType) → is_pair (renamed f h) ≡ is_pair h
  pair-renamed (uninit i) = refl
  pair-renamed _ = refl

  element-renamed : (h : VerificationType) → element_of (renamed f h) ≡ renamed f (element_of h)
  element-renamed (uninit i) = refl
  element-renamed _ = refl

  all-renamed : (ws : List Want) (hs : List VerificationType) → accepts_all ws (map r hs) ≡ accepts_all ws hs
  all-renamed [] [] = refl
  all-renamed [] (h ∷ hs) = refl
  all-renamed (w ∷ ws) [] = refl
  all-renamed (w ∷ ws) (h ∷ hs) = rw (accepts-renamed w h, all-renamed ws hs) refl

  slots-renamed : (hs : List VerificationType) → slots (map r hs) ≡ slots hs
  slots-renamed [] = refl
  slots-renamed (h ∷ hs) = ap₂ (λ (a b : ℕ). a + b) (width-renamed h) (slots-renamed hs)

  upper-renamed : (n : ℕ) (hs : List VerificationType) → upper n (map r hs) ≡ map r (upper n hs)
  upper-renamed n hs = ap (λ k. drop (k - n) (map r hs)) (length-map hs r) ∙ drop-map r (length hs - n) hs

  below-renamed : (n : ℕ) (hs : List VerificationType) → below n (map r hs) ≡ map r (below n hs)
  below-renamed n hs = ap (λ k. take (k - n) (map r hs)) (length-map hs r) ∙ take-map r (length hs - n) hs

  -- a read past the end is `top`, which stays
  get-renamed : (hs : List VerificationType) (k : ℕ) → get_or (map r hs) k top ≡ r (get_or hs k top)
  get-renamed [] k = refl
  get-renamed (h ∷ hs) zero = refl
  get-renamed (h ∷ hs) (suc k) = get-renamed hs k

  given-renamed : (hs : List VerificationType) (g : Gives) → IsPlaceless g → given_of (map r hs) g ≡ r (given_of hs g)
  given-renamed hs (kind (uninit i)) p = absurd p
  given-renamed hs (item k) p = get-renamed hs k
  given-renamed hs _ p = refl

  gives-renamed : (hs : List VerificationType) (gs : List Gives) → AllByRecursion IsPlaceless gs → map (given_of (map r hs)) gs ≡ map r (map (given_of hs) gs)
  gives-renamed hs [] p = refl
  gives-renamed hs (g ∷ gs) p = rw (given-renamed hs g p.0, gives-renamed hs gs p.1) refl

  moved-renamed : (form : StackEffect) (hs : List VerificationType) → IsPlain form → moved form (map r hs) ≡ map r (moved form hs)
  moved-renamed form hs p = let n = length form.wanted in
      rw (
        upper-renamed n hs,
        below-renamed n hs,
        gives-renamed (upper n hs) form.given p,
        map-append r (below n hs)
            (map (given_of (upper n hs)) form.given),
      ) refl

  has-renamed : (form : StackEffect) (hs : List VerificationType) → has_form form (map r hs) ≡ has_form form hs
  has-renamed form hs = ap (accepts_all form.wanted) (upper-renamed (length form.wanted) hs) ∙ all-renamed form.wanted (upper (length form.wanted) hs)

  array-renamed : (h : VerificationType) → is_array (renamed f h) ≡ is_array h
  array-renamed (uninit i) = refl
  array-renamed _ = refl

  choice-map : {A B : Type 0} (g : A → B) (b : Bool) (x : A) → (if b then Some (g x) else None) ≡ option_map g (if b then Some x else None)
  choice-map g true x = refl
  choice-map g false x = refl

  limited-renamed : (most : ℕ) (hs : List VerificationType) → limited most (map r hs) ≡ option_map (map r) (limited most hs)
  limited-renamed most hs = ap (λ n. if nat_le n most then Some (map r hs) else None) (slots-renamed hs) ∙ choice-map (map r) (nat_le (slots hs) most) hs

  either-map : {A B : Type 0} (g : A → B) (b : Bool) (x y : Option A) → (if b then option_map g x else option_map g y) ≡ option_map g (if b then x else y)
  either-map g true x y = refl
  either-map g false x y = refl

  by-renamed : (most : ℕ) (forms : List StackEffect) (hs : List VerificationType) → AllByRecursion IsPlain forms
      → moved_by most forms (map r hs) ≡ option_map (map r) (moved_by most forms hs)
  by-renamed most [] hs p = refl
  by-renamed most (form ∷ forms) hs p =
      rw (has-renamed form hs, moved-renamed form hs p.0, limited-renamed most (moved form hs), by-renamed most forms hs p.1)
      (either-map (map r) (has_form form hs) (limited most (moved form hs)) (moved_by most forms hs))

  with-shifted : (v : ℕ) (s : TypeState) (o : Option (List VerificationType))
      → with_stack (shifted f v s) (option_map (map r) o) ≡ option_map (shifted f v) (with_stack s o)
  with-shifted v s None = refl
  with-shifted v s (Some x) = refl

  -- every instruction that touches the stack alone
  pub moves-shifted : (v : ℕ) (g : Ground) (forms : List StackEffect) (s : TypeState) → AllByRecursion IsPlain forms →
      apply g (moves forms) (shifted f v s) ≡ option_map (shifted f v) (apply g (moves forms) s)
  moves-shifted v g forms s p = ap (with_stack (shifted f v s)) (by-renamed g.most forms s.stack p) ∙ with-shifted v s (moved_by g.most forms s.stack)

-- ---- locals

-- the same as `slot_of`, by recursion
abbrev up : ℕ → ℕ → ℕ
up zero k = suc k
up (suc v) zero = zero
up (suc v) (suc k) = suc (up v k)

pub up-below : (v k : ℕ) → k < v → up v k ≡ k
up-below zero k lt = absurd (omega arith)
up-below (suc v) zero lt = refl
up-below (suc v) (suc k) lt = ap suc (up-below v k (omega arith))

pub up-above : (v k : ℕ) → v ≤ k → up v k ≡ k + 1
up-above zero k le = omega arith
up-above (suc v) zero le = absurd (omega arith)
up-above (suc v) (suc k) le = let e = up-above v k (omega arith) in omega arith

slot-up : (v k : ℕ) → slot_of v k ≡ up v k
slot-up v k = ⊎_elim
    (λ lt. cond-true (nat_lt k v) k (k + 1) (lt-ltb k v lt) ∙ sym (up-below v k lt))
    (λ le. cond-false (nat_lt k v) k (k + 1) (le-ltb k v le) ∙ sym (up-above v k le))
    (cases_lt k v)

up-next : (v k : ℕ) → (k + 1 ≡ v → ⊥) → up v k + 1 ≡ up v (k + 1)
up-next v k ne = ⊎_elim
    (λ lt. let a = up-below v k lt in let b = up-below v (k + 1) (omega arith) in omega arith)
    (λ le. let a = up-above v k le in let b = up-above v (k + 1) (omega arith) in omega arith)
    (cases_lt k v)

module _ (e : VerificationType) where
  get_up : (v k : ℕ) (ls : List VerificationType) → v ≤ length ls → get_or (insert ls v e) (up v k) top ≡ get_or ls k top
  get_up zero k ls le = refl
  get_up (suc v) k [] le = absurd (omega arith)
  get_up (suc v) zero (x ∷ ls) le = refl
  get_up (suc v) (suc k) (x ∷ ls) le = get_up v k ls (omega arith)

  set_up : (v k : ℕ) (x : VerificationType) (ls : List VerificationType) → v ≤ length ls → set (insert ls v e) (up v k) x ≡ insert (set ls k x) v e
  set_up zero k x ls le = refl
  set_up (suc v) k x [] le = absurd (omega arith)
  set_up (suc v) zero x (y ∷ ls) le = refl
  set_up (suc v) (suc k) x (y ∷ ls) le = ap (λ l. y ∷ l) (set_up v k x ls (omega arith))

  -- the slot before one: where it is the new slot, the old one had no pair
  clear_up : (v k : ℕ) (ls : List VerificationType) → v ≤ length ls → is_pair e ≡ false → NoPairBefore v ls →
      clear_before (up v k) (insert ls v e) ≡ insert (clear_before k ls) v e
  clear_up zero zero ls le single whole = rw single refl
  clear_up zero (suc k) ls le single whole = refl
  clear_up (suc v) k [] le single whole = absurd (omega arith)
  clear_up (suc v) zero (x ∷ ls) le single whole = refl
  clear_up (suc zero) (suc zero) (x ∷ ls) le single whole = let p : is_pair x ≡ false = whole 0 refl in rw (single, p) refl
  clear_up (suc (suc v)) (suc zero) (x ∷ ls) le single whole = refl
  clear_up (suc zero) (suc (suc k)) (x ∷ ls) le single whole = ap (λ l. x ∷ l) (clear_up zero (suc k) ls (omega arith) single (λ j h. absurd (omega arith)))
  clear_up (suc (suc v)) (suc (suc k)) (x ∷ ls) le single whole =
      ap (λ l. x ∷ l) (clear_up (suc v) (suc k) ls (omega arith) single (λ j h. whole (suc j) (omega arith)))

  second_up : (v k : ℕ) (h : VerificationType) (ls : List VerificationType) → v ≤ length ls → (is_pair h ≡ true → k + 1 ≡ v → ⊥) →
      put_second h (up v k) (insert ls v e) ≡ insert (put_second h k ls) v e
  second_up v k h ls le ne = by (is_pair h) refl
    where
      by : (b : Bool) → is_pair h ≡ b → put_second h (up v k) (insert ls v e) ≡ insert (put_second h k ls) v e
      by false q = rw q refl
      by true q = rw (q, up-next v k (ne q)) (set_up v (k + 1) top ls le)

  put_up : (v k : ℕ) (h : VerificationType) (ls : List VerificationType) → v ≤ length ls → is_pair e ≡ false → NoPairBefore v ls →
      (is_pair h ≡ true → k + 1 ≡ v → ⊥) → put_local (up v k) h (insert ls v e) ≡ insert (put_local k h ls) v e
  put_up v k h ls le single whole ne = let n = length_clear k ls in let m = length-set (clear_before k ls) k h in
      ap (λ l. put_second h (up v k) (set l (up v k) h)) (clear_up v k ls le single whole) ∙
      ap (put_second h (up v k)) (set_up v k h (clear_before k ls) (omega arith)) ∙
      second_up v k h (set (clear_before k ls) k h) (omega arith) ne

pub map-insert : {A B : Type 0} (g : A → B) (ls : List A) (v : ℕ) (e : A) → map g (insert ls v e) ≡ insert (map g ls) v (g e)
map-insert g ls v e = map-append g (take v ls) (e ∷ drop v ls) ∙ ap₂ (λ a b. a ++ g e ∷ b) (sym (take-map g v ls)) (sym (drop-map g v ls))

map-both : {A B C D : Type 0} (g : A → B) (h : B → D) (g' : C → D) (h' : A → C) → ((x : A) → h (g x) ≡ g' (h' x)) → (ls : List A)
    → map h (map g ls) ≡ map g' (map h' ls)
map-both g h g' h' same [] = refl
map-both g h g' h' same (x ∷ ls) = ap₂ (λ a b. a ∷ b) (same x) (map-both g h g' h' same ls)

module _ (f : ℕ → ℕ) where
  abbrev q : VerificationType → VerificationType
  q = renamed f

  cleared-renamed : (h : VerificationType) → cleared (q h) ≡ q (cleared h)
  cleared-renamed (uninit i) = refl
  cleared-renamed _ = refl

  clear-renamed : (k : ℕ) (ls : List VerificationType) → clear_before k (map q ls) ≡ map q (clear_before k ls)
  clear-renamed zero ls = refl
  clear-renamed (suc k) ls = rw (get-renamed f ls k, cleared-renamed (get_or ls k top)) (sym (map-set q ls k (cleared (get_or ls k top))))

  second-renamed : (h : VerificationType) (k : ℕ) (ls : List VerificationType) → put_second (q h) k (map q ls) ≡ map q (put_second h k ls)
  second-renamed h k ls = rw (pair-renamed f h) (by (is_pair h))
    where
      by : (b : Bool) → (if b then set (map q ls) (k + 1) top else map q ls) ≡ map q (if b then set ls (k + 1) top else ls)
      by true = sym (map-set q ls (k + 1) top)
      by false = refl

  put-renamed : (k : ℕ) (h : VerificationType) (ls : List VerificationType) → put_local k (q h) (map q ls) ≡ map q (put_local k h ls)
  put-renamed k h ls =
      ap (λ l. put_second (q h) k (set l k (q h))) (clear-renamed k ls) ∙
      ap (put_second (q h) k) (sym (map-set q (clear_before k ls) k h)) ∙
      second-renamed h k (set (clear_before k ls) k h)

  -- reading a slot of the shifted state
  read-shifted : (v k : ℕ) (s : TypeState) → v ≤ length s.locals → get_or (shifted f v s).locals (slot_of v k) top ≡ q (get_or s.locals k top)
  read-shifted v k s le = let n = length-map s.locals q in
      ap (λ j. get_or (shifted f v s).locals j top) (slot-up v k) ∙ get_up probes v k (map q s.locals) (omega arith) ∙ get-renamed f s.locals k

  pushed-renamed : (stack : List VerificationType) (h : VerificationType) → map q stack ++ q h ∷ [] ≡ map q (stack ++ h ∷ [])
  pushed-renamed stack h = sym (map-append q stack (h ∷ []))

  none-map : {A B : Type 0} (g : A → B) (b : Bool) (x : Option A) → (if b then option_map g x else None) ≡ option_map g (if b then x else None)
  none-map g true x = refl
  none-map g false x = refl

  pub loads-shifted : (v k : ℕ) (g : Ground) (w : Want) (s : TypeState) → v ≤ length s.locals →
      apply g (loads (slot_of v k) w) (shifted f v s) ≡ option_map (shifted f v) (apply g (loads k w) s)
  loads-shifted v k g w s le = let h = get_or s.locals k top in
      rw (
        read-shifted v k s le,
        accepts-renamed f w h,
        pushed-renamed s.stack h,
        limited-renamed f g.most (s.stack ++ h ∷ []),
        with-shifted f v s
            (limited g.most (s.stack ++ h ∷ [])),
      )
      (none-map (shifted f v) (accepts w h) (with_stack s (limited g.most (s.stack ++ h ∷ []))))

  pub counts-shifted : (v k : ℕ) (g : Ground) (s : TypeState) → v ≤ length s.locals →
      apply g (counts (slot_of v k)) (shifted f v s) ≡ option_map (shifted f v) (apply g (counts k) s)
  counts-shifted v k g s le = let h = get_or s.locals k top in
      rw (read-shifted v k s le, accepts-renamed f wants.Int h, limited-renamed f g.most s.stack, with-shifted f v s (limited g.most s.stack))
      (none-map (shifted f v) (accepts wants.Int h) (with_stack s (limited g.most s.stack)))

  last-renamed : (stack : List VerificationType) → last (map q stack) ≡ q (last stack)
  last-renamed stack = ap (λ l. get_or l 0 top) (upper-renamed f 1 stack) ∙ get-renamed f (upper 1 stack) 0

  pub picks-shifted : (v : ℕ) (g : Ground) (s : TypeState) → apply g picks (shifted f v s) ≡ option_map (shifted f v) (apply g picks s)
  picks-shifted v g s = let a = get_or (upper 2 s.stack) 0 top in let i = get_or (upper 2 s.stack) 1 top in let left = below 2 s.stack ++ element_of a ∷ [] in
      rw (
        upper-renamed f 2 s.stack,
        below-renamed f 2 s.stack,
        get-renamed f (upper 2 s.stack) 0,
        get-renamed f (upper 2 s.stack) 1,
        array-renamed f a,
        accepts-renamed f wants.Int i,
        element-renamed f a,
        pushed-renamed (below 2 s.stack) (element_of a),
        limited-renamed f g.most left,
        with-shifted f v s (limited g.most left),
      )
      (none-map (shifted f v) (is_array a && accepts wants.Int i) (with_stack s (limited g.most left)))

  -- a pair is taken by a want of pairs alone
  pub pair-taken : (w : Want) (h : VerificationType) → accepts w h ≡ true → is_pair h ≡ true → takes_pair w ≡ true
  pair-taken wants.Long h a p = refl
  pair-taken wants.Double h a p = refl
  pair-taken wants.Pair h a p = refl
  pair-taken w double a p = cc
  pair-taken w long a p = cc
  pair-taken w h a p = cc

  pub stores-shifted : (v k : ℕ) (g : Ground) (w : Want) (s : TypeState) → CanShift v (stores k w) → v ≤ length s.locals → StaysWhole v s →
      apply g (stores (slot_of v k) w) (shifted f v s) ≡ option_map (shifted f v) (apply g (stores k w) s)
  stores-shifted v k g w s can le whole = let h = last s.stack in
      rw (last-renamed s.stack, accepts-renamed f w h, below-renamed f 1 s.stack) (by _ _ (accepts w h) refl (λ a.
      ap (λ (l : List VerificationType). with_stack (record (shifted f v s) { locals = l }) (limited g.most (map q (below 1 s.stack)))) (placed a)
      ∙ ap (with_stack (shifted f v (record s { locals = put_local k h s.locals }))) (limited-renamed f g.most (below 1 s.stack))
      ∙ with-shifted f v (record s { locals = put_local k h s.locals }) (limited g.most (below 1 s.stack))))
    where
      placed : accepts w (last s.stack) ≡ true → put_local (slot_of v k) (q (last s.stack)) (insert (map q s.locals) v probes)
          ≡ insert (map q (put_local k (last s.stack) s.locals)) v probes
      placed a = let h = last s.stack in let n = length-map s.locals q in
          let whole' : (j : ℕ) → j + 1 ≡ v → is_pair (get_or (map q s.locals) j top) ≡ false =
          λ j e. rw (get-renamed f s.locals j, pair-renamed f (get_or s.locals j top)) (whole j e) in
          ap (λ j. put_local j (q h) (insert (map q s.locals) v probes)) (slot-up v k) ∙
          put_up probes v k (q h) (map q s.locals) (omega arith) refl whole' (λ p. can (pair-taken w h a (sym (pair-renamed f h) ∙ p))) ∙
          ap (λ l. insert l v probes) (put-renamed k h s.locals)

      by : (new old : Option TypeState) (b : Bool) → accepts w (last s.stack) ≡ b → (accepts w (last s.stack) ≡ true → new ≡ option_map (shifted f v) old) →
          (if b then new else None) ≡ option_map (shifted f v) (if b then old else None)
      by new old true a same = same a
      by new old false a same = refl

  -- ---- `new`

  same-test : (i j : ℕ) → ((i j : ℕ) → nat_eq (f i) (f j) ≡ nat_eq i j) → nat_eq (f i) (f j) ≡ nat_eq i j
  same-test i j apart = apart i j

  module _ (apart : (i j : ℕ) → nat_eq (f i) (f j) ≡ nat_eq i j) where
    uninit-renamed : (i : ℕ) (h : VerificationType) → is_made (f i) (q h) ≡ is_made i h
    uninit-renamed i (uninit j) = apart i j
    uninit-renamed i _ = refl

    any-renamed : (i : ℕ) (hs : List VerificationType) → list_any (is_made (f i)) (map q hs) ≡ list_any (is_made i) hs
    any-renamed i [] = refl
    any-renamed i (h ∷ hs) = ap₂ (λ a b. a || b) (uninit-renamed i h) (any-renamed i hs)

    choose-renamed : (b : Bool) (x y : VerificationType) → (if b then q x else q y) ≡ q (if b then x else y)
    choose-renamed true x y = refl
    choose-renamed false x y = refl

    without-renamed : (i : ℕ) (h : VerificationType) → without (f i) (q h) ≡ q (without i h)
    without-renamed i h = rw (uninit-renamed i h) (choose-renamed (is_made i h) top h)

    same-renamed : (old h : VerificationType) → same_new (q old) (q h) ≡ same_new old h
    same-renamed (uninit i) h = uninit-renamed i h
    same-renamed uninit_this top = refl
    same-renamed uninit_this int = refl
    same-renamed uninit_this float = refl
    same-renamed uninit_this double = refl
    same-renamed uninit_this long = refl
    same-renamed uninit_this null = refl
    same-renamed uninit_this uninit_this = refl
    same-renamed uninit_this (object n) = refl
    same-renamed uninit_this (uninit i) = refl
    same-renamed top h = refl
    same-renamed int h = refl
    same-renamed float h = refl
    same-renamed double h = refl
    same-renamed long h = refl
    same-renamed null h = refl
    same-renamed (object n) h = refl

    replaced-renamed : (old : VerificationType) (name : List ℕ) (h : VerificationType) → replaced (q old) name (q h) ≡ q (replaced old name h)
    replaced-renamed old name h = rw (same-renamed old h) (choose-renamed (same_new old h) (object name) h)

    none-else : {A B : Type 0} (g : A → B) (b : Bool) (x : Option A) → (if b then None else option_map g x) ≡ option_map g (if b then None else x)
    none-else g true x = refl
    none-else g false x = refl

    without-locals : (i v : ℕ) (ls : List VerificationType) → map (without (f i)) (insert (map q ls) v probes) ≡ insert (map q (map (without i) ls)) v probes
    without-locals i v ls = map-insert (without (f i)) (map q ls) v probes
        ∙ ap (λ l. insert l v probes) (map-both q (without (f i)) q (without i) (without-renamed i) ls)

    replaced-locals : (old : VerificationType) (name : List ℕ) (v : ℕ) (ls : List VerificationType)
        → map (replaced (q old) name) (insert (map q ls) v probes) ≡ insert (map q (map (replaced old name) ls)) v probes
    replaced-locals old name v ls =
        map-insert (replaced (q old) name) (map q ls) v probes ∙
        ap₂ (λ l e. insert l v e) (map-both q (replaced (q old) name) q (replaced old name) (replaced-renamed old name) ls) (stays old)
      where
        stays : (old : VerificationType) → replaced (q old) name probes ≡ probes
        stays (uninit i) = refl
        stays _ = refl

    pub makes-shifted : (v : ℕ) (g new : Ground) (s : TypeState) → new.place ≡ f g.place → new.most ≡ g.most →
        apply new makes (shifted f v s) ≡ option_map (shifted f v) (apply g makes s)
    makes-shifted v g new s p m = let i = g.place in let t : TypeState = record s { locals = map (without i) s.locals } in
        rw (
          p,
          m,
          any-renamed i s.stack,
          without-locals i v s.locals,
          pushed-renamed s.stack (uninit i),
          limited-renamed f g.most
              (s.stack ++ uninit i ∷ []),
          with-shifted f v t (limited g.most (s.stack ++ uninit i ∷ [])),
        )
        (none-else (shifted f v) (list_any (is_made i) s.stack) (with_stack t (limited g.most (s.stack ++ uninit i ∷ []))))

    class-renamed : (g new : Ground) (old : VerificationType) → ((i : ℕ) → new.class_at (f i) ≡ g.class_at i) → new.owner ≡ g.owner
        → class_built new (q old) ≡ class_built g old
    class-renamed g new uninit_this c o = ap Some o
    class-renamed g new (uninit i) c o = ap Some (c i)
    class-renamed g new _ c o = refl

    module _ (v most : ℕ) (given : List Gives) (plain : AllByRecursion IsPlaceless given) where
      as-shifted : (old : VerificationType) (rest : List VerificationType) (name : Option (List ℕ)) (s : TypeState) →
          built_as most (q old) (map q rest) given name (shifted f v s) ≡ option_map (shifted f v) (built_as most old rest given name s)
      as-shifted old rest None s = refl
      as-shifted old rest (Some name) s =
          let left = map (replaced old name) rest ++ map (given_of []) given in
          let t : TypeState = record s { locals = map (replaced old name) s.locals } in
          let e : map (replaced (q old) name) (map q rest) ++ map (given_of []) given ≡ map q left =
          ap₂ (λ a b. a ++ b) (map-both q (replaced (q old) name) q (replaced old name) (replaced-renamed old name) rest) (gives-renamed f [] given plain)
          ∙ sym (map-append q (map (replaced old name) rest) (map (given_of []) given)) in
          rw (replaced-locals old name v s.locals, e, limited-renamed f most left, with-shifted f v t (limited most left)) refl

    pub builds-shifted : (v : ℕ) (g new : Ground) (form : StackEffect) (s : TypeState) → Images f g new → IsPlain form →
        apply new (builds form) (shifted f v s) ≡ option_map (shifted f v) (apply g (builds form) s)
    builds-shifted v g new form s im p =
        let n = suc (length form.wanted) in let old = get_or (upper n s.stack) 0 top in
        rw (
          im.most,
          upper-renamed f n s.stack,
          below-renamed f n s.stack,
          all-renamed f (wants.Anything ∷ form.wanted) (upper n s.stack),
          get-renamed f (upper n s.stack) 0,
          class-renamed g new old im.classes im.owner,
          as-shifted v g.most form.given p old (below n s.stack) (class_built g old) s,
        )
        (none-map (shifted f v) (accepts_all (wants.Anything ∷ form.wanted) (upper n s.stack))
        (built_as g.most old (below n s.stack) form.given (class_built g old) s))

pub shift-law : StepShifts
shift-law image v g new (moves forms) s im can le whole =
    ap (λ m. with_stack (shifted image v s) (moved_by m forms (map (renamed image) s.stack))) im.most ∙ moves-shifted image v g forms s can
shift-law image v g new (loads k w) s im can le whole =
    ap (λ m. loaded m (slot_of v k) w (shifted image v s)) im.most ∙ loads-shifted image v k g w s le
shift-law image v g new (stores k w) s im can le whole =
    ap (λ m. stored m (slot_of v k) w (shifted image v s)) im.most ∙ stores-shifted image v k g w s can le whole
shift-law image v g new (counts k) s im can le whole =
    ap (λ m. counted m (slot_of v k) (shifted image v s)) im.most ∙ counts-shifted image v k g s le
shift-law image v g new picks s im can le whole = ap (λ m. picked m (shifted image v s)) im.most ∙ picks-shifted image v g s
shift-law image v g new makes s im can le whole = makes-shifted image im.apart v g new s im.place im.most
shift-law image v g new (builds form) s im can le whole = builds-shifted image im.apart v g new form s im can
shift-law image v g new fails s im can le whole = refl
