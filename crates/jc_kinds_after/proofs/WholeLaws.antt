-- After an instruction no long or double stands round a new local variable, where none stood there before.
use Rattle.std.proofs.Common.{◌≡◌, ℕ, zero, suc, ◌+◌, Bool, true, false, ◌&&◌, List, [], ◌∷◌, length, map, Option, Some, None}
use Rattle.std.proofs.Common.{if◌then◌else◌, refl, sym, ap, ◌∙◌, subst, get_or, set}
use Rattle.std.specs.List.{list_any}
use Rattle.std.proofs.lemmas.Bool.{false_from_ne_true}
use Rattle.std.proofs.lemmas.Option.{none-some}
use Rattle.jc_methods.specs.declared.insn.Insn.{Insn}
use Rattle.jc_methods.specs.declared.body.Body.{Body}
use Rattle.jc_methods.specs.VerificationTypes.{VerificationType, top, object, TypeState, is_pair}
use Rattle.jc_kinds_after.specs.declared.want.Want.{Want}
use Rattle.jc_kinds_after.specs.declared.want.Want.TheVariants as wants
use Rattle.jc_kinds_after.specs.Wants.{is_int, accepts, accepts_all}
use Rattle.jc_kinds_after.specs.Step.{Gives, Step, moves, loads, stores, counts, picks, makes, builds, fails, Ground, apply, upper, below, last}
use Rattle.jc_kinds_after.specs.Step.{cleared, clear_before, put_second, put_local, is_array, without, is_made, class_built, built_as, replaced, same_new}
use Rattle.jc_kinds_after.specs.After.{step_of, insn_at, ground_of, returns_of, after_of}
use Rattle.jc_kinds_after.specs.Shift.{CanShift, StaysWhole, Straddles}
use Rattle.jc_kinds_after.proofs.ShiftLaws.{pair-taken}
use Rattle.jc_kinds_after.proofs.AfterLaws.{can_shift}
use Rattle.jc_kinds_after.proofs.KeepLaws.{then_some, else_some, same_locals, step_count}
use Rattle.jc_kinds_after.proofs.LeaveLaws.{insn_of}
use Rattle.jc_kinds_after.proofs.PairLaws.{cleared_single, get_mapped, replaced_top}

-- ---- writes

-- what stands in a local variable is no long or double
abbrev IsSingle : List VerificationType → ℕ → Type 0
IsSingle ls k = is_pair (get_or ls k top) ≡ false

-- after a write of a value that is no pair there
set_keeps : (ls : List VerificationType) (i k : ℕ) (h : VerificationType) → (k ≡ i → is_pair h ≡ false) → IsSingle ls k → IsSingle (set ls i h) k
set_keeps [] i k h here there = refl
set_keeps (x ∷ ls) zero zero h here there = here refl
set_keeps (x ∷ ls) zero (suc k) h here there = there
set_keeps (x ∷ ls) (suc i) zero h here there = there
set_keeps (x ∷ ls) (suc i) (suc k) h here there = set_keeps ls i k h (λ e. here (ap suc e)) there

clear_keeps : (k j : ℕ) (ls : List VerificationType) → IsSingle ls j → IsSingle (clear_before k ls) j
clear_keeps zero j ls there = there
clear_keeps (suc k) j ls there = set_keeps ls k j (cleared (get_or ls k top)) (λ e. cleared_single (get_or ls k top)) there

second_keeps : (h : VerificationType) (k j : ℕ) (ls : List VerificationType) → IsSingle ls j → IsSingle (put_second h k ls) j
second_keeps h k j ls there = by (is_pair h)
  where
    by : (b : Bool) → IsSingle (if b then set ls (k + 1) top else ls) j
    by true = set_keeps ls (k + 1) j top (λ e. refl) there
    by false = there

put_keeps : (k j : ℕ) (h : VerificationType) (ls : List VerificationType) → (j ≡ k → is_pair h ≡ false) → IsSingle ls j → IsSingle (put_local k h ls) j
put_keeps k j h ls here there =
    second_keeps h k j (set (clear_before k ls) k h) (set_keeps (clear_before k ls) k j h here (clear_keeps k j ls there))

map_keeps : (f : VerificationType → VerificationType) → f top ≡ top → ((h : VerificationType) → is_pair h ≡ false → is_pair (f h) ≡ false)
    → (ls : List VerificationType) (k : ℕ)
    → IsSingle ls k → IsSingle (map f ls) k
map_keeps f tops keeps ls k there = ap is_pair (get_mapped f tops ls k) ∙ keeps (get_or ls k top) there

one_keeps : (b : Bool) (x y : VerificationType) → is_pair x ≡ false → is_pair y ≡ false → is_pair (if b then x else y) ≡ false
one_keeps true x y p q = p
one_keeps false x y p q = q

-- ---- steps

same_whole : (v : ℕ) (s t : TypeState) → s.locals ≡ t.locals → StaysWhole v s → StaysWhole v t
same_whole v s t e whole k at = subst (λ (ls : List VerificationType). IsSingle ls k) e (whole k at)

mapped_whole : (v : ℕ) (f : VerificationType → VerificationType) → f top ≡ top → ((h : VerificationType) → is_pair h ≡ false → is_pair (f h) ≡ false)
    → (s t : TypeState)
    → map f s.locals ≡ t.locals → StaysWhole v s → StaysWhole v t
mapped_whole v f tops keeps s t e whole k at = subst (λ (ls : List VerificationType). IsSingle ls k) e (map_keeps f tops keeps s.locals k (whole k at))

stored_whole : (v k : ℕ) (g : Ground) (w : Want) (s t : TypeState) → CanShift v (stores k w) → StaysWhole v s → apply g (stores k w) s ≡ Some t
    → StaysWhole v t
stored_whole v k g w s t can whole e j at =
    let h = last s.stack in
    let p = then_some (accepts w h) _ t e in
    let l : put_local k h s.locals ≡ t.locals = same_locals (record { locals = put_local k h s.locals; stack = s.stack }) t _ p.1 in
    let single : j ≡ k → is_pair h ≡ false = λ same.
    false_from_ne_true _ (λ wide. can (pair-taken (λ n. n) w h p.0 wide) (ap (λ (n : ℕ). n + 1) (sym same) ∙ at)) in
    subst (λ (ls : List VerificationType). IsSingle ls j) l (put_keeps k j h s.locals single (whole j at))

built_whole : (v most : ℕ) (old : VerificationType) (rest : List VerificationType) (given : List Gives) (name : Option (List ℕ)) (s t : TypeState)
    → built_as most old rest given name s ≡ Some t → StaysWhole v s → StaysWhole v t
built_whole v most old rest given None s t e whole = absurd (none-some _ e)
built_whole v most old rest given (Some name) s t e whole =
    mapped_whole v (replaced old name) (replaced_top old name) (λ h single. one_keeps (same_new old h) (object name) h refl single) s t
    (same_locals (record { locals = map (replaced old name) s.locals; stack = s.stack }) t _ e) whole

step_whole : (v : ℕ) (g : Ground) (st : Step) (s t : TypeState) → CanShift v st → apply g st s ≡ Some t → StaysWhole v s → StaysWhole v t
step_whole v g (moves forms) s t can e whole = same_whole v s t (same_locals s t _ e) whole
step_whole v g (loads k w) s t can e whole =
    same_whole v s t (same_locals s t _ (then_some (accepts w (get_or s.locals k top)) _ t e).1) whole
step_whole v g (stores k w) s t can e whole = stored_whole v k g w s t can whole e
step_whole v g (counts k) s t can e whole =
    same_whole v s t (same_locals s t _ (then_some (is_int (get_or s.locals k top)) _ t e).1) whole
step_whole v g picks s t can e whole =
    let array = get_or (upper 2 s.stack) 0 top in let index = get_or (upper 2 s.stack) 1 top in
    same_whole v s t (same_locals s t _ (then_some (is_array array && is_int index) _ t e).1) whole
step_whole v g makes s t can e whole =
    mapped_whole v (without g.place) refl (λ h single. one_keeps (is_made g.place h) top h refl single) s t
    (same_locals (record { locals = map (without g.place) s.locals; stack = s.stack }) t _ (else_some (list_any (is_made g.place) s.stack) _ t e))
    whole
step_whole v g (builds f) s t can e whole =
    let n = suc (length f.wanted) in let old = get_or (upper n s.stack) 0 top in
    built_whole v g.most old (below n s.stack) f.given (class_built g old) s t
    (then_some (accepts_all (wants.Anything ∷ f.wanted) (upper n s.stack)) _ t e).1 whole
step_whole v g fails s t can e whole = absurd (none-some _ e)

-- ---- instructions

-- there are as many local variables, and no long or double round the new one
pub record StaysRound (v : ℕ) (s t : TypeState) : Type 0 where
  pub count : length t.locals ≡ length s.locals
  pub whole : StaysWhole v s → StaysWhole v t

pub after_stays : (v : ℕ) (b : Body) (i : ℕ) (s t : TypeState) → ((insn : Insn) → insn_at b i ≡ Some insn → Straddles v insn → ⊥)
    → after_of b i s ≡ Some t → StaysRound v s t
after_stays v b i s t free e =
    let o = insn_of b i s t e in let st = step_of b.uses (returns_of b) o.0 in
    record {
      count = step_count (ground_of b i) st s t o.2;
      whole = step_whole v (ground_of b i) st s t (can_shift v b.uses (returns_of b) o.0 (free o.0 o.1)) o.2;
    }
