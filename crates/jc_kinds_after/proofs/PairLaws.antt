-- Behind each long and each double among local variables stands Top, after every instruction too.
use Rattle.std.proofs.Common.{◌≡◌, ◌≢◌, ℕ, zero, suc, ◌+◌, ◌<◌, Bool, true, false, ◌&&◌, List, [], ◌∷◌, length, map, Option, Some, None}
use Rattle.std.proofs.Common.{if◌then◌else◌, refl, sym, ap, ◌∙◌, subst, arith, get_or, set, nat_eq}
use Rattle.std.specs.List.{list_any}
use Rattle.std.proofs.lemmas.List.{length-set, length-map, get_or-set_same, get_or-set_other}
use Rattle.std.proofs.lemmas.Bool.{eqb-true, eqb-false, true≢false}
use Rattle.std.proofs.lemmas.Option.{none-some}
use Rattle.jc_methods.specs.declared.kind.Kind.{Kind}
use Rattle.jc_methods.specs.declared.kind.Kind.TheVariants as kinds
use Rattle.jc_methods.specs.WellMade.{ArePaired, BeginsWithTop, kind_slots}
use Rattle.jc_methods.specs.VerificationTypes.{Names, VerificationType, top, object, verification_type, TypeState, is_pair}
use Rattle.jc_methods.proofs.SeenLaws.{held_top}
use Rattle.jc_kinds_after.specs.declared.want.Want.TheVariants as wants
use Rattle.jc_kinds_after.specs.Wants.{is_int, accepts, accepts_all}
use Rattle.jc_kinds_after.specs.Step.{Gives, Step, moves, loads, stores, counts, picks, makes, builds, fails, Ground, apply, upper, below, last}
use Rattle.jc_kinds_after.specs.Step.{cleared, clear_before, put_local, is_array, without, is_made, class_built, built_as, replaced, same_new}
use Rattle.jc_kinds_after.specs.Shift.{takes_pair}
use Rattle.jc_kinds_after.proofs.ShiftLaws.{pair-taken}
use Rattle.jc_kinds_after.proofs.KeepLaws.{then_some, else_some, same_locals, length_clear}

-- behind each value of two slots stands `top`
abbrev pub Paired : List VerificationType → Type 0
Paired ls = (i : ℕ) → is_pair (get_or ls i top) ≡ true → (i + 1 < length ls) × (get_or ls (i + 1) top ≡ top)

-- ---- local variables as they are kept

wide_pair : (names : Names) (k : Kind) → is_pair (verification_type names k) ≡ true → kind_slots k ≡ 2
wide_pair names kinds.Long e = refl
wide_pair names kinds.Double e = refl
wide_pair names _ e = absurd cc

pair_wide : (names : Names) (k : Kind) → kind_slots k ≡ 2 → is_pair (verification_type names k) ≡ true
pair_wide names kinds.Long e = refl
pair_wide names kinds.Double e = refl
pair_wide names _ e = absurd (omega (arith, e))

pub suc_plus : (i : ℕ) → suc i + 1 ≡ suc (i + 1)
suc_plus i = omega arith

begins : (names : Names) (ks : List Kind) → BeginsWithTop ks
    → (1 < suc (length (map (verification_type names) ks))) × (get_or (map (verification_type names) ks) 0 top ≡ top)
begins names [] h = elim h [ ]
begins names (k ∷ ks) h = (omega arith, ap (verification_type names) h)

pub pairs_of : (names : Names) (ks : List Kind) → ArePaired ks → Paired (map (verification_type names) ks)
pairs_of names [] pairs i e = absurd (true≢false (sym e))
pairs_of names (k ∷ ks) pairs zero e = let b = begins names ks (pairs.0 (wide_pair names k e)) in (omega (arith, b.0), b.1)
pairs_of names (k ∷ ks) pairs (suc i) e = let p = pairs_of names ks pairs.1 i e in
    (omega (arith, p.0), ap (λ (n : ℕ). get_or (map (verification_type names) (k ∷ ks)) n top) (suc_plus i) ∙ p.1)

begins_there : (names : Names) (ks : List Kind) → 1 < suc (length (map (verification_type names) ks))
    → get_or (map (verification_type names) ks) 0 top ≡ top → BeginsWithTop ks
begins_there names [] lt e = absurd (omega (arith, lt))
begins_there names (k ∷ ks) lt e = held_top names k e

pub of_pairs : (names : Names) (ks : List Kind) → Paired (map (verification_type names) ks) → ArePaired ks
of_pairs names [] pairs = tt
of_pairs names (k ∷ ks) pairs = (
  λ wide. let p = pairs 0 (pair_wide names k wide) in begins_there names ks (omega (arith, p.0)) p.1,
  of_pairs names ks (λ i e. let p = pairs (suc i) e in
      (omega (arith, p.0), ap (λ (n : ℕ). get_or (map (verification_type names) (k ∷ ks)) n top) (sym (suc_plus i)) ∙ p.1)),
)

-- ---- writes

-- no value of two slots begins one local variable before
abbrev Free : ℕ → List VerificationType → Type 0
Free k ls = (j : ℕ) → j + 1 ≡ k → is_pair (get_or ls j top) ≡ false

single_at : (ls : List VerificationType) (k : ℕ) (y : VerificationType) → is_pair y ≡ false → is_pair (get_or (set ls k y) k top) ≡ false
single_at [] k y single = refl
single_at (x ∷ ls) zero y single = single
single_at (x ∷ ls) (suc k) y single = single_at ls k y single

module _ (ls : List VerificationType) (pairs : Paired ls) where
  -- a value of one slot, which is `top` where a value of two slots stands in front
  set_single : (k : ℕ) (y : VerificationType) → is_pair y ≡ false → ((j : ℕ) → j + 1 ≡ k → is_pair (get_or ls j top) ≡ true → y ≡ top) → Paired (set ls k y)
  set_single k y single behind i e = by (nat_eq i k) refl
    where
      next : i ≢ k → (b : Bool) → nat_eq (i + 1) k ≡ b → (i + 1 < length (set ls k y)) × (get_or (set ls k y) (i + 1) top ≡ top)
      next ne b is =
          let there = ap is_pair (sym (get_or-set_other ls k i y top ne)) ∙ e in
          let p = pairs i there in let n = length-set ls k y in (omega (arith, p.0, n), value b is p.0 p.1 there)
        where
          value : (b : Bool) → nat_eq (i + 1) k ≡ b → i + 1 < length ls → get_or ls (i + 1) top ≡ top → is_pair (get_or ls i top) ≡ true
              → get_or (set ls k y) (i + 1) top ≡ top
          value true is lt old there =
              let at = eqb-true (i + 1) k is in
              subst (λ (n : ℕ). get_or (set ls k y) n top ≡ top) (sym at) (get_or-set_same ls k y top (omega (arith, lt, at)) ∙ behind i at there)
          value false is lt old there = get_or-set_other ls k (i + 1) y top (eqb-false (i + 1) k is) ∙ old

      by : (b : Bool) → nat_eq i k ≡ b → (i + 1 < length (set ls k y)) × (get_or (set ls k y) (i + 1) top ≡ top)
      by true is =
          let at = eqb-true i k is in
          absurd (true≢false (sym e ∙ ap (λ (n : ℕ). is_pair (get_or (set ls k y) n top)) at ∙ single_at ls k y single))
      by false is = next (eqb-false i k is) (nat_eq (i + 1) k) refl

  -- a value of two slots, and `top` behind it
  set_pair : (k : ℕ) (h : VerificationType) → Free k ls → k + 1 < length ls → Paired (set (set ls k h) (k + 1) top)
  set_pair k h free room i e = by (nat_eq i (k + 1)) refl (nat_eq i k) refl
    where
      n : length (set (set ls k h) (k + 1) top) ≡ length ls
      n = length-set (set ls k h) (k + 1) top ∙ length-set ls k h

      behind : k + 1 < length (set ls k h)
      behind = let m = length-set ls k h in omega (arith, m, room)

      by : (b : Bool) → nat_eq i (k + 1) ≡ b → (d : Bool) → nat_eq i k ≡ d
          → (i + 1 < length (set (set ls k h) (k + 1) top)) × (get_or (set (set ls k h) (k + 1) top) (i + 1) top ≡ top)
      by true is d also =
          let at = eqb-true i (k + 1) is in
          absurd (true≢false (sym e ∙ ap (λ (j : ℕ). is_pair (get_or (set (set ls k h) (k + 1) top) j top)) at ∙ single_at (set ls k h) (k + 1) top refl))
      by false is true also =
          let at = eqb-true i k also in (
            omega (arith, n, room, at),
            ap (λ (j : ℕ). get_or (set (set ls k h) (k + 1) top) (j + 1) top) at
                ∙ get_or-set_same (set ls k h) (k + 1) top top behind,
          )
      by false is false also =
          let ne = eqb-false i (k + 1) is in let nk = eqb-false i k also in
          let there : is_pair (get_or ls i top) ≡ true =
          ap is_pair (sym (get_or-set_other (set ls k h) (k + 1) i top top ne ∙ get_or-set_other ls k i h top nk)) ∙ e in
          let p = pairs i there in
          let no : i + 1 ≢ k = λ at. true≢false (sym there ∙ free i at) in
          let nn : i + 1 ≢ k + 1 = λ at. nk (omega (arith, at)) in
          (omega (arith, n, p.0), get_or-set_other (set ls k h) (k + 1) (i + 1) top top nn ∙ get_or-set_other ls k (i + 1) h top no ∙ p.1)

pub cleared_single : (h : VerificationType) → is_pair (cleared h) ≡ false
cleared_single h = by (is_pair h) refl
  where
    by : (b : Bool) → is_pair h ≡ b → is_pair (if b then top else h) ≡ false
    by true is = refl
    by false is = is

clear_pairs : (k : ℕ) (ls : List VerificationType) → Paired ls → Paired (clear_before k ls)
clear_pairs zero ls pairs = pairs
clear_pairs (suc k) ls pairs = set_single ls pairs k (cleared (get_or ls k top)) (cleared_single (get_or ls k top))
    (λ j at wide. ap cleared (ap (λ (n : ℕ). get_or ls n top) (sym at) ∙ (pairs j wide).1))

clear_free : (k : ℕ) (ls : List VerificationType) → Free k (clear_before k ls)
clear_free zero ls j at = absurd (omega (arith, at))
clear_free (suc k) ls j at =
    let same : j ≡ k = omega (arith, at) in
    ap (λ (n : ℕ). is_pair (get_or (set ls k (cleared (get_or ls k top))) n top)) same
    ∙ single_at ls k (cleared (get_or ls k top)) (cleared_single (get_or ls k top))

put_pairs : (k : ℕ) (h : VerificationType) (ls : List VerificationType) → (is_pair h ≡ true → k + 1 < length ls) → Paired ls → Paired (put_local k h ls)
put_pairs k h ls room pairs = by (is_pair h) refl
  where
    by : (b : Bool) → is_pair h ≡ b → Paired (if b then set (set (clear_before k ls) k h) (k + 1) top else set (clear_before k ls) k h)
    by true is = set_pair (clear_before k ls) (clear_pairs k ls pairs) k h (clear_free k ls) (let n = length_clear k ls in let r = room is in
        omega (arith, n, r))
    by false is = set_single (clear_before k ls) (clear_pairs k ls pairs) k h is (λ j at wide. absurd (true≢false (sym wide ∙ clear_free k ls j at)))

pub get_mapped : (f : VerificationType → VerificationType) → f top ≡ top → (ls : List VerificationType) (i : ℕ) → get_or (map f ls) i top ≡ f (get_or ls i top)
get_mapped f tops [] i = sym tops
get_mapped f tops (x ∷ ls) zero = refl
get_mapped f tops (x ∷ ls) (suc i) = get_mapped f tops ls i

map_pairs : (f : VerificationType → VerificationType) → f top ≡ top → ((h : VerificationType) → is_pair (f h) ≡ true → is_pair h ≡ true)
    → (ls : List VerificationType) → Paired ls → Paired (map f ls)
map_pairs f tops wide ls pairs i e =
    let p = pairs i (wide (get_or ls i top) (ap is_pair (sym (get_mapped f tops ls i)) ∙ e)) in
    let n = length-map ls f in
    (omega (arith, n, p.0), get_mapped f tops ls (i + 1) ∙ ap f p.1 ∙ tops)

one_pair : (b : Bool) (x y : VerificationType) → is_pair x ≡ false → is_pair (if b then x else y) ≡ true → is_pair y ≡ true
one_pair true x y single e = absurd (true≢false (sym e ∙ single))
one_pair false x y single e = e

pub replaced_top : (old : VerificationType) (name : List ℕ) → replaced old name top ≡ top
replaced_top (object n) name = refl
replaced_top _ name = refl

-- ---- steps

-- the second local variable of what is stored is one of so many
abbrev pub HasSecond : ℕ → Step → Type 0
HasSecond count (stores k w) = takes_pair w ≡ true → k + 1 < count
HasSecond count st = Unit {0}

built_pairs : (most : ℕ) (old : VerificationType) (rest : List VerificationType) (given : List Gives) (name : Option (List ℕ)) (s t : TypeState)
    → Paired s.locals → built_as most old rest given name s ≡ Some t → Paired t.locals
built_pairs most old rest given None s t pairs e = absurd (none-some _ e)
built_pairs most old rest given (Some name) s t pairs e =
    subst Paired (same_locals (record { locals = map (replaced old name) s.locals; stack = s.stack }) t _ e)
    (map_pairs (replaced old name) (replaced_top old name) (λ h wide. one_pair (same_new old h) _ h refl wide) s.locals pairs)

pub step_pairs : (g : Ground) (st : Step) (s t : TypeState) → HasSecond (length s.locals) st → Paired s.locals → apply g st s ≡ Some t → Paired t.locals
step_pairs g (moves forms) s t room pairs e = subst Paired (same_locals s t _ e) pairs
step_pairs g (loads k w) s t room pairs e = subst Paired (same_locals s t _ (then_some (accepts w (get_or s.locals k top)) _ t e).1) pairs
step_pairs g (stores k w) s t room pairs e =
    let h = last s.stack in let p = then_some (accepts w h) _ t e in
    subst Paired (same_locals (record { locals = put_local k h s.locals; stack = s.stack }) t _ p.1)
    (put_pairs k h s.locals (λ wide. room (pair-taken (λ n. n) w h p.0 wide)) pairs)
step_pairs g (counts k) s t room pairs e = subst Paired (same_locals s t _ (then_some (is_int (get_or s.locals k top)) _ t e).1) pairs
step_pairs g picks s t room pairs e =
    subst Paired (same_locals s t _ (then_some (is_array (get_or (upper 2 s.stack) 0 top) && is_int (get_or (upper 2 s.stack) 1 top)) _ t e).1) pairs
step_pairs g makes s t room pairs e =
    subst Paired (same_locals (record { locals = map (without g.place) s.locals; stack = s.stack }) t _ (else_some (list_any (is_made g.place) s.stack) _ t e))
    (map_pairs (without g.place) refl (λ h wide. one_pair (is_made g.place h) top h refl wide) s.locals pairs)
step_pairs g (builds f) s t room pairs e =
    let n = suc (length f.wanted) in let old = get_or (upper n s.stack) 0 top in
    built_pairs g.most old (below n s.stack) f.given (class_built g old) s t pairs
    (then_some (accepts_all (wants.Anything ∷ f.wanted) (upper n s.stack)) _ t e).1
step_pairs g fails s t room pairs e = absurd (none-some _ e)
