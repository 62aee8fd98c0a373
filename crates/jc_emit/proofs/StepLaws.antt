-- What the instructions of probes do to types, and bounds of states.
use Rattle.std.proofs.Common.{◌≡◌, ℕ, ◌+◌, ◌-◌, ◌≤◌, Bool, true, false, List, [], ◌∷◌, ◌++◌, length, map, drop, Option, Some, None, refl, sym, ap, ◌∙◌, subst, arith, nat_le, if◌then◌else◌, append-nil, length-append}
use Rattle.std.proofs.lemmas.Option.{none-some, same_Some}
use Rattle.std.proofs.lemmas.Bool.{cond-true, leb-true, le-leb}
use Rattle.std.proofs.lemmas.List.{take_at}
use Rattle.std.proofs.Math.Seq.{drop-append_seam}
use Rattle.jc_methods.specs.VerificationTypes.{VerificationType, TypeState, width, slots}
use Rattle.jc_kinds_after.specs.declared.want.Want.{Want}
use Rattle.jc_kinds_after.specs.Wants.{accepts_all}
use Rattle.jc_kinds_after.specs.Step.{kind, StackEffect, moves, Ground, apply, given_of, limited, below, upper, has_form, moved, with_stack}
use Rattle.jc_kinds_after.specs.Table.{one}
use Rattle.jc_kinds_after.proofs.KeepLaws.{then_some}

-- ---- stacks

pub slots-append : (xs ys : List VerificationType) → slots (xs ++ ys) ≡ slots xs + slots ys
slots-append [] ys = omega arith
slots-append (x ∷ xs) ys = omega (arith, slots-append xs ys)

pub below_end : (n : ℕ) (xs ys : List VerificationType) → length ys ≡ n → below n (xs ++ ys) ≡ xs
below_end n xs ys e = let l = length-append xs ys in take_at xs ys (length (xs ++ ys) - n) (omega (arith, e, l))

pub upper_end : (n : ℕ) (xs ys : List VerificationType) → length ys ≡ n → upper n (xs ++ ys) ≡ ys
upper_end n xs ys e =
    let l = length-append xs ys in
    let k : length (xs ++ ys) - n ≡ length xs = omega (arith, e, l) in
    ap (λ (m : ℕ). drop m (xs ++ ys)) k ∙ drop-append_seam xs ys

pub limited_is : (most : ℕ) (stack : List VerificationType) → slots stack ≤ most → limited most stack ≡ Some stack
limited_is most stack le = cond-true (nat_le (slots stack) most) (Some stack) None (le-leb (slots stack) most le)

pub limited_low : (most : ℕ) (stack x : List VerificationType) → limited most stack ≡ Some x → (stack ≡ x) × (slots x ≤ most)
limited_low most stack x e =
    let p = then_some (nat_le (slots stack) most) (Some stack) x e in
    let same = same_Some stack x p.1 in
    (same, subst (λ (l : List VerificationType). slots l ≤ most) same (leb-true (slots stack) most p.0))

-- ---- instructions that touch the stack alone

abbrev pub state : List VerificationType → List VerificationType → TypeState
state locals stack = record { locals = locals; stack = stack }

-- one form
pub moves_one : (g : Ground) (f : StackEffect) (locals xs ys : List VerificationType) → accepts_all f.wanted ys ≡ true → length ys ≡ length f.wanted
    → slots (xs ++ map (given_of ys) f.given) ≤ g.most
    → apply g (moves (f ∷ [])) (state locals (xs ++ ys)) ≡ Some (state locals (xs ++ map (given_of ys) f.given))
moves_one g f locals xs ys ok len low =
    let u = upper_end (length f.wanted) xs ys len in
    let d = below_end (length f.wanted) xs ys len in
    let has : has_form f (xs ++ ys) ≡ true = ap (accepts_all f.wanted) u ∙ ok in
    let m : moved f (xs ++ ys) ≡ xs ++ map (given_of ys) f.given =
    ap (λ (l : List VerificationType). l ++ map (given_of (upper (length f.wanted) (xs ++ ys))) f.given) d
    ∙ ap (λ (l : List VerificationType). xs ++ map (given_of l) f.given) u in
    ap (with_stack (state locals (xs ++ ys)))
    (cond-true (has_form f (xs ++ ys)) (limited g.most (moved f (xs ++ ys))) None has
    ∙ ap (limited g.most) m ∙ limited_is g.most (xs ++ map (given_of ys) f.given) low)

-- a value is pushed
pub moves_gives : (g : Ground) (h : VerificationType) (locals xs : List VerificationType) → slots xs + width h ≤ g.most
    → apply g (moves (one [] (kind h ∷ []))) (state locals xs) ≡ Some (state locals (xs ++ h ∷ []))
moves_gives g h locals xs low =
    let n = slots-append xs (h ∷ []) in
    subst (λ (l : List VerificationType). apply g (moves (one [] (kind h ∷ []))) (state locals l) ≡ Some (state locals (xs ++ h ∷ []))) (append-nil xs)
    (moves_one g (record { wanted = []; given = kind h ∷ [] }) locals xs [] refl refl (omega (arith, n, low)))

-- nothing happens
pub moves_nothing : (g : Ground) (locals xs : List VerificationType) → slots xs ≤ g.most
    → apply g (moves (one [] [])) (state locals xs) ≡ Some (state locals xs)
moves_nothing g locals xs low =
    subst (λ (l : List VerificationType). apply g (moves (one [] [])) (state locals l) ≡ Some (state locals l)) (append-nil xs)
    (moves_one g (record { wanted = []; given = [] }) locals xs [] refl refl (let n = slots-append xs [] in omega (arith, n, low)))

-- operands are taken, and where that goes well the rest is left
pub takes_only : (g : Ground) (ws : List Want) (s t : TypeState) → apply g (moves (one ws [])) s ≡ Some t
    → t ≡ state s.locals (below (length ws) s.stack)
takes_only g ws s t e = by (has_form (record { wanted = ws; given = [] }) s.stack) e
  where
    f : StackEffect
    f = record { wanted = ws; given = [] }

    pushed : (o : Option (List VerificationType)) → ((x : List VerificationType) → o ≡ Some x → below (length ws) s.stack ≡ x) → with_stack s o ≡ Some t
        → t ≡ state s.locals (below (length ws) s.stack)
    pushed None h e = absurd (none-some _ e)
    pushed (Some x) h e = sym (same_Some (state s.locals x) t e) ∙ ap (state s.locals) (sym (h x refl))

    by : (b : Bool) → with_stack s (if b then limited g.most (moved f s.stack) else None) ≡ Some t
        → t ≡ state s.locals (below (length ws) s.stack)
    by true e =
        pushed (limited g.most (moved f s.stack)) (λ x q. sym (append-nil (below (length ws) s.stack)) ∙ (limited_low g.most (moved f s.stack) x q).0) e
    by false e = absurd (none-some _ e)
