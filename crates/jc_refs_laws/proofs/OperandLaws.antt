-- The kind check looks at each operand of which an instruction needs something.
use Rattle.std.proofs.Common.{◌≡◌, ℕ, zero, suc, ◌+◌, ◌-◌, ◌<◌, ◌≤◌, true, List, [], ◌∷◌, length, get_or, refl, sym, ◌∙◌, ap, subst, arith}
use Rattle.std.proofs.lemmas.Bool.{and_parts, false≢true}
use Rattle.std.proofs.lemmas.List.{get_or-drop, get_or-reverse, length-drop}
use Rattle.jc_methods.specs.VerificationTypes.{VerificationType}
use Rattle.jc_methods.specs.VerificationTypes as verification
use Rattle.jc_kinds_after.specs.declared.want.Want.{Want}
use Rattle.jc_kinds_after.specs.Wants.{accepts, accepts_all}
use Rattle.jc_kinds_after.specs.Step.{upper}
use Rattle.jc_machine_laws.proofs.StackLaws.{top_refused}
use Rattle.jc_refs_check.specs.RefsOk.{operand}

-- ---- operands that are looked at

-- so many operands are there, and none is of no type
pub record HasOperands (n : ℕ) (stack : List VerificationType) : Type 0 where
  pub enough : n ≤ length stack
  pub each : (k : ℕ) → k < n → operand k stack ≡ verification.top → ⊥

pub none_taken : (stack : List VerificationType) → HasOperands 0 stack
none_taken stack = record { enough = omega arith; each = λ k lt e. absurd (omega (arith, lt)) }

pub fewer_taken : (m n : ℕ) (stack : List VerificationType) → m ≤ n → HasOperands n stack → HasOperands m stack
fewer_taken m n stack le h = let e = h.enough in record { enough = omega (arith, le, e); each = λ k lt. h.each k (omega (arith, lt, le)) }

accepted_length : (wanted : List Want) (types : List VerificationType) → accepts_all wanted types ≡ true → length types ≡ length wanted
accepted_length [] [] e = refl
accepted_length [] (h ∷ types) e = absurd (false≢true e)
accepted_length (w ∷ wanted) [] e = absurd (false≢true e)
accepted_length (w ∷ wanted) (h ∷ types) e = ap suc (accepted_length wanted types (and_parts (accepts w h) (accepts_all wanted types) e).1)

accepted_at : (wanted : List Want) (types : List VerificationType) (k : ℕ) → accepts_all wanted types ≡ true → k < length wanted
    → get_or types k verification.top ≡ verification.top → ⊥
accepted_at [] types k a lt e = omega (arith, lt)
accepted_at (w ∷ wanted) [] k a lt e = false≢true a
accepted_at (w ∷ wanted) (h ∷ types) zero a lt e = top_refused w (subst (λ x. accepts w x ≡ true) e (and_parts (accepts w h) (accepts_all wanted types) a).0)
accepted_at (w ∷ wanted) (h ∷ types) (suc k) a lt e =
    accepted_at wanted types k (and_parts (accepts w h) (accepts_all wanted types) a).1 (let l = lt in omega (arith, l)) e

-- the operands on top, the deepest first
pub operand_upper : (n k : ℕ) (stack : List VerificationType) → n ≤ length stack → k < n → get_or (upper n stack) (n - 1 - k) verification.top ≡ operand k stack
operand_upper n k stack le lt =
    get_or-drop (length stack - n) stack (n - 1 - k) verification.top
    ∙ ap (λ i. get_or stack i verification.top) (let e : length stack - n + (n - 1 - k) ≡ length stack - 1 - k = omega (arith, le, lt) in e)
    ∙ sym (get_or-reverse stack k verification.top (omega (arith, le, lt)))

pub operands_taken : (wanted : List Want) (stack : List VerificationType) → accepts_all wanted (upper (length wanted) stack) ≡ true
    → HasOperands (length wanted) stack
operands_taken wanted stack a = record { enough = enough; each = each }
  where
    enough : length wanted ≤ length stack
    enough =
        let e = accepted_length wanted (upper (length wanted) stack) a in
        let f = length-drop (length stack - length wanted) stack in
        omega (arith, e, f)

    each : (k : ℕ) → k < length wanted → operand k stack ≡ verification.top → ⊥
    each k lt e =
        accepted_at wanted (upper (length wanted) stack) (length wanted - 1 - k) a (omega (arith, lt))
        (operand_upper (length wanted) k stack enough lt ∙ e)
