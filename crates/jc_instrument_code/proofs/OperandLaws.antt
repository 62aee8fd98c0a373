-- Code with a place of the pool behind an opcode, in parts.
use Rattle.std.proofs.Common.{◌≡◌, ℕ, zero, suc, ◌+◌, ◌-◌, ◌<◌, ◌≤◌, List, [], ◌∷◌, ◌++◌, length, take, drop, refl, sym, ◌∙◌, ap, arith, length-drop}
use Rattle.std.proofs.lemmas.List.{take_all}
use Rattle.jc_bytes.proofs.AppendingLaws.{joined}
use Rattle.jc_bytes.specs.BigNumbers.{short}
use Rattle.jc_layout.specs.LaidBody.{with_operand}

-- too few bytes
pub operand_short : (offset place : ℕ) (code : List ℕ) → length code < offset + 3 → with_operand offset place code ≡ code
operand_short zero place [] lt = refl
operand_short zero place (a ∷ []) lt = refl
operand_short zero place (a ∷ b ∷ []) lt = refl
operand_short zero place (a ∷ b ∷ c ∷ code) lt = absurd (omega (arith, lt))
operand_short (suc offset) place [] lt = refl
operand_short (suc offset) place (a ∷ code) lt = ap (λ (l : List ℕ). a ∷ l) (operand_short offset place code (omega (arith, lt)))

-- the bytes up to the opcode, the place, and the bytes behind
operand_parts : (offset place : ℕ) (code : List ℕ) → offset + 3 ≤ length code
    → with_operand offset place code ≡ take (suc offset) code ++ (short place ++ drop (suc (suc (suc offset))) code)
operand_parts zero place [] le = absurd (omega (arith, le))
operand_parts zero place (a ∷ []) le = absurd (omega (arith, le))
operand_parts zero place (a ∷ b ∷ []) le = absurd (omega (arith, le))
operand_parts zero place (a ∷ b ∷ c ∷ code) le = refl
operand_parts (suc offset) place [] le = absurd (omega (arith, le))
operand_parts (suc offset) place (a ∷ code) le = ap (λ (l : List ℕ). a ∷ l) (operand_parts offset place code (omega (arith, le)))

pub operand_put : (offset place : ℕ) (code old a b new : List ℕ) → offset + 3 ≤ length code → a ≡ old ++ take (offset + 1) code
    → b ≡ a ++ short place → new ≡ b ++ take (length code - (offset + 3)) (drop (offset + 3) code) → new ≡ old ++ with_operand offset place code
operand_put offset place code old a b new le p₁ p₂ p₃ =
    joined old a new (take (offset + 1) code) _ p₁ (joined a b new (short place) (drop (offset + 3) code) p₂ (p₃ ∙ ap (λ (l : List ℕ). b ++ l) rest))
    ∙ (λ k. old ++ (take (one k) code ++ (short place ++ drop (three k) code)))
    ∙ ap (λ (l : List ℕ). old ++ l) (sym (operand_parts offset place code le))
  where
    rest : take (length code - (offset + 3)) (drop (offset + 3) code) ≡ drop (offset + 3) code
    rest = let size = length-drop (offset + 3) code in take_all (length code - (offset + 3)) (drop (offset + 3) code) (omega (arith, size))

    one : offset + 1 ≡ suc offset
    one = omega arith

    three : offset + 3 ≡ suc (suc (suc offset))
    three = omega arith
