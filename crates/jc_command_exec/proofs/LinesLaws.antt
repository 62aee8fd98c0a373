-- Lines that stand in one text.
use Rattle.std.proofs.Common.{◌≡◌, ◌+◌, ◌-◌, ◌<◌, ◌≤◌, ℕ, zero, suc, List, [], ◌∷◌, ◌++◌, length, take, drop, get_or, refl, ◌∙◌, ap, arith}
use Rattle.std.proofs.Math.Seq.{drop-append_seam}
use Rattle.std.proofs.lemmas.List.{take_all, take-append-le, drop-append-le, length-drop}
use Rattle.jc_command_exec.specs.Lines.{lines_in, EndAt}

-- ---- a line at a place

pub lines_count : (text : List ℕ) (from : ℕ) (ends : List ℕ) → length (lines_in text from ends) ≡ length ends
lines_count text from [] = refl
lines_count text from (end ∷ ends) = ap (λ (n : ℕ). suc n) (lines_count text end ends)

pub line_at : (text : List ℕ) (from : ℕ) (ends : List ℕ) (k : ℕ) (d : List ℕ) → k < length ends
    → get_or (lines_in text from ends) k d ≡ take (get_or ends k 0 - get_or (from ∷ ends) k 0) (drop (get_or (from ∷ ends) k 0) text)
line_at text from [] k d within = absurd (omega (arith, within))
line_at text from (end ∷ ends) zero d within = refl
line_at text from (end ∷ ends) (suc k) d within = line_at text end ends k d (omega (arith, within))

pub before_at : (ends : List ℕ) (place : ℕ) → 0 < place → get_or ends (place - 1) 0 ≡ get_or (0 ∷ ends) place 0
before_at ends zero front = absurd (omega (arith, front))
before_at ends (suc k) front = let same : suc k - 1 ≡ k = omega arith in ap (λ (n : ℕ). get_or ends n 0) same

-- the last line ends where the text ends
pub from_within : (size from : ℕ) (ends : List ℕ) → EndAt size from ends → from ≤ size
from_within size from [] at = omega (arith, at)
from_within size from (end ∷ ends) at = omega (arith, at.0, from_within size end ends at.1)

pub end_within : (size from : ℕ) (ends : List ℕ) (k : ℕ) → EndAt size from ends → k < length ends → (get_or (from ∷ ends) k 0 ≤ get_or ends k 0) × (get_or ends k 0 ≤ size)
end_within size from [] k at within = absurd (omega (arith, within))
end_within size from (end ∷ ends) zero at within = (at.0, from_within size end ends at.1)
end_within size from (end ∷ ends) (suc k) at within = end_within size end ends k at.1 (omega (arith, within))

-- ---- a line more

module _ (text line : List ℕ) where
  pub end_more : (from : ℕ) (ends : List ℕ) → EndAt (length text) from ends → EndAt (length text + length line) from (ends ++ (length text + length line) ∷ [])
  end_more from [] at = (omega (arith, at), refl)
  end_more from (end ∷ ends) at = (at.0, end_more end ends at.1)

  same_part : (from end : ℕ) → from ≤ end → end ≤ length text → take (end - from) (drop from (text ++ line)) ≡ take (end - from) (drop from text)
  same_part from end before within =
      ap (take (end - from)) (drop-append-le from text line (omega (arith, before, within)))
      ∙ take-append-le (end - from) (drop from text) line (omega (arith, before, within, length-drop from text))

  last_part : (from : ℕ) → from ≡ length text → take ((length text + length line) - from) (drop from (text ++ line)) ≡ line
  last_part from is =
      ap (λ (n : ℕ). take ((length text + length line) - n) (drop n (text ++ line))) is ∙ ap (take ((length text + length line) - length text)) (drop-append_seam text line)
      ∙ take_all ((length text + length line) - length text) line (omega arith)

  pub lines_more : (from : ℕ) (ends : List ℕ) → EndAt (length text) from ends
      → lines_in (text ++ line) from (ends ++ (length text + length line) ∷ []) ≡ lines_in text from ends ++ line ∷ []
  lines_more from [] at = ap (λ (l : List ℕ). l ∷ []) (last_part from at)
  lines_more from (end ∷ ends) at =
      (λ i. same_part from end at.0 (from_within (length text) end ends at.1) i ∷ lines_more end ends at.1 i)
