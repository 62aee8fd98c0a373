-- The hits of one class, copied from the words of a board.
use Rattle.std.specs.Prelude.{◌≡◌, ℕ, ◌<◌, ◌⊎◌, List, Bool}
use Rattle.jc_programs.specs.Probes.{counts_of, IsHit}
use Rattle.jc_board.specs.Rule.{IsSetFrom}

-- Of a class whose words begin at `first`, the probes below so many are hit where their bits are set. No other probe is, and
-- what was hit stays so.
pub record Copies (words : List ℕ) (first class below : ℕ) (was now : List (List Bool)) : Type 0 where
  pub counts : counts_of now ≡ counts_of was
  pub others : (c i : ℕ) → IsHit now c i → IsHit was c i ⊎ ((c ≡ class) × (i < below) × IsSetFrom words first i)
  pub kept : (c i : ℕ) → IsHit was c i → IsHit now c i
  pub gained : (i : ℕ) → i < below → IsSetFrom words first i → IsHit now class i
