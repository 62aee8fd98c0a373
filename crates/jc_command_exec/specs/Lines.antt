-- Lines that stand in one text, one behind the other.
use Rattle.std.specs.Prelude.{◌≡◌, ◌≤◌, ◌-◌, ℕ, List, [], ◌∷◌, take, drop}

-- the lines that end there, the first of them from there on
abbrev pub lines_in : List ℕ → ℕ → List ℕ → List (List ℕ)
lines_in text from [] = []
lines_in text from (end ∷ ends) = take (end - from) (drop from text) ∷ lines_in text end ends

-- no line ends in front of where it begins, and the last ends where the text ends
abbrev pub EndAt : ℕ → ℕ → List ℕ → Type 0
EndAt size from [] = from ≡ size
EndAt size from (end ∷ ends) = (from ≤ end) × EndAt size end ends
