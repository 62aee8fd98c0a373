-- What a function that is called at each class file asks for.
use Rattle.std.specs.Prelude.{◌≡◌, ℕ, List, All}
use denote.Ref.{Bor}

-- the function may be called with a reference to each of the files
abbrev pub TakesEach : (Bor (List ℕ) → Type 0) → List (List ℕ) → Type 0
TakesEach may files = All (λ (t : List ℕ). (p : Bor (List ℕ)) → p.now ≡ t → may p) files
