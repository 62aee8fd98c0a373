-- What functions give that decide.
use Rattle.std.specs.Prelude.{⊤, Option, None, Some, Result, Ok, Err}
use Rattle.jc_command_work.specs.Part.{End}

-- the command ends so, or memory was refused
abbrev pub StopsBy : (End → Type 0) → Option End → Type 0
StopsBy Ends None = ⊤
StopsBy Ends (Some end) = Ends end

-- what a function gives that decides: what is so, or how the command ends
abbrev pub Decides : {X A E : Type 0} → (X → Type 0) → (End → Type 0) → (A → X) → (E → Option End) → Result A E → Type 0
Decides Is Ends value stop (Ok a) = Is (value a)
Decides Is Ends value stop (Err e) = StopsBy Ends (stop e)
