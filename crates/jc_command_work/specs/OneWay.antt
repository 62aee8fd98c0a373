-- What a part comes to where contents are told, no call fails and no memory is refused.
use Rattle.std.specs.Prelude.{◌≡◌, ⊤, List, [], ◌∷◌, ◌++◌, Some}
use Rattle.jc_outside.specs.Outside.{FileMap}
use Rattle.jc_command_work.specs.Step.{Outside, Landed, Write, Call, Step, has_written, call_of, Fit}
use Rattle.jc_command_work.specs.Part.{End, Outcome, wants, gives, stops, Part, Command, deciding}

-- the part is over
abbrev pub IsOver : {X : Type 0} → Outcome X → Type 0
IsOver (wants call) = ⊥
IsOver (gives value) = ⊤
IsOver (stops end) = ⊤

abbrev pub IsTold : Outside → Type 0
IsTold w = (m : FileMap) × (w.contents ≡ Some m)

-- the list goes on behind these with a step of the call
abbrev pub GoesOn : List Step → Call → List Step → Type 0
GoesOn front call whole = (step : Step) × (rest : List Step) × (whole ≡ front ++ step ∷ rest) × (call_of step ≡ call)

-- from this outside on the part has one way, and all that it comes to stands on it
pub record OneWay {X : Type 0} (landed : Landed) (part : Part X) (w : Outside) : Type 0 where
  pub steps : List Step
  pub outcome : Outcome X
  pub over : IsOver outcome
  pub comes : part steps outcome
  pub fit : Fit landed w steps
  pub only : (others : List Step) (o : Outcome X) → IsOver o → part others o → Fit landed w others → (others ≡ steps) × (o ≡ outcome)
  pub on_way : (front : List Step) (call : Call) → part front (wants call) → Fit landed w front → GoesOn front call steps

-- wherever contents are told the part has one way
abbrev pub HasOne : {X : Type 0} → Landed → Part X → Type 0
HasOne landed part = (w : Outside) → IsTold w → OneWay landed part w

-- one thing is so, or the command ends in one way
pub record OneDecision {X : Type 0} (Is : X → Type 0) (Ends : End → Type 0) : Type 0 where
  pub decision : Outcome X
  pub over : IsOver decision
  pub holds : deciding Is Ends [] decision
  pub only : (o : Outcome X) → IsOver o → deciding Is Ends [] o → o ≡ decision

-- ---- the work

-- the steps of a command from this outside on, and its end
pub record Work : Type 0 where
  pub steps : List Step
  pub end : End

abbrev pub IsWork : Landed → Command → Outside → Work → Type 0
IsWork landed command w work = command work.steps (stops work.end) × Fit landed w work.steps

-- the writes among the steps, in order
abbrev pub writes_of : List Step → List Write
writes_of [] = []
writes_of (has_written write ∷ steps) = write ∷ writes_of steps
writes_of (_ ∷ steps) = writes_of steps
