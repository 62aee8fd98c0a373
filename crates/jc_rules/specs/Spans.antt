-- The least and the greatest line of instructions, and the lines between them with what is said of each.
use Rattle.std.specs.Prelude.{◌≡◌, ℕ, ◌+◌, ◌-◌, ◌<◌, ◌≤◌, Bool, List, [], min, max, Option, Some, None, Contains, slice_get}
use Rattle.jc_rules.specs.declared.span.Span.{Span}
use Rattle.jc_rules.specs.declared.status.LineState.TheVariants.{Empty}
use Rattle.jc_rules.specs.declared.status.LineStatus.{LineStatus}
use Rattle.jc_rules.specs.Status.{IsStatus}
use Rattle.jc_rules.specs.Placed.{Says}

-- ---- the span

-- an instruction has the line
abbrev pub Has : List LineStatus → ℕ → Type 0
Has placed number = (p : LineStatus) × Contains placed p × (p.line ≡ number)

pub record IsSpan (placed : List LineStatus) (span : Span) : Type 0 where
  pub least : Has placed span.least
  pub greatest : Has placed span.greatest
  pub not_below : (number : ℕ) → Has placed number → span.least ≤ number
  pub not_above : (number : ℕ) → Has placed number → number ≤ span.greatest

abbrev pub IsSpanOf : List LineStatus → Option Span → Type 0
IsSpanOf placed None = placed ≡ []
IsSpanOf placed (Some span) = IsSpan placed span

-- the span of the lines of one, and of one line more
abbrev pub IsWidened : Option Span → ℕ → Span → Type 0
IsWidened None line new = (new.least ≡ line) × (new.greatest ≡ line)
IsWidened (Some old) line new = (new.least ≡ min old.least line) × (new.greatest ≡ max old.greatest line)

-- ---- the lines of a span

-- a line that no instruction has
abbrev pub blank : ℕ → ℕ → LineStatus
blank least i = record { line = least + i; status = Empty }

-- an instruction of the line is covered, or a branch of one, or one is missed
abbrev pub IsSaid : List LineStatus → ℕ → Bool → Type 0
IsSaid placed number covered = (p : LineStatus) × Contains placed p × (p.line ≡ number) × Says p.status covered

-- each line of the list has its number and its status
abbrev pub AreSaid : List LineStatus → ℕ → List LineStatus → Type 0
AreSaid placed least list =
    (i : ℕ) (s : LineStatus) → slice_get list i ≡ Some s → (s.line ≡ least + i) × IsStatus (IsSaid placed s.line) s.status

-- each instruction's line is one of so many from the least one on
abbrev pub AreWithin : List LineStatus → ℕ → ℕ → Type 0
AreWithin placed least count = (number : ℕ) → Has placed number → (least ≤ number) × (number - least < count)
