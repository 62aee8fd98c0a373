-- The lines of a class with their statuses, from the least line number that an instruction has to the greatest.
use Rattle.std.specs.Prelude.{◌≡◌, ℕ, ◌+◌, ◌-◌, ◌≤◌, Bool, List, [], map, Contains}
use Rattle.jc_bytes.specs.Least.{IsNowhere, IsLeast}
use Rattle.jc_bytes.specs.PlainLists.{numbers_from}
use Rattle.jc_cover.specs.Counters.{Method}
use Rattle.jc_rules.specs.declared.status.LineStatus.{LineStatus}
use Rattle.jc_rules.specs.Status.{HasInsn, IsLineStatus}

-- an instruction of one of the methods has the line
abbrev pub IsUsed : List Method → ℕ → Type 0
IsUsed methods number = (values : List Bool) × HasInsn methods number values

-- it holds of the number, and of none behind it
pub record IsGreatest (Fact : ℕ → Type 0) (number : ℕ) : Type 0 where
  pub there : Fact number
  pub last : (other : ℕ) → Fact other → other ≤ number

-- each number from the least that is used to the greatest, once, in order
pub record IsRange (methods : List Method) (lines : List ℕ) : Type 0 where
  pub least : ℕ
  pub greatest : ℕ
  pub is_least : IsLeast (IsUsed methods) least
  pub is_greatest : IsGreatest (IsUsed methods) greatest
  pub numbers : lines ≡ numbers_from least (greatest + 1 - least)

abbrev pub lines_of : List LineStatus → List ℕ
lines_of list = map (λ s. s.line) list

-- each entry has the status of its line
abbrev pub HaveStatuses : List Method → List LineStatus → Type 0
HaveStatuses methods list = (s : LineStatus) → Contains list s → IsLineStatus methods s.line s.status

-- the lines of a class with these methods
pub data IsLineList (methods : List Method) (list : List LineStatus) : Type 0 where
  -- no instruction has a line
  no_lines : IsNowhere (IsUsed methods) → list ≡ [] → IsLineList methods list
  some_lines : IsRange methods (lines_of list) → HaveStatuses methods list → IsLineList methods list
