-- The status of a line as the slow program of the tests finds it: each instruction is looked at, one by one.
use Rattle.std.specs.Prelude.{ℕ, ◌+◌, Bool, true, false, not, ◌&&◌, ◌||◌, List, [], ◌∷◌, length, nat_eq, nat_le, Option, Some, None, if◌then◌else◌}
use Rattle.std.specs.List.{list_any}
use Rattle.jc_methods.specs.declared.body.LineAt.{LineAt}
use Rattle.jc_cover.specs.Counters.{Method, is_counted, is_better, line_of}

-- the value is true, or false, as is asked for
abbrev pub is_value : Bool → Bool → Bool
is_value true value = value
is_value false value = not value

abbrev pub has_value : Bool → List Bool → Bool
has_value covered values = list_any (is_value covered) values

-- the instruction is covered, or missed, or a branch of it is where it has two or more
abbrev pub has_item : Bool → List Bool → Bool
has_item covered values = is_value covered (has_value true values) || (nat_le 2 (length values) && has_value covered values)

abbrev pub is_line : ℕ → Option ℕ → Bool
is_line number None = false
is_line number (Some line) = nat_eq line number

-- the better one of an entry and the best one in front of it
abbrev pub better : ℕ → Option LineAt → LineAt → Option LineAt
better at best entry = if is_better at best entry then Some entry else best

-- the test passes of an item and its place
abbrev pub any_from : {X : Type 0} → (ℕ → X → Bool) → ℕ → List X → Bool
any_from test i [] = false
any_from test i (x ∷ xs) = test i x || any_from test (i + 1) xs

-- the instruction has the line, and is covered or missed, or a branch of it is
abbrev pub is_here : List LineAt → ℕ → Bool → ℕ → List Bool → Bool
is_here table number covered at values = is_line number (line_of table at) && has_item covered values

abbrev pub is_in_method : ℕ → Bool → Method → Bool
is_in_method number covered m = any_from (is_here m.body.lines number covered) 0 m.insns

abbrev pub is_in_counted : ℕ → Bool → Method → Bool
is_in_counted number covered m = is_counted m.body && is_in_method number covered m
