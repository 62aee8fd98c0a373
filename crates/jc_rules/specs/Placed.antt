-- The lines of the instructions of methods, each with the status that the instruction alone gives it.
use Rattle.std.specs.Prelude.{⊤, ℕ, Bool, true, false, List, option_map, option_to_list}
use Rattle.std.specs.List.{list_any, list_all, flat_map}
use Rattle.jc_bytes.specs.PlainLists.{join_from}
use Rattle.jc_methods.specs.declared.body.LineAt.{LineAt}
use Rattle.jc_cover.specs.Counters.{Method, line_of}
use Rattle.jc_rules.specs.declared.status.LineState.{LineState}
use Rattle.jc_rules.specs.declared.status.LineState.TheVariants.{Empty, Not, Partly, Fully}
use Rattle.jc_rules.specs.declared.status.LineStatus.{LineStatus}

-- ---- statuses

-- of the values of an instruction's branches some or all are true
abbrev pub state_by : Bool → Bool → LineState
state_by false all = Not
state_by true false = Partly
state_by true true = Fully

abbrev pub state_of : List Bool → LineState
state_of values = state_by (list_any (λ value. value) values) (list_all (λ value. value) values)

-- the status of what has two statuses
abbrev pub both : LineState → LineState → LineState
both Empty other = other
both Not Empty = Not
both Not Not = Not
both Not other = Partly
both Partly other = Partly
both Fully Empty = Fully
both Fully Fully = Fully
both Fully other = Partly

-- by the status something is covered, or something is missed
abbrev pub Says : LineState → Bool → Type 0
Says Empty covered = ⊥
Says Not true = ⊥
Says Not false = ⊤
Says Partly covered = ⊤
Says Fully true = ⊤
Says Fully false = ⊥

-- ---- instructions with a line

abbrev pub placed_at : List Bool → ℕ → LineStatus
placed_at values number = record { line = number; status = state_of values }

-- the line of the instruction, if it has one
abbrev pub insn_placed : List LineAt → ℕ → List Bool → List LineStatus
insn_placed lines i values = option_to_list (option_map (placed_at values) (line_of lines i))

abbrev pub insns_placed : List LineAt → List (List Bool) → List LineStatus
insns_placed lines insns = join_from (insn_placed lines) 0 insns

abbrev pub method_placed : Method → List LineStatus
method_placed m = insns_placed m.body.lines m.insns

abbrev pub methods_placed : List Method → List LineStatus
methods_placed methods = flat_map method_placed methods
