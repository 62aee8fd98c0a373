-- The text that is printed of a case.
use Rattle.std.specs.Prelude.{ℕ, ◌+◌, List, [], ◌∷◌, ◌++◌, map, Some, None, codes, nat_eq, decimal, slice_get, if◌then◌else◌}
use Rattle.std.specs.Fmt.{signed_decimal}
use Rattle.std.specs.List.{flat_map}
use Rattle.jc_programs.specs.declared.run_end.Value.TheVariants as values
use Rattle.jc_programs.specs.declared.run_end.End.TheVariants as ends
use Rattle.jc_programs.specs.declared.program.Program.{Program}
use Rattle.jc_programs.specs.declared.program.Linked.{Linked}
use Rattle.jc_programs.specs.declared.run_plan.Case.{Case}
use Rattle.jc_programs.specs.declared.run_end.Value.{Value}
use Rattle.jc_programs.specs.declared.run_end.End.{End}
use Rattle.jc_programs.specs.declared.run_end.StaticEnd.{StaticEnd}
use Rattle.jc_programs.specs.declared.run_end.CaseEnd.{CaseEnd}
use Rattle.jc_programs.specs.Throwables.{name_of}
use Rattle.jc_programs.specs.Turns.{turns_in}
use Rattle.jc_machine_model.specs.CaseEnds.{case_end}

-- each line ends with LF
abbrev pub line : List ℕ → List ℕ
line text = text ++ 10 ∷ []

-- a number, `null`, or `ref` for any other reference
abbrev pub value_text : Value → List ℕ
value_text (values.Int n) = signed_decimal n
value_text (values.Long n) = signed_decimal n
value_text values.Null = codes "null"
value_text values.Reference = codes "ref"

-- a class name with dots
abbrev pub dotted : List ℕ → List ℕ
dotted name = map (λ b. if nat_eq b 47 then 46 else b) name

abbrev pub end_text : End → List ℕ
end_text ends.Running = codes "running"
end_text ends.Stuck = codes "stuck"
end_text (ends.Returned None) = codes "returned"
end_text (ends.Returned (Some v)) = codes "returned " ++ value_text v
end_text (ends.Threw c) = codes "threw " ++ dotted (name_of c)

-- `thread T` and how it stands
abbrev pub thread_line : ℕ → End → List ℕ
thread_line t end = line (codes "thread " ++ (decimal t ++ (32 ∷ end_text end)))

abbrev pub thread_lines : ℕ → List End → List ℕ
thread_lines t [] = []
thread_lines t (end ∷ ends) = thread_line t end ++ thread_lines (t + 1) ends

-- `static CLASS.FIELD VALUE`, the class's name as it stands
abbrev pub static_line : List ℕ → List ℕ → StaticEnd → List ℕ
static_line class field s = line (codes "static " ++ (class ++ (46 ∷ (field ++ (32 ∷ signed_decimal s.value)))))

abbrev pub field_line : Linked → StaticEnd → List ℕ
field_line c s = elim (slice_get c.statics s.field) [ None ↦ [] | Some f ↦ static_line c.name f.name s ]

abbrev pub static_text : Program → StaticEnd → List ℕ
static_text program s = elim (slice_get program.classes s.class) [ None ↦ [] | Some c ↦ field_line c s ]

-- `case K`, counted from 1
abbrev pub case_line : ℕ → List ℕ
case_line k = line (codes "case " ++ decimal k)

-- what was printed, a line for each thread, and a line for each static field of an integral type
abbrev pub end_lines : Program → CaseEnd → List ℕ
end_lines program end = end.output ++ (thread_lines 0 end.ends ++ flat_map (static_text program) end.statics)

-- the text of the case with this number
abbrev pub case_text : Program → ℕ → CaseEnd → List ℕ
case_text program k end = case_line k ++ end_lines program end

-- the texts of cases, from one with this number on, each run by its own schedule
abbrev pub case_texts : Program → ℕ → List Case → List ℕ
case_texts program k [] = []
case_texts program k (case ∷ cases) = case_text program k (case_end program case (turns_in case)) ++ case_texts program (k + 1) cases
