-- Programs beside their instrumented forms as worked examples, and what is said of the instructions of these.
use Rattle.std.specs.Prelude.{ℕ, pos, true, false, List, [], ◌∷◌, ◌++◌, codes}
use Rattle.jc_methods.specs.declared.body.Body.{Body}
use Rattle.jc_methods.specs.declared.insn.Insn.TheVariants as insns
use Rattle.jc_methods.specs.Opcode as opcode
use Rattle.jc_programs.specs.declared.program.Program.{Program}
use Rattle.jc_programs.specs.declared.run_end.Entry.{Entry}
use Rattle.jc_programs.specs.declared.run_plan.Case.{Case}
use Rattle.jc_programs.specs.declared.run_plan.Schedule.TheVariants as schedules
use Rattle.jc_emit.specs.Marks.{Marks}
use Rattle.jc_machine_model.specs.World.{World}
use Rattle.jc_machine_model.specs.Begin.{begin_case}
use Rattle.examples_machine.specs.ProgramExamples.{program, class, method, probed_class, prelude, probe, init_use, thread, case, inc_thread, probed_inc_program}

-- ---- C: inc ()V: the prelude, getstatic x, iconst_1, iadd, putstatic x, the probe of the return, return

abbrev pub inc_marks : Entry → Marks
inc_marks method = record {
  at = 0 ∷ 0 ∷ 0 ∷ 1 ∷ 2 ∷ 3 ∷ 4 ∷ 4 ∷ 4 ∷ 4 ∷ 4 ∷ [];
  own = false ∷ false ∷ true ∷ true ∷ true ∷ true ∷ false ∷ false ∷ false ∷ false ∷ true ∷ [];
  extra = 0 ∷ 1 ∷ 0 ∷ 0 ∷ 0 ∷ 0 ∷ 0 ∷ 1 ∷ 2 ∷ 3 ∷ 0 ∷ [];
}

-- one thread, and two
abbrev pub one_inc : Case
one_inc = case (inc_thread ∷ []) (schedules.Robin 22)

abbrev pub two_incs : Case
two_incs = case (inc_thread ∷ inc_thread ∷ []) (schedules.Robin 44)

abbrev pub one_begun : World
one_begun = begin_case probed_inc_program one_inc

abbrev pub two_begun : World
two_begun = begin_case probed_inc_program two_incs

-- ---- N: f ()V: return, behind the prelude and its probe: as many probe turns in a row as there can be

abbrev pub n_name : List ℕ
n_name = codes "N"

abbrev pub nothing : Body
nothing = method n_name (codes "f") (codes "()V") 0 0 0 (insns.Simple opcode.return ∷ []) [] []

abbrev pub nothing_program : Program
nothing_program = program (class n_name (nothing ∷ []) [] ∷ [])

abbrev pub probed_nothing : Body
probed_nothing = method n_name (codes "f") (codes "()V") 0 3 1 (prelude 0 ++ (probe 0 0 ++ insns.Simple opcode.return ∷ [])) [] (init_use n_name ∷ [])

abbrev pub probed_nothing_program : Program
probed_nothing_program = program (probed_class n_name 5 (pos 5) 1 (probed_nothing ∷ []) [] ∷ [])

abbrev pub nothing_marks : Entry → Marks
nothing_marks method = record {
  at = 0 ∷ 0 ∷ 0 ∷ 0 ∷ 0 ∷ 0 ∷ 0 ∷ [];
  own = false ∷ false ∷ false ∷ false ∷ false ∷ false ∷ true ∷ [];
  extra = 0 ∷ 1 ∷ 0 ∷ 1 ∷ 2 ∷ 3 ∷ 0 ∷ [];
}

abbrev pub one_nothing : Case
one_nothing = case (thread n_name (codes "f") [] ∷ []) (schedules.Robin 18)

abbrev pub nothing_begun : World
nothing_begun = begin_case probed_nothing_program one_nothing
