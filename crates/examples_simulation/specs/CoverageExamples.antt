-- Programs whose coverage is worked out by hand.
use Rattle.std.specs.Prelude.{ℕ, pos, negsuc, true, false, List, [], ◌∷◌, ◌++◌, codes, Bool, map}
use Rattle.jc_methods.specs.declared.body.Body.{Body}
use Rattle.jc_methods.specs.declared.insn.Insn.TheVariants as insns
use Rattle.jc_methods.specs.Opcode as opcode
use Rattle.jc_programs.specs.declared.program.Program.{Program}
use Rattle.jc_programs.specs.declared.run_end.Entry.{Entry}
use Rattle.jc_programs.specs.declared.run_plan.Case.{Case}
use Rattle.jc_programs.specs.declared.run_plan.RunPlan.{RunPlan}
use Rattle.jc_programs.specs.declared.run_plan.Schedule.TheVariants as schedules
use Rattle.jc_programs.specs.Turns.{turns_in}
use Rattle.jc_emit.specs.Marks.{Marks}
use Rattle.jc_twin_programs.specs.TwinProgram.{TwinProgram}
use Rattle.jc_cover.specs.Marking.{coverage_of}
use Rattle.jc_machine_model.specs.World.{Hit}
use Rattle.jc_machine_model.specs.Run.{run, IsHit}
use Rattle.jc_machine_model.specs.Taken.{taken, reached}
use Rattle.jc_twin_simulation.specs.Marking.{AreMarks}
use Rattle.jc_twin_simulation.specs.Laws.{kept_of}
use Rattle.jc_twin_exact.specs.Exact.{HaveEntries, TellHits}
use Rattle.jc_twin_exact.specs.Reported.{AllEndWell}
use Rattle.examples_machine.specs.EdgeExamples.{NumberedEdge, numbered}
use Rattle.examples_machine.specs.ProgramExamples.{program, method, probed_class, prelude, probe, init_use, one_thread, case, inc_thread, a_name, m_name, r_name}

-- the edges that the original takes and reaches under the kept turns, and what the twin hits
abbrev pub edges_taken : Program → Program → (Entry → Marks) → Case → List NumberedEdge
edges_taken before after marks case = map numbered (taken before case (kept_of after marks case (turns_in case)))

abbrev pub edges_reached : Program → Program → (Entry → Marks) → Case → List NumberedEdge
edges_reached before after marks case = map numbered (reached before case (kept_of after marks case (turns_in case)))

abbrev pub hits_in : Program → Case → List Hit
hits_in program case = (run program case (turns_in case)).hits

-- for each instruction of the one body of a class, which of its branches are covered
abbrev pub covered_in : Body → List Bool → List (List (List Bool))
covered_in b hits = (coverage_of (b ∷ []) hits).edges

-- ---- A: abs of -3, which returns by its first return

abbrev pub abs_marks : Entry → Marks
abs_marks method = record {
  at = 0 ∷ 0 ∷ 0 ∷ 1 ∷ 2 ∷ 3 ∷ 4 ∷ 4 ∷ 4 ∷ 4 ∷ 4 ∷ 5 ∷ 6 ∷ 6 ∷ 6 ∷ 6 ∷ 6 ∷ [];
  own = false ∷ false ∷ true ∷ true ∷ true ∷ true ∷ false ∷ false ∷ false ∷ false ∷ true ∷ true ∷ false ∷ false ∷ false ∷ false ∷ true ∷ [];
  extra = 0 ∷ 1 ∷ 0 ∷ 0 ∷ 0 ∷ 0 ∷ 0 ∷ 1 ∷ 2 ∷ 3 ∷ 0 ∷ 0 ∷ 0 ∷ 1 ∷ 2 ∷ 3 ∷ 0 ∷ [];
}

abbrev pub abs_case : Case
abs_case = one_thread a_name (codes "abs") (negsuc 2 ∷ []) 22

abbrev pub abs_plan : RunPlan
abs_plan = record { cases = abs_case ∷ [] }

abbrev pub abs_hits : List Bool
abs_hits = true ∷ false ∷ []

-- what the law asks of a program, its twin, a run plan and its hits
pub record MeetsPremises (before after : Program) (plan : RunPlan) (hits : List (List Bool)) : Type 0 where
  pub twin : TwinProgram before after
  pub marks : Entry → Marks
  pub are : AreMarks before after marks
  pub entries : HaveEntries before plan
  pub hits_are : TellHits (IsHit after plan) hits
  pub ends : AllEndWell before after marks plan

-- ---- M: div behind the prelude and the probe of its return

abbrev pub probed_div : Body
probed_div = method m_name (codes "div") (codes "(II)I") 2 5 3
    (prelude 2 ++ insns.Local opcode.iload 0 ∷ insns.Local opcode.iload 1 ∷ insns.Simple opcode.idiv ∷ (probe 2 0 ++ insns.Simple opcode.ireturn ∷ []))
    [] (init_use m_name ∷ [])

abbrev pub probed_div_program : Program
probed_div_program = program (probed_class m_name 5 (pos 5) 1 (probed_div ∷ []) [] ∷ [])

abbrev pub div_marks : Entry → Marks
div_marks method = record {
  at = 0 ∷ 0 ∷ 0 ∷ 1 ∷ 2 ∷ 3 ∷ 3 ∷ 3 ∷ 3 ∷ 3 ∷ [];
  own = false ∷ false ∷ true ∷ true ∷ true ∷ false ∷ false ∷ false ∷ false ∷ true ∷ [];
  extra = 0 ∷ 1 ∷ 0 ∷ 0 ∷ 0 ∷ 0 ∷ 1 ∷ 2 ∷ 3 ∷ 0 ∷ [];
}

-- 1 / 0
abbrev pub div_case : Case
div_case = one_thread m_name (codes "div") (pos 1 ∷ pos 0 ∷ []) 20

-- ---- C: inc, stopped behind its probe

abbrev pub stopped_inc : ℕ → Case
stopped_inc turns = case (inc_thread ∷ []) (schedules.Robin turns)

-- ---- R: r of 1, which calls itself once

abbrev pub r_marks : Entry → Marks
r_marks method = record {
  at = 0 ∷ 0 ∷ 0 ∷ 1 ∷ 6 ∷ 6 ∷ 6 ∷ 6 ∷ 6 ∷ 2 ∷ 3 ∷ 4 ∷ 5 ∷ 6 ∷ 6 ∷ 6 ∷ 6 ∷ 6 ∷ 6 ∷ 6 ∷ 6 ∷ 6 ∷ [];
  own = false ∷ false ∷ true ∷ true ∷ false ∷ false ∷ false ∷ false ∷ false ∷ true ∷ true ∷ true ∷ true ∷ false ∷ false ∷ false ∷ false ∷ false
      ∷ false ∷ false ∷ false ∷ true ∷ [];
  extra = 0 ∷ 1 ∷ 0 ∷ 0 ∷ 0 ∷ 1 ∷ 2 ∷ 3 ∷ 0 ∷ 0 ∷ 0 ∷ 0 ∷ 0 ∷ 0 ∷ 1 ∷ 2 ∷ 3 ∷ 0 ∷ 1 ∷ 2 ∷ 3 ∷ 0 ∷ [];
}

abbrev pub r_case : ℕ → Case
r_case turns = one_thread r_name (codes "r") (pos 1 ∷ []) turns
