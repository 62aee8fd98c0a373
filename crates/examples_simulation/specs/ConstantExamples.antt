-- A class that gets its probe array by a constant, beside the same class without its probes, made by hand: the class files that are
-- read are of older versions.
use Rattle.std.specs.Prelude.{pos, true, false, [], ◌∷◌, ◌++◌, Some, None, codes}
use Rattle.jc_methods.specs.declared.body.Body.{Body}
use Rattle.jc_methods.specs.declared.insn.Insn.TheVariants as insns
use Rattle.jc_methods.specs.declared.body.What.TheVariants as whats
use Rattle.jc_methods.specs.Opcode as opcode
use Rattle.jc_programs.specs.declared.program.Program.{Program}
use Rattle.jc_programs.specs.declared.program.Linked.{Linked}
use Rattle.jc_programs.specs.declared.run_end.Entry.{Entry}
use Rattle.jc_programs.specs.declared.run_plan.Schedule.TheVariants as schedules
use Rattle.jc_programs.specs.declared.run_plan.ThreadLine.{ThreadLine}
use Rattle.jc_emit.specs.Marks.{Marks}
use Rattle.jc_machine_model.specs.World.{World}
use Rattle.jc_machine_model.specs.Begin.{begin_case}
use Rattle.examples_machine.specs.ProgramExamples.{use_at, method, class, probed_class, program, probe, thread, case, a_name, abs, probed_abs, m_name, div}

-- ---- M: div (II)I, of a version whose classes get their array by a constant

abbrev pub newer_class : Linked
newer_class = record { name = m_name; version = 66; bodies = div ∷ []; statics = []; has_clinit = false; probes = None }

-- ldc of the constant, checkcast [Z, astore 2, iload_0, iload_1, idiv, the probe of the return, ireturn
abbrev pub newer_div : Body
newer_div = method m_name (codes "div") (codes "(II)I") 2 5 3
    (insns.Constant 95 ∷ insns.OfClass opcode.checkcast 96 ∷ insns.Local opcode.astore 2
    ∷ insns.Local opcode.iload 0 ∷ insns.Local opcode.iload 1 ∷ insns.Simple opcode.idiv ∷ (probe 2 0 ++ insns.Simple opcode.ireturn ∷ []))
    [] (use_at 95 (whats.Computed (codes "$jacocoData") (codes "Ljava/lang/Object;") 0) ∷ use_at 96 (whats.Class (codes "[Z")) ∷ [])

-- the bootstrap method, which no thread of the machine enters
abbrev pub newer_bootstrap : Body
newer_bootstrap = record (method m_name (codes "$jacocoInit") (codes "(Ljava/lang/invoke/MethodHandles$Lookup;Ljava/lang/String;Ljava/lang/Class;)[Z") 3 4 3
    (insns.Constant2 91 ∷ insns.Constant 93 ∷ insns.Simple opcode.iconst_1 ∷ insns.Member opcode.invokestatic 94 ∷ insns.Simple opcode.areturn ∷ [])
    []
    (use_at 91 (whats.Long (pos 5)) ∷ use_at 93 whats.Text
    ∷ use_at 94 (whats.Method (codes "org/jacoco/agent/rt/internal/Offline") (codes "getProbes") (codes "(JLjava/lang/String;I)[Z")) ∷ [])) { flags = 0x100a }

abbrev pub probed_newer_class : Linked
probed_newer_class = record {
  name = m_name;
  version = 66;
  bodies = newer_div ∷ newer_bootstrap ∷ [];
  statics = [];
  has_clinit = false;
  probes = Some (record { id = 5; count = 1; bootstrap = Some 0 });
}

abbrev pub probed_newer_program : Program
probed_newer_program = program (probed_newer_class ∷ [])

abbrev pub newer_marks : Entry → Marks
newer_marks method = record {
  at = 0 ∷ 0 ∷ 0 ∷ 0 ∷ 1 ∷ 2 ∷ 3 ∷ 3 ∷ 3 ∷ 3 ∷ 3 ∷ [];
  own = false ∷ false ∷ false ∷ true ∷ true ∷ true ∷ false ∷ false ∷ false ∷ false ∷ true ∷ [];
  extra = 0 ∷ 1 ∷ 1 ∷ 0 ∷ 0 ∷ 0 ∷ 0 ∷ 1 ∷ 2 ∷ 3 ∷ 0 ∷ [];
}

-- 6 / 3
abbrev pub newer_thread : ThreadLine
newer_thread = thread m_name (codes "div") (pos 6 ∷ pos 3 ∷ [])

-- one thread, and two
abbrev pub newer_begun : World
newer_begun = begin_case probed_newer_program (case (newer_thread ∷ []) (schedules.Robin 11))

abbrev pub newer_begun_twice : World
newer_begun_twice = begin_case probed_newer_program (case (newer_thread ∷ newer_thread ∷ []) (schedules.Robin 22))

-- ---- both ways in one program

abbrev pub mixed_program : Program
mixed_program = program (class a_name (abs ∷ []) [] ∷ newer_class ∷ [])

abbrev pub probed_mixed_program : Program
probed_mixed_program = program (probed_class a_name 7 (pos 7) 2 (probed_abs ∷ []) [] ∷ probed_newer_class ∷ [])
