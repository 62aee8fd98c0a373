-- Edges that turns take, as worked examples.
use Rattle.std.specs.Prelude.{ℕ, pos, negsuc, List, [], ◌∷◌, map, codes}
use Rattle.jc_methods.specs.declared.insn.Insn.TheVariants as insns
use Rattle.jc_methods.specs.declared.kind.Kind.TheVariants as kinds
use Rattle.jc_methods.specs.declared.body.Body.{Body}
use Rattle.jc_methods.specs.Opcode as opcode
use Rattle.jc_programs.specs.declared.program.Program.{Program}
use Rattle.jc_programs.specs.declared.run_plan.Case.{Case}
use Rattle.jc_programs.specs.Turns.{turns_in}
use Rattle.jc_plan.specs.ClassEdges.{ProgramEdge}
use Rattle.jc_machine_model.specs.Taken.{taken, reached}
use Rattle.examples_machine.specs.ProgramExamples.{frame, method, class, program}

-- an edge by numbers: of its class, its body, its instruction and its branch
pub record NumberedEdge : Type 0 where
  pub class : ℕ
  pub body : ℕ
  pub at : ℕ
  pub number : ℕ

abbrev pub numbered : ProgramEdge → NumberedEdge
numbered e = record { class = e.class; body = e.body; at = e.branch.at; number = e.branch.number }

-- the edges that the case takes, and those that it reaches
abbrev pub edges_taken : Program → Case → List NumberedEdge
edges_taken program case = map numbered (taken program case (turns_in case))

abbrev pub edges_reached : Program → Case → List NumberedEdge
edges_reached program case = map numbered (reached program case (turns_in case))

-- an edge of the first method of the first class
abbrev pub edge : ℕ → ℕ → NumberedEdge
edge at number = record { class = 0; body = 0; at = at; number = number }

-- f (I)V: L: iload_0, ifeq M, iinc 0 -1, goto L, M: return
abbrev pub countdown : Body
countdown = method (codes "A") (codes "f") (codes "(I)V") 1 1 1
    (insns.Local opcode.iload 0 ∷ insns.Jump opcode.ifeq 4 ∷ insns.Inc 0 (negsuc 0) ∷ insns.Jump opcode.goto 0 ∷ insns.Simple opcode.return ∷ [])
    (frame 0 (kinds.Int ∷ []) [] ∷ frame 4 (kinds.Int ∷ []) [] ∷ []) []

abbrev pub countdown_program : Program
countdown_program = program (class (codes "A") (countdown ∷ []) [] ∷ [])

-- f (I)V with a jump that leads to the next instruction: iload_0, ifeq M, M: return
abbrev pub either_way : Body
either_way = method (codes "A") (codes "f") (codes "(I)V") 1 1 1
    (insns.Local opcode.iload 0 ∷ insns.Jump opcode.ifeq 2 ∷ insns.Simple opcode.return ∷ []) (frame 2 (kinds.Int ∷ []) [] ∷ []) []

abbrev pub either_way_program : Program
either_way_program = program (class (codes "A") (either_way ∷ []) [] ∷ [])

-- f (I)I: iload_0, iflt L, iload_0, tableswitch 1 to 3: K K L, default L; K: iconst_1, ireturn; L: iconst_0, ireturn
abbrev pub choice : Body
choice = method (codes "A") (codes "f") (codes "(I)I") 1 1 1
    (insns.Local opcode.iload 0 ∷ insns.Jump opcode.iflt 6 ∷ insns.Local opcode.iload 0 ∷ insns.Table (pos 1) 6 (4 ∷ 4 ∷ 6 ∷ [])
    ∷ insns.Simple opcode.iconst_1 ∷ insns.Simple opcode.ireturn
    ∷ insns.Simple opcode.iconst_0 ∷ insns.Simple opcode.ireturn ∷ [])
    (frame 4 (kinds.Int ∷ []) [] ∷ frame 6 (kinds.Int ∷ []) [] ∷ []) []

abbrev pub choice_program : Program
choice_program = program (class (codes "A") (choice ∷ []) [] ∷ [])

-- f ()V: aconst_null, athrow
abbrev pub throwing : Body
throwing = method (codes "A") (codes "f") (codes "()V") 0 1 0 (insns.Simple opcode.aconst_null ∷ insns.Simple opcode.athrow ∷ []) [] []

abbrev pub throwing_program : Program
throwing_program = program (class (codes "A") (throwing ∷ []) [] ∷ [])
