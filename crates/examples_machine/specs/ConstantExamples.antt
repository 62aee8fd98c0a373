-- Programs by hand of classes that get their arrays by a constant, alone and beside a class that gets its array by its method.
use Rattle.std.specs.Prelude.{ℕ, ℤ, ◌+◌, pos, false, List, [], ◌∷◌, ◌++◌, Option, Some, codes}
use Rattle.jc_methods.specs.declared.insn.Insn.{Insn}
use Rattle.jc_methods.specs.declared.insn.Insn.TheVariants as insns
use Rattle.jc_methods.specs.declared.kind.Kind.TheVariants as kinds
use Rattle.jc_methods.specs.declared.body.FrameAt.{FrameAt}
use Rattle.jc_methods.specs.declared.body.Use.{Use}
use Rattle.jc_methods.specs.declared.body.What.TheVariants as whats
use Rattle.jc_methods.specs.declared.body.Body.{Body}
use Rattle.jc_methods.specs.Opcode as opcode
use Rattle.jc_programs.specs.declared.program.Program.{Program}
use Rattle.jc_programs.specs.declared.program.Linked.{Linked}
use Rattle.jc_programs.specs.declared.program.StaticField.{StaticField}
use Rattle.examples_machine.specs.ProgramExamples.{frame, use_at, method, static_field, program, init, probed_class, init_use, prelude, probe}
use Rattle.examples_machine.specs.ProgramExamples.{a_name, c_name, x_use, x_field, inc_code}

-- ---- parts

-- a version whose classes get their arrays by a constant
abbrev pub constant_version : ℕ
constant_version = 66

-- the constant by the bootstrap method with this number, and the class of the array
abbrev pub constant_uses : ℕ → List Use
constant_uses bootstrap =
    use_at 96 (whats.Computed (codes "$jacocoData") (codes "Ljava/lang/Object;") bootstrap) ∷ use_at 97 (whats.Class (codes "[Z")) ∷ []

-- the prelude: the array goes into this slot
abbrev pub constant_prelude : ℕ → List Insn
constant_prelude slot = insns.Constant 96 ∷ insns.OfClass opcode.checkcast 97 ∷ insns.Local opcode.astore slot ∷ []

-- the bootstrap method of a class with this name, and few probes
abbrev pub bootstrap_method : List ℕ → ℤ → ℕ → Body
bootstrap_method name id count = record (method name (codes "$jacocoInit")
    (codes "(Ljava/lang/invoke/MethodHandles$Lookup;Ljava/lang/String;Ljava/lang/Class;)[Z") 3 4 3
    (insns.Constant2 91 ∷ insns.Constant 93 ∷ insns.Simple (opcode.iconst_0 + count) ∷ insns.Member opcode.invokestatic 94 ∷ insns.Simple opcode.areturn ∷ [])
    []
    (use_at 91 (whats.Long id) ∷ use_at 93 whats.Text
    ∷ use_at 94 (whats.Method (codes "org/jacoco/agent/rt/internal/Offline") (codes "getProbes") (codes "(JLjava/lang/String;I)[Z")) ∷ []))
    { flags = 0x100a }

-- a class by constant with these bodies alone, of which the last bootstrap method has this number
abbrev pub class_by : List ℕ → ℕ → ℕ → Option ℕ → List Body → List StaticField → Linked
class_by name id count bootstrap bodies statics = record {
  name = name;
  version = constant_version;
  bodies = bodies;
  statics = statics;
  has_clinit = false;
  probes = Some (record { id = id; count = count; bootstrap = bootstrap });
}

-- the instrumented form of a class with this id, whose one bootstrap method is the one that was added
abbrev pub constant_class : List ℕ → ℕ → ℤ → ℕ → List Body → List StaticField → Linked
constant_class name id id_value count bodies statics =
    class_by name id count (Some 0) (bodies ++ bootstrap_method name id_value count ∷ []) statics

-- ---- the absolute value, by constant

abbrev pub constant_abs : Body
constant_abs = method a_name (codes "abs") (codes "(I)I") 1 4 2
    (constant_prelude 1
    ++ insns.Local opcode.iload 0 ∷ insns.Jump opcode.ifge 12 ∷ insns.Local opcode.iload 0 ∷ insns.Simple opcode.ineg
    ∷ (probe 1 0 ++ insns.Simple opcode.ireturn ∷ insns.Local opcode.iload 0 ∷ (probe 1 1 ++ insns.Simple opcode.ireturn ∷ [])))
    (frame 12 (kinds.Int ∷ kinds.Object 0 ∷ []) [] ∷ []) (constant_uses 0)

abbrev pub constant_abs_program : Program
constant_abs_program = program (constant_class a_name 7 (pos 7) 2 (constant_abs ∷ []) [] ∷ [])

-- the constant of another bootstrap method, and a class that doesn't declare the method of the constant
abbrev pub other_bootstrap_program : Program
other_bootstrap_program = program (class_by a_name 7 2 (Some 1) (constant_abs ∷ bootstrap_method a_name (pos 7) 2 ∷ []) [] ∷ [])

abbrev pub no_bootstrap_program : Program
no_bootstrap_program = program (class_by a_name 7 2 (Some 0) (constant_abs ∷ []) [] ∷ [])

-- ---- two threads that add 1, by constant

abbrev pub constant_inc : Body
constant_inc = method c_name (codes "inc") (codes "()V") 0 5 1
    (constant_prelude 0 ++ (inc_code ++ (probe 0 0 ++ insns.Simple opcode.return ∷ []))) [] (constant_uses 0 ++ x_use ∷ [])

abbrev pub constant_inc_program : Program
constant_inc_program = program (constant_class c_name 9 (pos 9) 1 (constant_inc ∷ []) (x_field ∷ []) ∷ [])

-- ---- D, by constant, and E, by its method, call one another: d calls e, and e calls k, which gives 3

abbrev pub d_name : List ℕ
d_name = codes "D"

abbrev pub e_name : List ℕ
e_name = codes "E"

-- a method that returns what another one gives
abbrev pub gives_code : List Insn → List Insn
gives_code front = front ++ insns.Member opcode.invokestatic 1 ∷ (probe 0 0 ++ insns.Simple opcode.ireturn ∷ [])

abbrev pub d_method : Body
d_method = method d_name (codes "d") (codes "()I") 0 4 1 (gives_code (constant_prelude 0)) []
    (constant_uses 0 ++ use_at 1 (whats.Method e_name (codes "e") (codes "()I")) ∷ [])

abbrev pub k_method : Body
k_method = method d_name (codes "k") (codes "()I") 0 4 1
    (constant_prelude 0 ++ insns.Simple (opcode.iconst_0 + 3) ∷ (probe 0 1 ++ insns.Simple opcode.ireturn ∷ [])) [] (constant_uses 0)

abbrev pub e_method : Body
e_method = method e_name (codes "e") (codes "()I") 0 4 1 (gives_code (prelude 0)) []
    (init_use e_name ∷ use_at 1 (whats.Method d_name (codes "k") (codes "()I")) ∷ [])

abbrev pub both_ways_program : Program
both_ways_program = program (constant_class d_name 5 (pos 5) 2 (d_method ∷ k_method ∷ []) []
    ∷ probed_class e_name 6 (pos 6) 1 (e_method ∷ []) [] ∷ [])

-- ---- checkcast and calls elsewhere

-- a class by constant of one method f with this code
abbrev pub of_code : List Insn → List FrameAt → Program
of_code code frames = program (constant_class a_name 7 (pos 7) 1
    (method a_name (codes "f") (codes "()V") 0 4 2 code frames
    (constant_uses 0) ∷ []) [] ∷ [])

-- null behind no fetch
abbrev pub cast_null_program : Program
cast_null_program = of_code (insns.Simple opcode.aconst_null ∷ insns.OfClass opcode.checkcast 97 ∷ insns.Simple opcode.pop ∷ insns.Simple opcode.return ∷ []) []

-- the array, once more behind the prelude
abbrev pub cast_later_program : Program
cast_later_program = of_code (constant_prelude 0 ++ insns.Local opcode.aload 0 ∷ insns.OfClass opcode.checkcast 97 ∷ insns.Simple opcode.pop
    ∷ insns.Simple opcode.return ∷ []) []

-- the constant, once more behind the prelude
abbrev pub fetch_later_program : Program
fetch_later_program = of_code (constant_prelude 0 ++ insns.Constant 96 ∷ insns.Simple opcode.pop ∷ insns.Simple opcode.return ∷ []) []

-- a jump to instruction 1 with this on the stack
abbrev pub cast_by_jump_program : Insn → Program
cast_by_jump_program pushes = of_code (constant_prelude 0 ++ pushes ∷ insns.Jump opcode.goto 1 ∷ [])
    (frame 1 (kinds.Top ∷ kinds.Top ∷ []) (kinds.Object 1 ∷ []) ∷ [])

-- a call of the method that other classes have for the array, which this one declares too
abbrev pub init_called_program : Program
init_called_program = program (class_by a_name 7 1 (Some 0)
    (method a_name (codes "f") (codes "()V") 0 4 2 (prelude 0 ++ insns.Simple opcode.return ∷ []) [] (init_use a_name ∷ []) ∷ init a_name (pos 7) 1 ∷ [])
    (static_field (codes "$jacocoData") (codes "[Z") (pos 0) ∷ []) ∷ [])
