-- Programs as worked examples, and their instrumented forms.
use Rattle.std.specs.Prelude.{ℕ, ℤ, ◌+◌, pos, negsuc, false, List, [], ◌∷◌, ◌++◌, Some, None, codes}
use Rattle.jc_methods.specs.declared.insn.Insn.{Insn}
use Rattle.jc_methods.specs.declared.insn.Arm.{Arm}
use Rattle.jc_methods.specs.declared.body.Handler.{Handler}
use Rattle.jc_methods.specs.declared.insn.Insn.TheVariants as insns
use Rattle.jc_methods.specs.declared.kind.Kind.{Kind}
use Rattle.jc_methods.specs.declared.kind.Kind.TheVariants as kinds
use Rattle.jc_methods.specs.declared.body.FrameAt.{FrameAt}
use Rattle.jc_methods.specs.declared.body.Use.{Use}
use Rattle.jc_methods.specs.declared.body.What.{What}
use Rattle.jc_methods.specs.declared.body.What.TheVariants as whats
use Rattle.jc_methods.specs.declared.body.Body.{Body}
use Rattle.jc_methods.specs.Opcode as opcode
use Rattle.jc_programs.specs.declared.program.Program.{Program}
use Rattle.jc_programs.specs.declared.program.Linked.{Linked}
use Rattle.jc_programs.specs.declared.program.StaticField.{StaticField}
use Rattle.jc_programs.specs.declared.run_plan.ThreadLine.{ThreadLine}
use Rattle.jc_programs.specs.declared.run_plan.Schedule.{Schedule}
use Rattle.jc_programs.specs.declared.run_plan.Schedule.TheVariants as schedules
use Rattle.jc_programs.specs.declared.run_plan.Case.{Case}
use Rattle.jc_machine_model.specs.World.{Hit}

-- ---- parts

abbrev pub frame : ℕ → List Kind → List Kind → FrameAt
frame at locals stack = record { at = at; state = record { locals = locals; stack = stack } }

abbrev pub use_at : ℕ → What → Use
use_at place what = record { place = place; what = what }

-- a static method
abbrev pub method : List ℕ → List ℕ → List ℕ → ℕ → ℕ → ℕ → List Insn → List FrameAt → List Use → Body
method owner name desc arg_slots max_stack max_locals code frames uses = record {
  method = 0;
  owner = owner;
  name = name;
  desc = desc;
  flags = 0x0009;
  arg_slots = arg_slots;
  max_stack = max_stack;
  max_locals = max_locals;
  code = code;
  handlers = [];
  lines = [];
  vars = [];
  kind_vars = [];
  frames = frames;
  uses = uses;
}

abbrev pub static_field : List ℕ → List ℕ → ℤ → StaticField
static_field name desc first = record { name = name; desc = desc; first = first }

-- a class without probes
abbrev pub class : List ℕ → List Body → List StaticField → Linked
class name bodies statics = record { name = name; version = 52; bodies = bodies; statics = statics; has_clinit = false; probes = None }

abbrev pub program : List Linked → Program
program classes = record { classes = classes; names = codes "[Z" ∷ [] }

abbrev pub thread : List ℕ → List ℕ → List ℤ → ThreadLine
thread class method args = record { class = class; method = method; args = args; line = 2 }

abbrev pub case : List ThreadLine → Schedule → Case
case threads schedule = record { threads = threads; schedule = schedule }

-- one thread, and so many turns
abbrev pub one_thread : List ℕ → List ℕ → List ℤ → ℕ → Case
one_thread class method args turns = case (thread class method args ∷ []) (schedules.Robin turns)

abbrev pub hit : ℕ → ℕ → Hit
hit class id = record { class = class; id = id }

-- ---- probes

-- what a `$jacocoInit` uses, at these places
abbrev pub init_uses : List ℕ → ℤ → List Use
init_uses name id =
    use_at 90 (whats.Field name (codes "$jacocoData") (codes "[Z"))
    ∷ use_at 91 (whats.Long id)
    ∷ use_at 93 whats.Text
    ∷ use_at 94 (whats.Method (codes "org/jacoco/agent/rt/internal/Offline") (codes "getProbes") (codes "(JLjava/lang/String;I)[Z"))
    ∷ []

-- `$jacocoInit` of a class with this name, and few probes
abbrev pub init : List ℕ → ℤ → ℕ → Body
init name id count = record (method name (codes "$jacocoInit") (codes "()[Z") 0 4 0
    (insns.Member opcode.getstatic 90 ∷ insns.Simple opcode.dup ∷ insns.Jump opcode.ifnonnull 10 ∷ insns.Simple opcode.pop ∷ insns.Constant2 91
    ∷ insns.Constant 93
    ∷ insns.Simple (opcode.iconst_0 + count) ∷ insns.Member opcode.invokestatic 94 ∷ insns.Simple opcode.dup ∷ insns.Member opcode.putstatic 90
    ∷ insns.Simple opcode.areturn ∷ [])
    (frame 10 [] (kinds.Object 0 ∷ []) ∷ [])
    (init_uses name id)) { flags = 0x100a }

abbrev pub init_use : List ℕ → Use
init_use name = use_at 95 (whats.Method name (codes "$jacocoInit") (codes "()[Z"))

-- the instrumented form of a class with this id
abbrev pub probed_class : List ℕ → ℕ → ℤ → ℕ → List Body → List StaticField → Linked
probed_class name id id_value count bodies statics = record {
  name = name;
  version = 52;
  bodies = bodies ++ init name id_value count ∷ [];
  statics = statics ++ static_field (codes "$jacocoData") (codes "[Z") (pos 0) ∷ [];
  has_clinit = false;
  probes = Some (record { id = id; count = count; bootstrap = None });
}

-- a probe: the array in this slot, a small id
abbrev pub probe : ℕ → ℕ → List Insn
probe slot id = insns.Local opcode.aload slot ∷ insns.Simple (opcode.iconst_0 + id) ∷ insns.Simple opcode.iconst_1 ∷ insns.Simple opcode.bastore ∷ []

-- the prelude: the array goes into this slot
abbrev pub prelude : ℕ → List Insn
prelude slot = insns.Member opcode.invokestatic 95 ∷ insns.Local opcode.astore slot ∷ []

-- ---- A: abs (I)I: iload_0, ifge L, iload_0, ineg, ireturn, L: iload_0, ireturn

abbrev pub a_name : List ℕ
a_name = codes "A"

abbrev pub abs : Body
abs = method a_name (codes "abs") (codes "(I)I") 1 1 1
    (insns.Local opcode.iload 0 ∷ insns.Jump opcode.ifge 5 ∷ insns.Local opcode.iload 0 ∷ insns.Simple opcode.ineg ∷ insns.Simple opcode.ireturn
    ∷ insns.Local opcode.iload 0 ∷ insns.Simple opcode.ireturn ∷ [])
    (frame 5 (kinds.Int ∷ []) [] ∷ []) []

abbrev pub abs_program : Program
abs_program = program (class a_name (abs ∷ []) [] ∷ [])

abbrev pub probed_abs : Body
probed_abs = method a_name (codes "abs") (codes "(I)I") 1 4 2
    (prelude 1
    ++ insns.Local opcode.iload 0 ∷ insns.Jump opcode.ifge 11 ∷ insns.Local opcode.iload 0 ∷ insns.Simple opcode.ineg
    ∷ (probe 1 0 ++ insns.Simple opcode.ireturn ∷ insns.Local opcode.iload 0 ∷ (probe 1 1 ++ insns.Simple opcode.ireturn ∷ [])))
    (frame 11 (kinds.Int ∷ kinds.Object 0 ∷ []) [] ∷ []) (init_use a_name ∷ [])

abbrev pub probed_abs_program : Program
probed_abs_program = program (probed_class a_name 7 (pos 7) 2 (probed_abs ∷ []) [] ∷ [])

-- ---- C: inc ()V adds 1 to the static field x: getstatic x, iconst_1, iadd, putstatic x, return

abbrev pub c_name : List ℕ
c_name = codes "C"

abbrev pub x_use : Use
x_use = use_at 1 (whats.Field c_name (codes "x") (codes "I"))

abbrev pub x_field : StaticField
x_field = static_field (codes "x") (codes "I") (pos 0)

abbrev pub inc_code : List Insn
inc_code = insns.Member opcode.getstatic 1 ∷ insns.Simple opcode.iconst_1 ∷ insns.Simple opcode.iadd ∷ insns.Member opcode.putstatic 1 ∷ []

abbrev pub inc : Body
inc = method c_name (codes "inc") (codes "()V") 0 2 0 (inc_code ++ insns.Simple opcode.return ∷ []) [] (x_use ∷ [])

abbrev pub inc_program : Program
inc_program = program (class c_name (inc ∷ []) (x_field ∷ []) ∷ [])

abbrev pub probed_inc : Body
probed_inc = method c_name (codes "inc") (codes "()V") 0 5 1
    (prelude 0 ++ (inc_code ++ (probe 0 0 ++ insns.Simple opcode.return ∷ []))) [] (init_use c_name ∷ x_use ∷ [])

abbrev pub probed_inc_program : Program
probed_inc_program = program (probed_class c_name 9 (pos 9) 1 (probed_inc ∷ []) (x_field ∷ []) ∷ [])

abbrev pub inc_thread : ThreadLine
inc_thread = thread c_name (codes "inc") []

-- ---- R: r (I)V calls itself with one less, unless its argument is 0: iload_0, ifeq L, iload_0, iconst_1, isub, invokestatic r, L: return

abbrev pub r_name : List ℕ
r_name = codes "R"

abbrev pub r_method : Body
r_method = method r_name (codes "r") (codes "(I)V") 1 2 1
    (insns.Local opcode.iload 0 ∷ insns.Jump opcode.ifeq 6 ∷ insns.Local opcode.iload 0 ∷ insns.Simple opcode.iconst_1 ∷ insns.Simple opcode.isub
    ∷ insns.Member opcode.invokestatic 1 ∷ insns.Simple opcode.return ∷ [])
    (frame 6 (kinds.Int ∷ []) [] ∷ [])
    (use_at 1 (whats.Method r_name (codes "r") (codes "(I)V")) ∷ [])

abbrev pub r_program : Program
r_program = program (class r_name (r_method ∷ []) [] ∷ [])

-- the jump and the two branches into the return have probes: the jump's 0, the return's 2; that of the fall-through is 1
abbrev pub probed_r_method : Body
probed_r_method = method r_name (codes "r") (codes "(I)V") 1 5 2
    (prelude 1
    ++ insns.Local opcode.iload 0 ∷ insns.Jump opcode.ifne 9 ∷ (probe 1 0
    ++ insns.Jump opcode.goto 17 ∷ insns.Local opcode.iload 0 ∷ insns.Simple opcode.iconst_1 ∷ insns.Simple opcode.isub
    ∷ insns.Member opcode.invokestatic 1 ∷ (probe 1 1
    ++ (probe 1 2 ++ insns.Simple opcode.return ∷ []))))
    (frame 9 (kinds.Int ∷ kinds.Object 0 ∷ []) [] ∷ frame 17 (kinds.Int ∷ kinds.Object 0 ∷ []) [] ∷ [])
    (init_use r_name ∷ use_at 1 (whats.Method r_name (codes "r") (codes "(I)V")) ∷ [])

abbrev pub probed_r_program : Program
probed_r_program = program (probed_class r_name 11 (pos 11) 3 (probed_r_method ∷ []) [] ∷ [])

-- ---- M: div (II)I: iload_0, iload_1, idiv, ireturn

abbrev pub m_name : List ℕ
m_name = codes "M"

abbrev pub div : Body
div =
    method m_name (codes "div") (codes "(II)I") 2 2 2 (insns.Local opcode.iload 0 ∷ insns.Local opcode.iload 1 ∷ insns.Simple opcode.idiv
    ∷ insns.Simple opcode.ireturn ∷ []) [] []

abbrev pub div_program : Program
div_program = program (class m_name (div ∷ []) [] ∷ [])

-- ---- G: f (I)I makes an array and gives its length: iload_0, newarray int, arraylength, ireturn

abbrev pub g_name : List ℕ
g_name = codes "G"

abbrev pub measure : Body
measure =
    method g_name (codes "f") (codes "(I)I") 1 1 1 (insns.Local opcode.iload 0 ∷ insns.NewArray 10 ∷ insns.Simple opcode.arraylength
    ∷ insns.Simple opcode.ireturn ∷ []) [] []

-- h ()V stores 5 at element 0 of a new array of 2: iconst_2, newarray int, iconst_0, iconst_5, iastore, return.

abbrev pub store_five : Body
store_five = method g_name (codes "h") (codes "()V") 0 3 0
    (insns.Simple opcode.iconst_2 ∷ insns.NewArray 10 ∷ insns.Simple opcode.iconst_0 ∷ insns.Simple opcode.iconst_5 ∷ insns.Simple opcode.iastore
    ∷ insns.Simple opcode.return ∷ []) [] []

-- g ()I gives element 0 of such an array: iconst_2, newarray int, iconst_0, iaload, ireturn
abbrev pub load_first : Body
load_first = method g_name (codes "g") (codes "()I") 0 2 0
    (insns.Simple opcode.iconst_2 ∷ insns.NewArray 10 ∷ insns.Simple opcode.iconst_0 ∷ insns.Simple opcode.iaload ∷ insns.Simple opcode.ireturn
    ∷ []) [] []

abbrev pub g_program : Program
g_program = program (class g_name (measure ∷ store_five ∷ load_first ∷ []) [] ∷ [])

-- ---- A: f (I)V counts down: L: iload_0, ifeq M, iinc 0 -1, goto L, M: return; its goto has probe 0, its return probe 1

abbrev pub probed_countdown : Body
probed_countdown = method a_name (codes "f") (codes "(I)V") 1 4 2
    (prelude 1
    ++ insns.Local opcode.iload 0 ∷ insns.Jump opcode.ifeq 10 ∷ insns.Inc 0 (negsuc 0) ∷ (probe 1 0
    ++ insns.Jump opcode.goto 2 ∷ (probe 1 1
    ++ insns.Simple opcode.return ∷ [])))
    (frame 2 (kinds.Int ∷ kinds.Object 0 ∷ []) [] ∷ frame 10 (kinds.Int ∷ kinds.Object 0 ∷ []) [] ∷ []) (init_use a_name ∷ [])

abbrev pub probed_countdown_program : Program
probed_countdown_program = program (probed_class a_name 7 (pos 7) 2 (probed_countdown ∷ []) [] ∷ [])

-- ---- A: f (I)V jumps to the next instruction: iload_0, ifeq M, M: return; the jump has probe 0, the sequence 1, the return 2

abbrev pub probed_either_way : Body
probed_either_way = method a_name (codes "f") (codes "(I)V") 1 4 2
    (prelude 1
    ++ insns.Local opcode.iload 0 ∷ insns.Jump opcode.ifne 9 ∷ (probe 1 0
    ++ insns.Jump opcode.goto 13 ∷ (probe 1 1
    ++ (probe 1 2
    ++ insns.Simple opcode.return ∷ []))))
    (frame 9 (kinds.Int ∷ kinds.Object 0 ∷ []) [] ∷ frame 13 (kinds.Int ∷ kinds.Object 0 ∷ []) [] ∷ []) (init_use a_name ∷ [])

abbrev pub probed_either_way_program : Program
probed_either_way_program = program (probed_class a_name 7 (pos 7) 3 (probed_either_way ∷ []) [] ∷ [])

-- ---- A: f (I)I: iload_0, iflt K, iload_0, lookupswitch 1: K, 2: K, 3: L, default L, K: iconst_1, ireturn, L: iconst_0, ireturn; the
-- jump has probe 0, the two arms to K probe 1, the returns 2 and 3

abbrev pub arm : ℤ → ℕ → Arm
arm key to = record { key = key; to = to }

abbrev pub probed_choice : Body
probed_choice = method a_name (codes "f") (codes "(I)I") 1 4 2
    (prelude 1
    ++ insns.Local opcode.iload 0 ∷ insns.Jump opcode.ifge 9 ∷ (probe 1 0
    ++ insns.Jump opcode.goto 16 ∷ insns.Local opcode.iload 0 ∷ insns.Lookup 22 (arm (pos 1) 11 ∷ arm (pos 2) 11 ∷ arm (pos 3) 22 ∷ []) ∷ (probe 1 1
    ++ insns.Jump opcode.goto 16 ∷ insns.Simple opcode.iconst_1 ∷ (probe 1 2
    ++ insns.Simple opcode.ireturn ∷ insns.Simple opcode.iconst_0 ∷ (probe 1 3
    ++ insns.Simple opcode.ireturn ∷ [])))))
    (frame 9 (kinds.Int ∷ kinds.Object 0 ∷ []) [] ∷ frame 11 (kinds.Int ∷ kinds.Object 0 ∷ []) []
    ∷ frame 16 (kinds.Int ∷ kinds.Object 0 ∷ []) [] ∷ frame 22 (kinds.Int ∷ kinds.Object 0 ∷ []) [] ∷ []) (init_use a_name ∷ [])

abbrev pub probed_choice_program : Program
probed_choice_program = program (probed_class a_name 7 (pos 7) 4 (probed_choice ∷ []) [] ∷ [])

-- ---- A: f (I)I catches: iconst_0, istore_1, S: iconst_1, iload_0, idiv, ireturn, H: pop, iload_1, ireturn, with two rows from S to H; the
-- sequence into S has probe 0, the returns 1 and 2

abbrev pub handler_row : ℕ → ℕ → ℕ → ℕ → Handler
handler_row start end target class = record { start = start; end = end; target = target; class = class }

abbrev pub exception_uses : List Use
exception_uses =
    use_at 2 (whats.Class (codes "java/lang/ArithmeticException")) ∷ use_at 3 (whats.Class (codes "java/lang/RuntimeException")) ∷ []

abbrev pub catches : Body
catches = record (method a_name (codes "f") (codes "(I)I") 1 2 2
    (insns.Simple opcode.iconst_0 ∷ insns.Local opcode.istore 1 ∷ insns.Simple opcode.iconst_1 ∷ insns.Local opcode.iload 0
    ∷ insns.Simple opcode.idiv ∷ insns.Simple opcode.ireturn ∷ insns.Simple opcode.pop ∷ insns.Local opcode.iload 1
    ∷ insns.Simple opcode.ireturn ∷ [])
    (frame 6 (kinds.Int ∷ kinds.Int ∷ []) (kinds.Object 1 ∷ []) ∷ []) exception_uses) { handlers = handler_row 2 6 6 2 ∷ handler_row 2 6 6 3 ∷ [] }

abbrev pub catches_program : Program
catches_program = record (program (class a_name (catches ∷ []) [] ∷ [])) { names = codes "[Z" ∷ codes "java/lang/RuntimeException" ∷ [] }

abbrev pub probed_catches : Body
probed_catches = record (method a_name (codes "f") (codes "(I)I") 1 5 3
    (prelude 1
    ++ insns.Simple opcode.iconst_0 ∷ insns.Local opcode.istore 2 ∷ (probe 1 0
    ++ insns.Simple opcode.iconst_1 ∷ insns.Local opcode.iload 0 ∷ insns.Simple opcode.idiv ∷ (probe 1 1
    ++ insns.Simple opcode.ireturn ∷ insns.Simple opcode.pop ∷ insns.Local opcode.iload 2 ∷ (probe 1 2
    ++ insns.Simple opcode.ireturn ∷ []))))
    (frame 16 (kinds.Int ∷ kinds.Object 0 ∷ kinds.Int ∷ []) (kinds.Object 1 ∷ []) ∷ []) (init_use a_name ∷ exception_uses))
    { handlers = handler_row 4 16 16 2 ∷ handler_row 4 16 16 3 ∷ [] }

abbrev pub probed_catches_program : Program
probed_catches_program =
    record (program (probed_class a_name 7 (pos 7) 3 (probed_catches ∷ []) [] ∷ [])) { names = codes "[Z" ∷ codes "java/lang/RuntimeException" ∷ [] }

-- ---- W: w ()V with a frame that has Top on its stack, where a long lies: lconst_0, iconst_0, pop, return

abbrev pub w_name : List ℕ
w_name = codes "W"

abbrev pub wide : Body
wide =
    method w_name (codes "w") (codes "()V") 0 2 0 (insns.Simple opcode.lconst_0 ∷ insns.Simple opcode.iconst_0 ∷ insns.Simple opcode.pop
    ∷ insns.Simple opcode.return ∷ []) (frame 1 [] (kinds.Top ∷ []) ∷ []) []

abbrev pub wide_program : Program
wide_program = program (class w_name (wide ∷ []) [] ∷ [])
