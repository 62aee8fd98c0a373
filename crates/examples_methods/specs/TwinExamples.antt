-- Twins that were worked by hand from the JVM Specification, chapter 6, and JaCoCo's documentation on control flow.
use Rattle.std.specs.Prelude.{ℕ, ℤ, Bool, true, false, pos, negsuc, List, [], ◌∷◌, map, nat_eq}
use Rattle.jc_methods.specs.Opcode as opcode
use Rattle.jc_methods.specs.declared.insn.Arm.{Arm}
use Rattle.jc_methods.specs.declared.insn.Insn.{Insn}
use Rattle.jc_methods.specs.declared.insn.Insn.TheVariants as insns
use Rattle.jc_methods.specs.declared.kind.Kind.{Kind}
use Rattle.jc_methods.specs.declared.kind.Kind.TheVariants as kinds
use Rattle.jc_methods.specs.declared.kind.State.{State}
use Rattle.jc_methods.specs.declared.body.FrameAt.{FrameAt}
use Rattle.jc_methods.specs.declared.body.Handler.{Handler}
use Rattle.jc_methods.specs.declared.body.LineAt.{LineAt}
use Rattle.jc_methods.specs.declared.body.VarAt.{VarAt}
use Rattle.jc_methods.specs.declared.body.Body.{Body}
use Rattle.jc_methods.specs.declared.probe_members.Fetch.TheVariants as fetches
use Rattle.jc_methods.specs.Widened.{WideSet, all_wide}
use Rattle.jc_emit.specs.Marks.{unplaced}
use Rattle.jc_emit.specs.Sizes.{TwinForm}
use Rattle.jc_emit.specs.Items.{insn_of, twin_items}
use Rattle.jc_emit.specs.Emission.{Emitting}

-- ---- instructions

abbrev pub iconst_0 : Insn
iconst_0 = insns.Simple opcode.iconst_0

abbrev pub iconst_1 : Insn
iconst_1 = insns.Simple opcode.iconst_1

abbrev pub iconst_2 : Insn
iconst_2 = insns.Simple opcode.iconst_2

abbrev pub iconst_3 : Insn
iconst_3 = insns.Simple opcode.iconst_3

abbrev pub bastore : Insn
bastore = insns.Simple opcode.bastore

abbrev pub pop : Insn
pop = insns.Simple opcode.pop

abbrev pub idiv : Insn
idiv = insns.Simple opcode.idiv

abbrev pub ineg : Insn
ineg = insns.Simple opcode.ineg

abbrev pub ireturn : Insn
ireturn = insns.Simple opcode.ireturn

abbrev pub return : Insn
return = insns.Simple opcode.return

abbrev pub iload : ℕ → Insn
iload slot = insns.Local opcode.iload slot

abbrev pub istore : ℕ → Insn
istore slot = insns.Local opcode.istore slot

abbrev pub aload : ℕ → Insn
aload slot = insns.Local opcode.aload slot

abbrev pub astore : ℕ → Insn
astore slot = insns.Local opcode.astore slot

abbrev pub ifeq : ℕ → Insn
ifeq to = insns.Jump opcode.ifeq to

abbrev pub ifne : ℕ → Insn
ifne to = insns.Jump opcode.ifne to

abbrev pub iflt : ℕ → Insn
iflt to = insns.Jump opcode.iflt to

abbrev pub ifge : ℕ → Insn
ifge to = insns.Jump opcode.ifge to

abbrev pub goto : ℕ → Insn
goto to = insns.Jump opcode.goto to

abbrev pub iinc : ℕ → ℤ → Insn
iinc slot by = insns.Inc slot by

abbrev pub invokestatic : ℕ → Insn
invokestatic place = insns.Member opcode.invokestatic place

abbrev pub arm : ℤ → ℕ → Arm
arm key to = record { key = key; to = to }

abbrev pub lookup : ℕ → List Arm → Insn
lookup default arms = insns.Lookup default arms

abbrev pub ldc : ℕ → Insn
ldc place = insns.Constant place

abbrev pub checkcast : ℕ → Insn
checkcast place = insns.OfClass opcode.checkcast place

abbrev pub sipush : ℕ → Insn
sipush number = insns.Push opcode.sipush (pos number)

-- ---- how the array is got

-- where the class of the array has this number
abbrev pub by_member : ℕ → Emitting
by_member array = record { fetch = fetches.Member; array = array; integer = λ id. 0 }

abbrev pub by_constant : ℕ → Emitting
by_constant array = record { fetch = fetches.Constant; array = array; integer = λ id. 0 }

-- the Integers of ids stand at the place 9
abbrev pub by_integers : Emitting
by_integers = record { fetch = fetches.Member; array = 0; integer = λ id. 9 }

-- the code of the twin of a body whose first id is 0, in this form
abbrev pub code_in_form : Body → TwinForm → List Insn
code_in_form b form = map (insn_of (unplaced (λ id. 0)) b.arg_slots) (twin_items b 0 form)

-- all conditional jumps are wide
abbrev pub widest : TwinForm
widest = record { fetch = fetches.Member; wide = all_wide }

-- ---- tables and states

abbrev pub state : List Kind → List Kind → State
state locals stack = record { locals = locals; stack = stack }

abbrev pub frame_at : ℕ → State → FrameAt
frame_at at state = record { at = at; state = state }

abbrev pub handler : ℕ → ℕ → ℕ → ℕ → Handler
handler start end target class = record { start = start; end = end; target = target; class = class }

abbrev pub line_at : ℕ → ℕ → LineAt
line_at at line = record { at = at; line = line }

abbrev pub var_at : ℕ → ℕ → ℕ → VarAt
var_at start end slot = record { start = start; end = end; name = 1; desc = 2; slot = slot }

-- the argument, an int
abbrev pub int : List Kind
int = kinds.Int ∷ []

-- the argument, and behind it the array of probes, whose class has the number 0
abbrev pub int_and_array : List Kind
int_and_array = kinds.Int ∷ kinds.Object 0 ∷ []

-- a static method with one argument slot
abbrev pub body : List Insn → List Handler → List FrameAt → (max_locals : ℕ) → Body
body code handlers frames max_locals = record {
  method = 0;
  owner = [];
  name = [];
  desc = [];
  flags = 9;
  arg_slots = 1;
  max_stack = 2;
  max_locals = max_locals;
  code = code;
  handlers = handlers;
  lines = [];
  vars = [];
  kind_vars = [];
  frames = frames;
  uses = [];
}

-- ---- the absolute value of an int: `abs (I)I`, with probes 0 and 1 on its returns

abbrev pub abs_code : List Insn
abs_code = iload 0 ∷ ifge 5 ∷ iload 0 ∷ ineg ∷ ireturn ∷ iload 0 ∷ ireturn ∷ []

abbrev pub abs : Body
abs = body abs_code [] (frame_at 5 (state int []) ∷ []) 1

abbrev pub abs_states : List State
abs_states =
    state int [] ∷ state int int ∷ state int [] ∷ state int int ∷ state int int ∷ state int []
    ∷ state int int ∷ []

abbrev pub abs_new_code : List Insn
abs_new_code =
    invokestatic 0 ∷ astore 1 ∷ iload 0 ∷ ifge 11 ∷ iload 0 ∷ ineg ∷ aload 1 ∷ iconst_0 ∷ iconst_1 ∷ bastore ∷ ireturn
    ∷ iload 0 ∷ aload 1 ∷ iconst_1 ∷ iconst_1 ∷ bastore ∷ ireturn ∷ []

abbrev pub abs_at : List ℕ
abs_at = 0 ∷ 0 ∷ 0 ∷ 1 ∷ 2 ∷ 3 ∷ 4 ∷ 4 ∷ 4 ∷ 4 ∷ 4 ∷ 5 ∷ 6 ∷ 6 ∷ 6 ∷ 6 ∷ 6 ∷ []

abbrev pub abs_own : List Bool
abs_own =
    false ∷ false ∷ true ∷ true ∷ true ∷ true ∷ false ∷ false ∷ false ∷ false ∷ true ∷ true ∷ false ∷ false ∷ false
    ∷ false ∷ true ∷ []

abbrev pub abs_extra : List ℕ
abs_extra = 0 ∷ 1 ∷ 0 ∷ 0 ∷ 0 ∷ 0 ∷ 0 ∷ 1 ∷ 2 ∷ 3 ∷ 0 ∷ 0 ∷ 0 ∷ 1 ∷ 2 ∷ 3 ∷ 0 ∷ []

abbrev pub abs_new_frames : List FrameAt
abs_new_frames = frame_at 11 (state int_and_array []) ∷ []

abbrev pub abs_wide_frames : List FrameAt
abs_wide_frames = frame_at 4 (state int_and_array []) ∷ []

-- ---- the same method, which gets its array by a constant: three instructions stand in front

abbrev pub abs_by_constant_code : List Insn
abs_by_constant_code =
    ldc 0 ∷ checkcast 0 ∷ astore 1 ∷ iload 0 ∷ ifge 12 ∷ iload 0 ∷ ineg ∷ aload 1 ∷ iconst_0 ∷ iconst_1 ∷ bastore ∷ ireturn
    ∷ iload 0 ∷ aload 1 ∷ iconst_1 ∷ iconst_1 ∷ bastore ∷ ireturn ∷ []

abbrev pub abs_by_constant_at : List ℕ
abs_by_constant_at = 0 ∷ 0 ∷ 0 ∷ 0 ∷ 1 ∷ 2 ∷ 3 ∷ 4 ∷ 4 ∷ 4 ∷ 4 ∷ 4 ∷ 5 ∷ 6 ∷ 6 ∷ 6 ∷ 6 ∷ 6 ∷ []

abbrev pub abs_by_constant_own : List Bool
abs_by_constant_own =
    false ∷ false ∷ false ∷ true ∷ true ∷ true ∷ true ∷ false ∷ false ∷ false ∷ false ∷ true ∷ true ∷ false ∷ false ∷ false
    ∷ false ∷ true ∷ []

abbrev pub abs_by_constant_extra : List ℕ
abs_by_constant_extra = 0 ∷ 1 ∷ 1 ∷ 0 ∷ 0 ∷ 0 ∷ 0 ∷ 0 ∷ 1 ∷ 2 ∷ 3 ∷ 0 ∷ 0 ∷ 0 ∷ 1 ∷ 2 ∷ 3 ∷ 0 ∷ []

abbrev pub abs_by_constant_frames : List FrameAt
abs_by_constant_frames = frame_at 12 (state int_and_array []) ∷ []

abbrev pub abs_by_constant_wide_frames : List FrameAt
abs_by_constant_wide_frames = frame_at 5 (state int_and_array []) ∷ []

-- ---- the same method with the probes 32767 and 32768

abbrev pub abs_late_code : List Insn
abs_late_code =
    invokestatic 0 ∷ astore 1 ∷ iload 0 ∷ ifge 11 ∷ iload 0 ∷ ineg ∷ aload 1 ∷ sipush 32767 ∷ iconst_1 ∷ bastore ∷ ireturn
    ∷ iload 0 ∷ aload 1 ∷ ldc 9 ∷ iconst_1 ∷ bastore ∷ ireturn ∷ []

-- ---- a loop that counts down: probe 0 on its goto, probe 1 on its return

abbrev pub counts_down_code : List Insn
counts_down_code = iload 0 ∷ ifeq 4 ∷ iinc 0 (negsuc 0) ∷ goto 0 ∷ return ∷ []

abbrev pub counts_down : Body
counts_down = body counts_down_code [] (frame_at 0 (state int []) ∷ frame_at 4 (state int []) ∷ []) 1

abbrev pub counts_down_states : List State
counts_down_states = state int [] ∷ state int int ∷ state int [] ∷ state int [] ∷ state int [] ∷ []

abbrev pub counts_down_new_code : List Insn
counts_down_new_code =
    invokestatic 0 ∷ astore 1 ∷ iload 0 ∷ ifeq 10 ∷ iinc 0 (negsuc 0) ∷ aload 1 ∷ iconst_0 ∷ iconst_1 ∷ bastore ∷ goto 2
    ∷ aload 1 ∷ iconst_1 ∷ iconst_1 ∷ bastore ∷ return ∷ []

abbrev pub counts_down_at : List ℕ
counts_down_at = 0 ∷ 0 ∷ 0 ∷ 1 ∷ 2 ∷ 3 ∷ 3 ∷ 3 ∷ 3 ∷ 3 ∷ 4 ∷ 4 ∷ 4 ∷ 4 ∷ 4 ∷ []

abbrev pub counts_down_own : List Bool
counts_down_own =
    false ∷ false ∷ true ∷ true ∷ true ∷ false ∷ false ∷ false ∷ false ∷ true ∷ false ∷ false ∷ false ∷ false ∷ true
    ∷ []

abbrev pub counts_down_extra : List ℕ
counts_down_extra = 0 ∷ 1 ∷ 0 ∷ 0 ∷ 0 ∷ 0 ∷ 1 ∷ 2 ∷ 3 ∷ 0 ∷ 0 ∷ 1 ∷ 2 ∷ 3 ∷ 0 ∷ []

abbrev pub counts_down_new_frames : List FrameAt
counts_down_new_frames = frame_at 2 (state int_and_array []) ∷ frame_at 10 (state int_and_array []) ∷ []

abbrev pub counts_down_wide_frames : List FrameAt
counts_down_wide_frames = frame_at 4 (state int_and_array []) ∷ []

-- ---- a conditional jump to the next instruction: probe 0 on the jump, 1 on the fall-through, 2 on the return

abbrev pub jumps_to_next_code : List Insn
jumps_to_next_code = iload 0 ∷ ifeq 2 ∷ return ∷ []

abbrev pub jumps_to_next : Body
jumps_to_next = body jumps_to_next_code [] (frame_at 2 (state int []) ∷ []) 1

abbrev pub jumps_to_next_states : List State
jumps_to_next_states = state int [] ∷ state int int ∷ state int [] ∷ []

abbrev pub jumps_to_next_new_code : List Insn
jumps_to_next_new_code =
    invokestatic 0 ∷ astore 1 ∷ iload 0 ∷ ifne 9 ∷ aload 1 ∷ iconst_0 ∷ iconst_1 ∷ bastore ∷ goto 13 ∷ aload 1
    ∷ iconst_1 ∷ iconst_1 ∷ bastore ∷ aload 1 ∷ iconst_2 ∷ iconst_1 ∷ bastore ∷ return ∷ []

abbrev pub jumps_to_next_at : List ℕ
jumps_to_next_at = 0 ∷ 0 ∷ 0 ∷ 1 ∷ 2 ∷ 2 ∷ 2 ∷ 2 ∷ 2 ∷ 2 ∷ 2 ∷ 2 ∷ 2 ∷ 2 ∷ 2 ∷ 2 ∷ 2 ∷ 2 ∷ []

abbrev pub jumps_to_next_own : List Bool
jumps_to_next_own =
    false ∷ false ∷ true ∷ true ∷ false ∷ false ∷ false ∷ false ∷ false ∷ false ∷ false ∷ false ∷ false ∷ false ∷ false
    ∷ false ∷ false ∷ true ∷ []

abbrev pub jumps_to_next_extra : List ℕ
jumps_to_next_extra = 0 ∷ 1 ∷ 0 ∷ 0 ∷ 0 ∷ 1 ∷ 2 ∷ 3 ∷ 0 ∷ 0 ∷ 1 ∷ 2 ∷ 3 ∷ 0 ∷ 1 ∷ 2 ∷ 3 ∷ 0 ∷ []

abbrev pub jumps_to_next_new_frames : List FrameAt
jumps_to_next_new_frames = frame_at 9 (state int_and_array []) ∷ frame_at 13 (state int_and_array []) ∷ []

abbrev pub jumps_to_next_wide_frames : List FrameAt
jumps_to_next_wide_frames = frame_at 4 (state int_and_array []) ∷ []

-- ---- a jump over a switch of two targets: probe 0 on the jump, 1 on an arm, 2 and 3 on the returns

abbrev pub switches_code : List Insn
switches_code =
    iload 0 ∷ iflt 4 ∷ iload 0 ∷ lookup 6 (arm (pos 1) 4 ∷ arm (pos 2) 4 ∷ arm (pos 3) 6 ∷ []) ∷ iconst_1 ∷ ireturn
    ∷ iconst_0 ∷ ireturn ∷ []

abbrev pub switches : Body
switches = body switches_code [] (frame_at 4 (state int []) ∷ frame_at 6 (state int []) ∷ []) 1

abbrev pub switches_states : List State
switches_states =
    state int [] ∷ state int int ∷ state int [] ∷ state int int ∷ state int [] ∷ state int int
    ∷ state int [] ∷ state int int ∷ []

abbrev pub switches_new_code : List Insn
switches_new_code =
    invokestatic 0 ∷ astore 1 ∷ iload 0 ∷ ifge 9 ∷ aload 1 ∷ iconst_0 ∷ iconst_1 ∷ bastore ∷ goto 16 ∷ iload 0
    ∷ lookup 22 (arm (pos 1) 11 ∷ arm (pos 2) 11 ∷ arm (pos 3) 22 ∷ []) ∷ aload 1 ∷ iconst_1 ∷ iconst_1 ∷ bastore
    ∷ goto 16 ∷ iconst_1 ∷ aload 1 ∷ iconst_2 ∷ iconst_1 ∷ bastore ∷ ireturn ∷ iconst_0 ∷ aload 1 ∷ iconst_3 ∷ iconst_1
    ∷ bastore ∷ ireturn ∷ []

abbrev pub switches_at : List ℕ
switches_at =
    0 ∷ 0 ∷ 0 ∷ 1 ∷ 4 ∷ 4 ∷ 4 ∷ 4 ∷ 4 ∷ 2 ∷ 3 ∷ 4 ∷ 4 ∷ 4 ∷ 4 ∷ 4 ∷ 4 ∷ 5 ∷ 5 ∷ 5 ∷ 5 ∷ 5 ∷ 6 ∷ 7 ∷ 7 ∷ 7 ∷ 7 ∷ 7 ∷ []

abbrev pub switches_own : List Bool
switches_own =
    false ∷ false ∷ true ∷ true ∷ false ∷ false ∷ false ∷ false ∷ false ∷ true ∷ true ∷ false ∷ false ∷ false ∷ false
    ∷ false ∷ true ∷ false ∷ false ∷ false ∷ false ∷ true ∷ true ∷ false ∷ false ∷ false ∷ false ∷ true ∷ []

abbrev pub switches_extra : List ℕ
switches_extra =
    0 ∷ 1 ∷ 0 ∷ 0 ∷ 0 ∷ 1 ∷ 2 ∷ 3 ∷ 0 ∷ 0 ∷ 0 ∷ 0 ∷ 1 ∷ 2 ∷ 3 ∷ 0 ∷ 0 ∷ 0 ∷ 1 ∷ 2 ∷ 3 ∷ 0 ∷ 0 ∷ 0 ∷ 1 ∷ 2 ∷ 3 ∷ 0 ∷ []

abbrev pub switches_new_frames : List FrameAt
switches_new_frames =
    frame_at 9 (state int_and_array []) ∷ frame_at 11 (state int_and_array []) ∷ frame_at 16 (state int_and_array [])
    ∷ frame_at 22 (state int_and_array []) ∷ []

abbrev pub switches_wide_frames : List FrameAt
switches_wide_frames = frame_at 4 (state int_and_array []) ∷ []

-- ---- two exception rows with one handler: probe 0 on the fall-through into their start, 1 and 2 on the returns

abbrev pub catches_code : List Insn
catches_code = iconst_0 ∷ istore 1 ∷ iconst_1 ∷ iload 0 ∷ idiv ∷ ireturn ∷ pop ∷ iload 1 ∷ ireturn ∷ []

abbrev pub catches : Body
catches = body catches_code (handler 2 6 6 7 ∷ handler 2 6 6 8 ∷ []) (frame_at 6 (state (kinds.Int ∷ kinds.Int ∷ []) (kinds.Object 0 ∷ [])) ∷ []) 2

abbrev pub catches_states : List State
catches_states =
    state (kinds.Int ∷ kinds.Top ∷ []) [] ∷ state (kinds.Int ∷ kinds.Top ∷ []) (kinds.Int ∷ [])
    ∷ state (kinds.Int ∷ kinds.Int ∷ []) [] ∷ state (kinds.Int ∷ kinds.Int ∷ []) (kinds.Int ∷ [])
    ∷ state (kinds.Int ∷ kinds.Int ∷ []) (kinds.Int ∷ kinds.Int ∷ [])
    ∷ state (kinds.Int ∷ kinds.Int ∷ []) (kinds.Int ∷ []) ∷ state (kinds.Int ∷ kinds.Int ∷ []) (kinds.Object 0 ∷ [])
    ∷ state (kinds.Int ∷ kinds.Int ∷ []) [] ∷ state (kinds.Int ∷ kinds.Int ∷ []) (kinds.Int ∷ []) ∷ []

abbrev pub catches_new_code : List Insn
catches_new_code =
    invokestatic 0 ∷ astore 1 ∷ iconst_0 ∷ istore 2 ∷ aload 1 ∷ iconst_0 ∷ iconst_1 ∷ bastore ∷ iconst_1 ∷ iload 0
    ∷ idiv ∷ aload 1 ∷ iconst_1 ∷ iconst_1 ∷ bastore ∷ ireturn ∷ pop ∷ iload 2 ∷ aload 1 ∷ iconst_2 ∷ iconst_1 ∷ bastore
    ∷ ireturn ∷ []

abbrev pub catches_at : List ℕ
catches_at = 0 ∷ 0 ∷ 0 ∷ 1 ∷ 2 ∷ 2 ∷ 2 ∷ 2 ∷ 2 ∷ 3 ∷ 4 ∷ 5 ∷ 5 ∷ 5 ∷ 5 ∷ 5 ∷ 6 ∷ 7 ∷ 8 ∷ 8 ∷ 8 ∷ 8 ∷ 8 ∷ []

abbrev pub catches_own : List Bool
catches_own =
    false ∷ false ∷ true ∷ true ∷ false ∷ false ∷ false ∷ false ∷ true ∷ true ∷ true ∷ false ∷ false ∷ false ∷ false
    ∷ true ∷ true ∷ true ∷ false ∷ false ∷ false ∷ false ∷ true ∷ []

abbrev pub catches_extra : List ℕ
catches_extra = 0 ∷ 1 ∷ 0 ∷ 0 ∷ 0 ∷ 1 ∷ 2 ∷ 3 ∷ 0 ∷ 0 ∷ 0 ∷ 0 ∷ 1 ∷ 2 ∷ 3 ∷ 0 ∷ 0 ∷ 0 ∷ 0 ∷ 1 ∷ 2 ∷ 3 ∷ 0 ∷ []

abbrev pub catches_new_rows : List Handler
catches_new_rows = handler 4 16 16 7 ∷ handler 4 16 16 8 ∷ []

abbrev pub catches_new_frames : List FrameAt
catches_new_frames = frame_at 16 (state (kinds.Int ∷ kinds.Object 1 ∷ kinds.Int ∷ []) (kinds.Object 0 ∷ [])) ∷ []

abbrev pub catches_wide_frames : List FrameAt
catches_wide_frames = []

-- ---- the wide layout of the jump to the next instruction

abbrev pub wide_code : List Insn
wide_code =
    invokestatic 0 ∷ astore 1 ∷ iload 0 ∷ ifeq 5 ∷ goto 10 ∷ aload 1 ∷ iconst_0 ∷ iconst_1 ∷ bastore ∷ goto 14 ∷ aload 1
    ∷ iconst_1 ∷ iconst_1 ∷ bastore ∷ aload 1 ∷ iconst_2 ∷ iconst_1 ∷ bastore ∷ return ∷ []

abbrev pub wide_at : List ℕ
wide_at = 0 ∷ 0 ∷ 0 ∷ 1 ∷ 2 ∷ 2 ∷ 2 ∷ 2 ∷ 2 ∷ 2 ∷ 2 ∷ 2 ∷ 2 ∷ 2 ∷ 2 ∷ 2 ∷ 2 ∷ 2 ∷ 2 ∷ []

abbrev pub wide_own : List Bool
wide_own =
    false ∷ false ∷ true ∷ true ∷ false ∷ false ∷ false ∷ false ∷ false ∷ false ∷ false ∷ false ∷ false ∷ false ∷ false
    ∷ false ∷ false ∷ false ∷ true ∷ []

-- ---- two conditional jumps, of which the second is wide: probes 0, 1 and 2 on the returns

abbrev pub jumps_twice_code : List Insn
jumps_twice_code = iload 0 ∷ ifeq 5 ∷ iload 0 ∷ iflt 6 ∷ return ∷ return ∷ return ∷ []

abbrev pub jumps_twice : Body
jumps_twice = body jumps_twice_code [] (frame_at 5 (state int []) ∷ frame_at 6 (state int []) ∷ []) 1

-- its image is the sixth instruction
abbrev pub second_wide : WideSet
second_wide place = nat_eq place 5

abbrev pub second_wide_code : List Insn
second_wide_code =
    invokestatic 0 ∷ astore 1 ∷ iload 0 ∷ ifeq 12 ∷ iload 0 ∷ ifge 7 ∷ goto 17 ∷ aload 1 ∷ iconst_0 ∷ iconst_1 ∷ bastore
    ∷ return ∷ aload 1 ∷ iconst_1 ∷ iconst_1 ∷ bastore ∷ return ∷ aload 1 ∷ iconst_2 ∷ iconst_1 ∷ bastore ∷ return ∷ []

-- ---- the loop with lines and variables; its new code has 15 instructions

abbrev pub lined : Body
lined = record counts_down { lines = line_at 0 1 ∷ line_at 3 2 ∷ []; vars = var_at 2 5 0 ∷ []; kind_vars = var_at 2 3 1 ∷ [] }

abbrev pub lined_lines : List LineAt
lined_lines = line_at 2 1 ∷ line_at 5 2 ∷ []

abbrev pub lined_vars : List VarAt
lined_vars = var_at 4 15 0 ∷ []

abbrev pub lined_kind_vars : List VarAt
lined_kind_vars = var_at 4 5 2 ∷ []

-- ---- a state, shifted

abbrev pub before_shift : State
before_shift = state (kinds.Int ∷ kinds.Uninit 0 ∷ []) (kinds.Uninit 4 ∷ [])

abbrev pub after_shift : State
after_shift = state (kinds.Int ∷ kinds.Object 3 ∷ kinds.Uninit 2 ∷ []) (kinds.Uninit 6 ∷ [])
