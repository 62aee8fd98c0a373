-- Bodies that were worked by hand from the JVM Specification, chapter 6, and JaCoCo's documentation on control flow.
use Rattle.std.specs.Prelude.{ℕ, pos, negsuc, List, [], ◌∷◌, Option, Some, None}
use Rattle.jc_methods.specs.Opcode as opcode
use Rattle.jc_methods.specs.declared.insn.Insn.{Insn}
use Rattle.jc_methods.specs.declared.insn.Insn.TheVariants as insns
use Rattle.jc_methods.specs.declared.body.Handler.{Handler}
use Rattle.jc_methods.specs.declared.body.LineAt.{LineAt}
use Rattle.jc_methods.specs.declared.body.Body.{Body}
use Rattle.jc_methods.specs.declared.plan.Plan.{Plan}
use Rattle.jc_methods.specs.declared.plan.Edge.{Edge}

-- ---- instructions

abbrev pub nop : Insn
nop = insns.Simple 0

abbrev pub iconst_0 : Insn
iconst_0 = insns.Simple 3

abbrev pub iconst_1 : Insn
iconst_1 = insns.Simple 4

abbrev pub iconst_2 : Insn
iconst_2 = insns.Simple 5

abbrev pub pop : Insn
pop = insns.Simple 87

abbrev pub imul : Insn
imul = insns.Simple 104

abbrev pub idiv : Insn
idiv = insns.Simple 108

abbrev pub ineg : Insn
ineg = insns.Simple 116

abbrev pub ireturn : Insn
ireturn = insns.Simple opcode.ireturn

abbrev pub areturn : Insn
areturn = insns.Simple 176

abbrev pub return : Insn
return = insns.Simple opcode.return

abbrev pub iload : ℕ → Insn
iload slot = insns.Local opcode.iload slot

abbrev pub istore : ℕ → Insn
istore slot = insns.Local opcode.istore slot

abbrev pub aload : ℕ → Insn
aload slot = insns.Local opcode.aload slot

-- ---- bodies

abbrev pub line_at : ℕ → ℕ → LineAt
line_at at line = record { at = at; line = line }

abbrev pub handler : ℕ → ℕ → ℕ → ℕ → Handler
handler start end target class = record { start = start; end = end; target = target; class = class }

abbrev pub body : List Insn → List Handler → List LineAt → Body
body code handlers lines = record {
  method = 0;
  owner = [];
  name = [];
  desc = [];
  flags = 9;
  arg_slots = 1;
  max_stack = 2;
  max_locals = 2;
  code = code;
  handlers = handlers;
  lines = lines;
  vars = [];
  kind_vars = [];
  frames = [];
  uses = [];
}

-- the absolute value of the argument, by a conditional jump
abbrev pub abs : List LineAt → Body
abs lines = body (iload 0 ∷ insns.Jump opcode.ifge 5 ∷ iload 0 ∷ ineg ∷ ireturn ∷ iload 0 ∷ ireturn ∷ []) [] lines

-- a loop that counts the argument down
abbrev pub counts_down : Body
counts_down = body (iload 0 ∷ insns.Jump opcode.ifeq 4 ∷ insns.Inc 0 (negsuc 0) ∷ insns.Jump opcode.goto 0 ∷ return ∷ []) [] []

-- a conditional jump to the next instruction
abbrev pub jumps_to_next : Body
jumps_to_next = body (iload 0 ∷ insns.Jump opcode.ifeq 2 ∷ return ∷ []) [] []

-- a jump over a switch, whose keys 1 and 2 have one target and whose key 3 has the default's
abbrev pub switches : Body
switches =
    body
    (iload 0 ∷ insns.Jump opcode.iflt 4 ∷ iload 0
    ∷ insns.Lookup 6 (record { key = pos 1; to = 4 } ∷ record { key = pos 2; to = 4 } ∷ record { key = pos 3; to = 6 } ∷ [])
    ∷ iconst_1 ∷ ireturn ∷ iconst_0 ∷ ireturn ∷ [])
    [] []

-- two exception rows with one start and one handler
abbrev pub catches : Body
catches =
    body (iconst_0 ∷ istore 1 ∷ iconst_1 ∷ iload 0 ∷ idiv ∷ ireturn ∷ pop ∷ iload 1 ∷ ireturn ∷ [])
    (handler 2 6 6 7 ∷ handler 2 6 6 8 ∷ []) []

-- lines 1, 2 and 3 begin at a nop each, and line 4 at the return; a call stands in line 3, behind its nop
abbrev pub calls : Body
calls =
    body (nop ∷ nop ∷ nop ∷ insns.Member opcode.invokestatic 1 ∷ return ∷ []) []
    (line_at 0 1 ∷ line_at 1 2 ∷ line_at 4 4 ∷ line_at 2 3 ∷ [])

-- the bodies of a class of ordinary use: a constructor, `abs`, a method that returns its argument, a bridge to it, and
-- a lambda
abbrev pub calc : List Body
calc =
    body (aload 0 ∷ insns.Member 183 1 ∷ return ∷ []) [] (line_at 0 1 ∷ [])
    ∷ abs (line_at 0 3 ∷ line_at 2 4 ∷ line_at 5 6 ∷ [])
    ∷ body (aload 1 ∷ areturn ∷ []) [] (line_at 0 10 ∷ [])
    ∷ body (aload 0 ∷ aload 1 ∷ insns.OfClass 192 2 ∷ insns.Member 182 3 ∷ areturn ∷ []) [] (line_at 0 2 ∷ [])
    ∷ body (iload 0 ∷ iconst_2 ∷ imul ∷ ireturn ∷ []) [] (line_at 0 8 ∷ [])
    ∷ []

-- ---- what is wanted

abbrev pub none : List (Option ℕ)
none = None ∷ []

abbrev pub one : ℕ → List (Option ℕ)
one id = Some id ∷ []

abbrev pub plan : List (Option ℕ) → List (List (Option ℕ)) → ℕ → Plan
plan lead out next = record { lead = lead; out = out; next = next }

abbrev pub edge : ℕ → ℕ → Option ℕ → Edge
edge at branch to = record { method = 0; at = at; branch = branch; to = to }

abbrev pub abs_plan : Plan
abs_plan =
    plan (None ∷ None ∷ None ∷ None ∷ None ∷ None ∷ None ∷ [])
    (none ∷ (None ∷ None ∷ []) ∷ none ∷ none ∷ one 0 ∷ none ∷ one 1 ∷ []) 2

abbrev pub abs_edges : List Edge
abs_edges =
    edge 0 0 (Some 1) ∷ edge 1 0 (Some 2) ∷ edge 1 1 (Some 5) ∷ edge 2 0 (Some 3) ∷ edge 3 0 (Some 4) ∷ edge 4 0 None
    ∷ edge 5 0 (Some 6) ∷ edge 6 0 None ∷ []

abbrev pub counts_down_plan : Plan
counts_down_plan = plan (None ∷ None ∷ None ∷ None ∷ None ∷ []) (none ∷ (None ∷ None ∷ []) ∷ none ∷ one 0 ∷ one 1 ∷ []) 2

abbrev pub counts_down_edges : List Edge
counts_down_edges = edge 0 0 (Some 1) ∷ edge 1 0 (Some 2) ∷ edge 1 1 (Some 4) ∷ edge 2 0 (Some 3) ∷ edge 3 1 (Some 0) ∷ edge 4 0 None ∷ []

-- its first id is 7: that of the jump, then that of the fall-through, then that of the return
abbrev pub jumps_to_next_plan : Plan
jumps_to_next_plan = plan (None ∷ None ∷ Some 8 ∷ []) (none ∷ (None ∷ Some 7 ∷ []) ∷ one 9 ∷ []) 10

abbrev pub jumps_to_next_edges : List Edge
jumps_to_next_edges = edge 0 0 (Some 1) ∷ edge 1 0 (Some 2) ∷ edge 1 1 (Some 2) ∷ edge 2 0 None ∷ []

abbrev pub switches_plan : Plan
switches_plan =
    plan (None ∷ None ∷ None ∷ None ∷ None ∷ None ∷ None ∷ None ∷ [])
    (none ∷ (None ∷ Some 0 ∷ []) ∷ none ∷ (None ∷ Some 1 ∷ []) ∷ none ∷ one 2 ∷ none ∷ one 3 ∷ []) 4

abbrev pub switches_edges : List Edge
switches_edges =
    edge 0 0 (Some 1) ∷ edge 1 0 (Some 2) ∷ edge 1 1 (Some 4) ∷ edge 2 0 (Some 3) ∷ edge 3 0 (Some 6) ∷ edge 3 1 (Some 4)
    ∷ edge 4 0 (Some 5) ∷ edge 5 0 None ∷ edge 6 0 (Some 7) ∷ edge 7 0 None ∷ []

abbrev pub catches_plan : Plan
catches_plan =
    plan (None ∷ None ∷ Some 0 ∷ None ∷ None ∷ None ∷ None ∷ None ∷ None ∷ [])
    (none ∷ none ∷ none ∷ none ∷ none ∷ one 1 ∷ none ∷ none ∷ one 2 ∷ []) 3

abbrev pub calls_plan : Plan
calls_plan = plan (None ∷ None ∷ Some 0 ∷ None ∷ None ∷ []) (none ∷ none ∷ none ∷ none ∷ one 1 ∷ []) 2
