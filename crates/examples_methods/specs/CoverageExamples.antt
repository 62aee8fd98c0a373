-- Classes and hits of their probes that were worked by hand from JaCoCo's documentation on control flow and on coverage
-- counters.
use Rattle.std.specs.Prelude.{ℕ, Bool, true, false, List, [], ◌∷◌, codes}
use Rattle.jc_methods.specs.Opcode as opcode
use Rattle.jc_methods.specs.declared.insn.Insn.TheVariants as insns
use Rattle.jc_methods.specs.declared.body.LineAt.{LineAt}
use Rattle.jc_methods.specs.declared.body.Body.{Body}
use Rattle.examples_methods.specs.BodyExamples.{nop, iconst_1, iconst_2, imul, ireturn, areturn, return, iload, aload, line_at, body, abs}
use Rattle.jc_cover.specs.Marking.{coverage_of}
use Rattle.jc_cover.specs.Counters.{counters_of}
use Rattle.jc_cover.specs.declared.coverage.Count.{Count}
use Rattle.jc_cover.specs.declared.coverage.Counters.{Counters}

abbrev pub counters_with : List Body → List Bool → Counters
counters_with bodies hits = counters_of bodies (coverage_of bodies hits)

abbrev pub count : ℕ → ℕ → Count
count missed covered = record { missed = missed; covered = covered }

-- instructions, branches, lines, complexity and methods
abbrev pub counters : Count → Count → Count → Count → Count → Counters
counters instruction branch line complexity method = record {
  instruction = instruction;
  branch = branch;
  line = line;
  complexity = complexity;
  method = method;
}

-- ---- bodies

-- adds 1 to a static field
abbrev pub inc : Body
inc = body (insns.Member 178 1 ∷ iconst_1 ∷ insns.Simple 96 ∷ insns.Member 179 1 ∷ return ∷ []) [] []

-- two methods of one instruction each, on one line
abbrev pub one_line : List Body
one_line = body (return ∷ []) [] (line_at 0 1 ∷ []) ∷ body (return ∷ []) [] (line_at 0 1 ∷ []) ∷ []

-- Behind a return, a loop that nothing enters: its edges have no probes, and the way out of it is a return with a probe.
abbrev pub dead_loop : Body
dead_loop = body (return ∷ iload 0 ∷ insns.Jump opcode.ifeq 4 ∷ insns.Jump opcode.goto 1 ∷ return ∷ []) [] []

-- behind a return, a loop that nothing enters and nothing leaves
abbrev pub dead_circle : Body
dead_circle = body (return ∷ nop ∷ insns.Jump opcode.goto 1 ∷ []) [] []

-- a line table in which two entries start at one instruction, and the entries don't rise
abbrev pub mixed_lines : List LineAt
mixed_lines = line_at 4 9 ∷ line_at 2 5 ∷ line_at 4 8 ∷ line_at 3 7 ∷ []

abbrev pub named : ℕ → List ℕ → Body → Body
named flags name b = record b { flags = flags; name = name }

-- the bodies of a class of ordinary use: a constructor, `abs`, a method that returns its argument, the bridge to it, and
-- a lambda
abbrev pub calc : List Body
calc =
    named 0x0001 (codes "<init>") (body (aload 0 ∷ insns.Member 183 1 ∷ return ∷ []) [] (line_at 0 1 ∷ []))
    ∷ named 0x0009 (codes "abs") (abs (line_at 0 3 ∷ line_at 2 4 ∷ line_at 5 6 ∷ []))
    ∷ named 0x0001 (codes "call") (body (aload 1 ∷ areturn ∷ []) [] (line_at 0 10 ∷ []))
    ∷ named 0x1041 (codes "call") (body (aload 0 ∷ aload 1 ∷ insns.OfClass 192 2 ∷ insns.Member 182 3 ∷ areturn ∷ []) [] (line_at 0 2 ∷ []))
    ∷ named 0x100A (codes "lambda$twice$0") (body (iload 0 ∷ iconst_2 ∷ imul ∷ ireturn ∷ []) [] (line_at 0 8 ∷ []))
    ∷ []

-- of its six probes those of the second return of `abs` and of the lambda are hit, which a record of hits spells 06 24
abbrev pub calc_hits : List Bool
calc_hits = false ∷ false ∷ true ∷ false ∷ false ∷ true ∷ []
