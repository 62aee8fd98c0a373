-- The edges that turns take, and those at which threads stand at the end.
use Rattle.std.specs.Prelude.{ℕ, Bool, true, false, List, [], ◌∷◌, ◌++◌, Option, Some, None, nat_eq, slice_get, if◌then◌else◌}
use Rattle.std.specs.List.{flat_map}
use Rattle.jc_methods.specs.declared.insn.Insn.TheVariants as insns
use Rattle.jc_methods.specs.declared.insn.Flow.TheVariants as flows
use Rattle.jc_methods.specs.Opcode as opcode
use Rattle.jc_methods.specs.declared.insn.Insn.{Insn}
use Rattle.jc_methods.specs.declared.insn.Flow.{Flow}
use Rattle.jc_methods.specs.Flow.{flow_of}
use Rattle.jc_programs.specs.declared.program.Program.{Program}
use Rattle.jc_programs.specs.declared.run_plan.Case.{Case}
use Rattle.jc_programs.specs.declared.run_end.Entry.{Entry}
use Rattle.jc_plan.specs.declared.branch.Branch.{Branch}
use Rattle.jc_plan.specs.Edges.{sequence, exit}
use Rattle.jc_plan.specs.Chosen.{Outcome, one_way, condition, key, chosen}
use Rattle.jc_plan.specs.ClassEdges.{ProgramEdge}
use Rattle.jc_machine_model.specs.Values.{Value, int}
use Rattle.jc_machine_model.specs.World.{Frame, Thread, running, stuck, Shared, World}
use Rattle.jc_machine_model.specs.Results.{Result, goes, hits, calls, leaves, raises, throws, gets_stuck}
use Rattle.jc_machine_model.specs.Jumps.{Tested, test_of}
use Rattle.jc_machine_model.specs.Perform.{perform}
use Rattle.jc_machine_model.specs.Step.{LocatedInsn, located, operation_at, step}
use Rattle.jc_machine_model.specs.Begin.{begin_case}

-- ---- how a turn comes out

-- the condition of a conditional jump
abbrev pub outcome_of_test : Option Tested → Outcome
outcome_of_test None = one_way
outcome_of_test (Some t) = condition t.jumps

-- the key of a switch
abbrev pub outcome_of_key : List Value → Outcome
outcome_of_key (int k ∷ stack) = key k
outcome_of_key stack = one_way

-- of an instruction that goes on, by its operands
abbrev pub outcome_of : Insn → List Value → Outcome
outcome_of (insns.Jump op to) stack = if nat_eq op opcode.goto then one_way else outcome_of_test (test_of op stack)
outcome_of (insns.Table low default arms) stack = outcome_of_key stack
outcome_of (insns.Lookup default arms) stack = outcome_of_key stack
outcome_of insn stack = one_way

-- ---- edges

-- a branch of a method as an edge of the program
abbrev pub edge_of : Entry → Branch → ProgramEdge
edge_of method x = record { class = method.class; body = method.method; branch = x }

abbrev pub edges_of : Entry → Option Branch → List ProgramEdge
edges_of method None = []
edges_of method (Some x) = edge_of method x ∷ []

-- ---- the edges of a turn

abbrev pub is_throw : Insn → Bool
is_throw insn = elim (flow_of insn) [ flows.Throws ↦ true | other ↦ false ]

-- the call of the frame that is returned to takes its edge now
abbrev pub call_edges : List Frame → List ProgramEdge
call_edges [] = []
call_edges (f ∷ waiting) = edge_of f.method (sequence f.place) ∷ []

-- A turn that goes on takes the branch that its condition or its key chooses. A call that makes a frame, a turn that raises, and one
-- that leaves the thread stuck take none.
abbrev pub edges_by : Insn → Result → Frame → List Frame → List ProgramEdge
edges_by insn (goes s g) f waiting = edges_of f.method (chosen f.place insn (outcome_of insn f.stack))
edges_by insn (hits class id g) f waiting = edge_of f.method (sequence f.place) ∷ []
edges_by insn (calls callee locals g) f waiting = []
edges_by insn (leaves v) f waiting = edge_of f.method (exit f.place) ∷ call_edges waiting
edges_by insn (raises c) f waiting = []
edges_by insn (throws c v) f waiting = []
edges_by insn gets_stuck f waiting = []

-- any turn at athrow takes the exit
abbrev pub edges_at : Program → Shared → Frame → List Frame → Option LocatedInsn → List ProgramEdge
edges_at program s f waiting None = []
edges_at program s f waiting (Some i) =
    if is_throw i.insn then edge_of f.method (exit f.place) ∷ []
    else edges_by i.insn (perform (operation_at program (Some i)) s f) f waiting

abbrev pub thread_edges : Program → Shared → Option Thread → List ProgramEdge
thread_edges program s (Some (running f waiting)) = edges_at program s f waiting (located program f.method f.place)
thread_edges program s _ = []

abbrev pub turn_edges : Program → World → ℕ → List ProgramEdge
turn_edges program w t = thread_edges program w.shared (slice_get w.threads t)

-- the edges that these turns take
abbrev pub taken_from : Program → World → List ℕ → List ProgramEdge
taken_from program w [] = []
taken_from program w (t ∷ turns) = turn_edges program w t ++ taken_from program (step program w t) turns

abbrev pub taken : Program → Case → List ℕ → List ProgramEdge
taken program case turns = taken_from program (begin_case program case) turns

-- ---- the edges at which threads stand

-- the one edge of a goto, a return or athrow
abbrev pub one_edge : Entry → ℕ → Insn → Flow → List ProgramEdge
one_edge method place insn flows.Jumps = edges_of method (chosen place insn one_way)
one_edge method place insn flows.Returns = edges_of method (chosen place insn one_way)
one_edge method place insn flows.Throws = edges_of method (chosen place insn one_way)
one_edge method place insn flow = []

abbrev pub edge_stood : Entry → ℕ → Option LocatedInsn → List ProgramEdge
edge_stood method place None = []
edge_stood method place (Some i) = one_edge method place i.insn (flow_of i.insn)

-- of a thread that is running or stuck
abbrev pub edges_stood : Program → Thread → List ProgramEdge
edges_stood program (running f waiting) = edge_stood f.method f.place (located program f.method f.place)
edges_stood program (stuck method place) = edge_stood method place (located program method place)
edges_stood program thread = []

-- the edges that the turns take, and those at which threads stand behind them
abbrev pub reached_from : Program → World → List ℕ → List ProgramEdge
reached_from program w [] = flat_map (edges_stood program) w.threads
reached_from program w (t ∷ turns) = turn_edges program w t ++ reached_from program (step program w t) turns

abbrev pub reached : Program → Case → List ℕ → List ProgramEdge
reached program case turns = reached_from program (begin_case program case) turns
