-- The stack map frames of the twin of a body (JVM Specification 4.7.4).
use Rattle.std.specs.Prelude.{◌≡◌, ◌⊎◌, ℕ, ◌+◌, ◌-◌, ◌<◌, true, List, [], length, take, Option, Some, None, nat_le, ◌&&◌, if◌then◌else◌, slice_index_or, Contains}
use Rattle.jc_methods.specs.Flow.{flow_of}
use Rattle.jc_methods.specs.FrameOrder.{RiseFrom}
use Rattle.jc_methods.specs.VerificationTypes.{Names, type_state}
use Rattle.jc_methods.specs.Opcode as opcode
use Rattle.jc_methods.specs.declared.insn.Insn.{Insn}
use Rattle.jc_methods.specs.declared.kind.State.{State}
use Rattle.jc_methods.specs.declared.body.Body.{Body}
use Rattle.jc_methods.specs.declared.body.FrameAt.{FrameAt}
use Rattle.jc_plan.specs.declared.branch.Branch.{Branch}
use Rattle.jc_plan.specs.Probed.{probe_of}
use Rattle.jc_kinds_after.specs.Shift.{shifted}
use Rattle.jc_emit.specs.Sizes.{TwinForm, insn_at, late_probe, arms_at, is_wide}
use Rattle.jc_emit.specs.TwinCode.{arm_place, to_of}
use Rattle.jc_methods.specs.declared.insn.Insn.TheVariants as insns
use Rattle.jc_methods.specs.declared.insn.Flow.TheVariants as flows

-- ---- the states of the body

abbrev pub no_state : State
no_state = record { locals = []; stack = [] }

-- the state before an instruction
abbrev pub state_at : List State → ℕ → State
state_at states i = slice_index_or states i no_state

-- how many operands a jump or a switch takes: two where it compares two, else one (JVM Specification 6.5)
abbrev pub operands_by : ℕ → ℕ
operands_by op = if nat_le opcode.if_icmpeq op && nat_le op opcode.if_acmpne then 2 else 1

abbrev pub operands_of : Insn → ℕ
operands_of (insns.Jump op to) = operands_by op
operands_of _ = 1

-- the state that a conditional jump or a switch leaves
abbrev pub left_by : Insn → State → State
left_by insn s = record { locals = s.locals; stack = take (length s.stack - operands_of insn) s.stack }

-- behind a conditional jump: the state that it leaves where a probe follows, else that of the next instruction
abbrev pub state_behind : Body → List State → ℕ → Option ℕ → State
state_behind b states i None = state_at states (i + 1)
state_behind b states i (Some id) = left_by (insn_at b.code i) (state_at states i)

-- ---- which frames there are

-- The images stand at the places that `image` gives, jumps land at those of `land`, and fall-throughs lead to those of
-- `lead`.
module _ (b : Body) (first : ℕ) (states : List State) (image land lead : ℕ → ℕ) where
  -- where jumps to the instruction of a frame land: the frame's state
  pub record IsOldFrame (q : ℕ) (state : State) : Type 0 where
    pub frame : FrameAt
    pub listed : Contains b.frames frame
    pub place : q ≡ land frame.at
    pub state_is : state ≡ frame.state

  -- at the target of an inverted jump: the state of the next instruction
  pub record IsInverseFrame (q : ℕ) (state : State) : Type 0 where
    pub test : ℕ
    pub id : ℕ
    pub within : test < length b.code
    pub probed : late_probe b first test ≡ Some id
    pub place : q ≡ lead (test + 1)
    pub state_is : state ≡ state_at states (test + 1)

  -- at an arm place: the state that the switch leaves
  pub record IsArmFrame (q : ℕ) (state : State) : Type 0 where
    pub switch : ℕ
    pub branch : Branch
    pub id : ℕ
    pub within : switch < length b.code
    pub listed : Contains (arms_at b.code switch) branch
    pub probed : probe_of b first branch ≡ Some id
    pub place : q ≡ arm_place (probe_of b first) land (image switch + 1) (arms_at b.code switch) (to_of branch)
    pub state_is : state ≡ left_by (insn_at b.code switch) (state_at states switch)

  -- a frame behind a conditional jump, so far behind its image
  pub record IsFrameBehind (far q : ℕ) (state : State) : Type 0 where
    pub test : ℕ
    pub within : test < length b.code
    pub tests : flow_of (insn_at b.code test) ≡ flows.Branches
    pub place : q ≡ image test + far
    pub state_is : state ≡ state_behind b states test (late_probe b first test)

  -- behind the inverse and the goto of a wide conditional jump
  pub record IsWideFrame (form : TwinForm) (q : ℕ) (state : State) : Type 0 where
    pub behind : IsFrameBehind 2 q state
    pub layout : is_wide form behind.test ≡ true

  -- the frames of every form
  abbrev pub IsNarrowFrame : ℕ → State → Type 0
  IsNarrowFrame q state = IsOldFrame q state ⊎ (IsInverseFrame q state ⊎ IsArmFrame q state)

  -- The frames of a form. The frame behind a wide conditional jump stands at one place with another only where that is the frame of
  -- the body at the next instruction, in front of which no probe stands: then both say the state of that instruction.
  abbrev pub IsFrame : TwinForm → ℕ → State → Type 0
  IsFrame form q state = IsNarrowFrame q state ⊎ IsWideFrame form q state

-- The frames are exactly those that are asked for, one at each place, each with the shifted state, by the names of
-- classes.
pub record AreTwinFrames (names new_names : Names) (v : ℕ) (image : ℕ → ℕ) (Asked : ℕ → State → Type 0) (frames : List FrameAt) : Type 0 where
  pub rising : RiseFrom 0 frames
  pub each : (f : FrameAt) → Contains frames f
      → (state : State) × Asked f.at state × (type_state new_names f.state ≡ shifted image v (type_state names state))
  pub every : (q : ℕ) (state : State) → Asked q state
      → (f : FrameAt) × Contains frames f × (f.at ≡ q) × (type_state new_names f.state ≡ shifted image v (type_state names state))
