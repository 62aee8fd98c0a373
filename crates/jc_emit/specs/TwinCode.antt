-- The code of the twin of a body: the body's code with its probes. Each record below is one sentence on it.
use Rattle.std.specs.Prelude.{◌≡◌, ◌⊎◌, ⊤, ℕ, ◌+◌, ◌<◌, Bool, true, false, List, [], ◌∷◌, length, Option, Some, None, nat_eq, if◌then◌else◌, slice_get, Contains}
use Rattle.std.specs.List.{count_by}
use Rattle.jc_methods.specs.Flow.{flow_of, jump_target}
use Rattle.jc_methods.specs.Insn.{with_places}
use Rattle.jc_methods.specs.Widened.{goto, inverted}
use Rattle.jc_methods.specs.declared.insn.Insn.{Insn}
use Rattle.jc_methods.specs.declared.insn.Flow.{Flow}
use Rattle.jc_methods.specs.declared.insn.Flow.TheVariants as flows
use Rattle.jc_methods.specs.declared.body.Body.{Body}
use Rattle.jc_kinds_after.specs.Shift.{with_slot}
use Rattle.jc_plan.specs.declared.branch.Branch.{Branch}
use Rattle.jc_plan.specs.declared.branch.Way.{Way}
use Rattle.jc_plan.specs.declared.branch.Way.TheVariants as ways
use Rattle.jc_plan.specs.Edges.{branches}
use Rattle.jc_plan.specs.Probed.{probe_of}
use Rattle.jc_plan.specs.Plan.{lead_probe}
use Rattle.jc_emit.specs.Sizes.{TwinForm, insn_at, early_probe, late_probe, arms_at, hop_size, is_wide, wide_size, behind_size}
use Rattle.jc_emit.specs.Marks.{Marks, HasInsn, IsProbe, TwinPlaces, prelude_insns, prelude_size, image_place, land_place, lead_place}

-- ---- switches

-- where a branch leads
abbrev pub way_to : Way → ℕ
way_to (ways.Falls to) = to
way_to (ways.Jumps to) = to
way_to (ways.Switches to) = to
way_to ways.Exits = 0

abbrev pub to_of : Branch → ℕ
to_of x = way_to x.way

-- the arm place where there is a probe, else where jumps land
abbrev pub here_or : Option ℕ → ℕ → ℕ → ℕ
here_or None here landing = landing
here_or (Some id) here landing = here

-- Where a switch leads for a target: to the arm place of the branch that has it, if the branch is probed, or to
-- where jumps to the target land. The arm places stand one behind the other from `here` on, in the order of the
-- branches, which is that of their ids.
abbrev pub arm_place : (Branch → Option ℕ) → (ℕ → ℕ) → (here : ℕ) → List Branch → ℕ → ℕ
arm_place probe land here [] to = land to
arm_place probe land here (x ∷ xs) to =
    if nat_eq (to_of x) to then here_or (probe x) here (land to) else arm_place probe land (here + hop_size (probe x)) xs to

-- The sentences on the code speak of where the pool has what it names, and of three functions: where the image of an instruction
-- stands, where jumps to it land, and where a fall-through into it leads.
module _ (b : Body) (first : ℕ) (form : TwinForm) (named : TwinPlaces) (code : List Insn) (m : Marks) (image land lead : ℕ → ℕ) where
  -- the instruction at a place of the body
  abbrev pub old : ℕ → Insn
  old i = insn_at b.code i

  abbrev pub Flows : ℕ → Flow → Type 0
  Flows i flow = (i < length b.code) × (flow_of (old i) ≡ flow)

  -- an image stands where the images do, belongs to its instruction, and finds nothing more on the stack
  abbrev pub HasImage : ℕ → Insn → Type 0
  HasImage i insn = HasInsn code m (image i) insn i true 0

  abbrev pub HasProbe : ℕ → ℕ → ℕ → Type 0
  HasProbe q id at = IsProbe code m named.integer b.arg_slots q id at

  -- a goto that is no image leads to where jumps to an instruction land, and belongs to that instruction
  abbrev pub HasHop : ℕ → ℕ → Type 0
  HasHop q to = HasInsn code m q (goto (land to)) to false 0

  -- ---- the prelude

  -- The instructions of the prelude stand one behind the other. They are no images and belong to the first instruction.
  abbrev pub HasPrelude : ℕ → List (Insn × ℕ) → Type 0
  HasPrelude q [] = ⊤
  HasPrelude q (x ∷ xs) = HasInsn code m q x.0 0 false x.1 × HasPrelude (q + 1) xs

  -- The twin begins with them: they get the array of probes and put it behind the arguments.
  pub record Prelude : Type 0 where
    pub first_insns : HasPrelude 0 (prelude_insns form.fetch named b.arg_slots)

  -- ---- images

  -- There is one image for each instruction, in order, with the same opcode and operands and its local variables
  -- shifted; so the code does what it did. Images of jumps and switches are told below.
  pub record Images : Type 0 where
    pub single : count_by (λ own. own) m.own ≡ length b.code
    pub plain : (i : ℕ) → Flows i flows.GoesOn → HasImage i (with_slot b.arg_slots (old i))
    pub returns : (i : ℕ) → Flows i flows.Returns → HasImage i (old i)
    pub throws : (i : ℕ) → Flows i flows.Throws → HasImage i (old i)

  -- ---- where they stand

  -- The probe of a goto, a return or an athrow stands directly in front of it, since nothing behind it is executed, and
  -- there jumps land. The probe of a fall-through stands directly in front of where jumps land, so that a jump doesn't
  -- pass it. Behind the prelude stands what belongs to the first instruction, and behind what belongs to an instruction
  -- what belongs to the next one.
  pub record Places : Type 0 where
    pub early : (i id : ℕ) → i < length b.code → early_probe b first i ≡ Some id → HasProbe (land i) id i
    pub leads : (i id : ℕ) → i < length b.code → lead_probe b first i ≡ Some id → HasProbe (lead i) id i
    pub first_place : lead 0 ≡ prelude_size form.fetch
    pub next_place : (i : ℕ) → i < length b.code → lead (i + 1) ≡ image i + 1 + behind_size b first form i

  -- ---- jumps

  -- A conditional jump is the image of its instruction. Where it is wide, the image is its inverse, which leads to the place two
  -- behind it, and directly behind it stands a goto to where the jump leads, which belongs to the instruction to which it leads on.
  abbrev pub HasTest : Bool → ℕ → Insn → ℕ → Type 0
  HasTest false i insn on = HasImage i insn
  HasTest true i insn on =
      HasImage i (inverted (image i + 2) insn) × HasInsn code m (image i + 1) (goto (jump_target insn)) on false 0

  -- the place behind a conditional jump
  abbrev pub behind : ℕ → ℕ
  behind i = image i + 1 + wide_size b form i

  -- The image of a jump leads to where jumps to its target land. That of a conditional jump with a probe is inverted
  -- and leads to where the fall-through leads, so that the probe is passed only where the jump is taken; behind it stand
  -- the probe and a goto to where jumps to the target land, both of which belong to the target.
  pub record Jumps : Type 0 where
    pub gotos : (i : ℕ) → Flows i flows.Jumps → HasImage i (with_places land (old i))
    pub tests : (i : ℕ) → Flows i flows.Branches → late_probe b first i ≡ None
        → HasTest (is_wide form i) i (with_places land (old i)) (jump_target (old i))
    pub inverses : (i id : ℕ) → Flows i flows.Branches → late_probe b first i ≡ Some id
        → HasTest (is_wide form i) i (inverted (lead (i + 1)) (old i)) (i + 1)
    pub probes : (i id : ℕ) → Flows i flows.Branches → late_probe b first i ≡ Some id
        → HasProbe (behind i) id (jump_target (old i))
    pub hops : (i id : ℕ) → Flows i flows.Branches → late_probe b first i ≡ Some id
        → HasHop (behind i + 4) (jump_target (old i))

  -- ---- switches

  -- where the switch at i leads for a target
  abbrev pub arm : ℕ → ℕ → ℕ
  arm i to = arm_place (probe_of b first) land (image i + 1) (arms_at b.code i) to

  -- at an arm place stand the probe and a goto, both of which belong to the target
  abbrev pub HasArm : ℕ → ℕ → Option ℕ → Type 0
  HasArm here to None = ⊤
  HasArm here to (Some id) = HasProbe here id to × HasHop (here + 4) to

  -- the arm places of these branches stand one behind the other
  abbrev pub HasArms : ℕ → List Branch → Type 0
  HasArms here [] = ⊤
  HasArms here (x ∷ xs) = HasArm here (to_of x) (probe_of b first x) × HasArms (here + hop_size (probe_of b first x)) xs

  -- The image of a switch leads to where jumps to each target land that isn't probed, and to the arm place of each
  -- other, so that keys with one target pass one probe. Behind it stand the arm places in the order of their ids.
  pub record Switches : Type 0 where
    pub images : (i : ℕ) → Flows i flows.Switches → HasImage i (with_places (arm i) (old i))
    pub arms : (i : ℕ) → Flows i flows.Switches → HasArms (image i + 1) (arms_at b.code i)

  -- ---- nothing else

  -- where the probe of a probed edge stands
  abbrev pub probe_place_by : Way → Flow → ℕ → ℕ
  probe_place_by (ways.Falls to) flow i = lead to
  probe_place_by ways.Exits flow i = land i
  probe_place_by (ways.Switches to) flow i = arm i to
  probe_place_by (ways.Jumps to) flows.Jumps i = land i
  probe_place_by (ways.Jumps to) flow i = behind i

  abbrev pub probe_place : Branch → ℕ
  probe_place x = probe_place_by x.way (flow_of (old x.at)) x.at

  -- the instruction to which it belongs
  abbrev pub probe_owner_by : Way → Flow → ℕ → ℕ
  probe_owner_by (ways.Falls to) flow i = to
  probe_owner_by ways.Exits flow i = i
  probe_owner_by (ways.Switches to) flow i = to
  probe_owner_by (ways.Jumps to) flows.Jumps i = i
  probe_owner_by (ways.Jumps to) flow i = to

  abbrev pub probe_owner : Branch → ℕ
  probe_owner x = probe_owner_by x.way (flow_of (old x.at)) x.at

  pub record ProbedEdge : Type 0 where
    pub branch : Branch
    pub listed : Contains (branches b.code) branch
    pub id : ℕ
    pub probed : probe_of b first branch ≡ Some id

  -- it is one of the four instructions of the probe of a probed edge
  pub record InProbe (q : ℕ) : Type 0 where
    pub edge : ProbedEdge
    pub step : ℕ
    pub four : step < 4
    pub place : q ≡ probe_place edge.branch + step

  -- it is the goto behind the probe of a conditional jump or of a switch's target
  abbrev pub HasGotoBehind : Way → Flow → Type 0
  HasGotoBehind (ways.Switches to) flow = ⊤
  HasGotoBehind (ways.Jumps to) flows.Branches = ⊤
  HasGotoBehind way flow = ⊥

  pub record IsHop (q : ℕ) : Type 0 where
    pub edge : ProbedEdge
    pub with_goto : HasGotoBehind edge.branch.way (flow_of (old edge.branch.at))
    pub place : q ≡ probe_place edge.branch + 4

  -- it is the goto behind a wide conditional jump
  pub record IsWideGoto (q : ℕ) : Type 0 where
    pub test : ℕ
    pub layout : is_wide form test ≡ true
    pub tests : Flows test flows.Branches
    pub place : q ≡ image test + 1

  -- what stands there that is no image
  abbrev pub IsAdded : ℕ → Type 0
  IsAdded q = InProbe q ⊎ (IsHop q ⊎ IsWideGoto q)

  -- Each probed edge has its probe at its place, and what stands behind the prelude and is neither an image nor in one
  -- of these probes is a goto that a conditional jump or a switch asks for. So no edge is told twice, and none that has
  -- no probe is told.
  pub record NothingElse : Type 0 where
    pub probes : (e : ProbedEdge) → HasProbe (probe_place e.branch) e.id (probe_owner e.branch)
    pub others : (q : ℕ) → q < length code → (q < prelude_size form.fetch) ⊎ ((slice_get m.own q ≡ Some true) ⊎ IsAdded q)

  -- A probe with this id, which stands at q and belongs to `at`, is that of a probed edge.
  pub record IsProbeOf (q id at : ℕ) : Type 0 where
    pub edge : ProbedEdge
    pub id_is : edge.id ≡ id
    pub place : q ≡ probe_place edge.branch
    pub owner : at ≡ probe_owner edge.branch

  -- there is one mark of each kind for each instruction
  pub record Lengths : Type 0 where
    pub at_length : length m.at ≡ length code
    pub own_length : length m.own ≡ length code
    pub extra_length : length m.extra ≡ length code

  -- ---- the whole

  pub record Sentences : Type 0 where
    pub lengths : Lengths
    pub prelude : Prelude
    pub images : Images
    pub nothing_else : NothingElse
    pub places : Places
    pub jumps : Jumps
    pub switches : Switches

-- The code and its marks are those of the twin of the body whose first id is `first`, in this form, where the pool has at these places
-- what the twin names. The three functions are told by the own instructions.
abbrev pub IsTwinCode : Body → ℕ → TwinForm → TwinPlaces → List Insn → Marks → Type 0
IsTwinCode b first form named code m =
    Sentences b first form named code m (image_place m.own) (land_place b first m.own) (lead_place b first m.own)

-- the same of a probe in it
abbrev pub IsProbeIn : Body → ℕ → TwinForm → TwinPlaces → List Insn → Marks → ℕ → ℕ → ℕ → Type 0
IsProbeIn b first form named code m q id at =
    IsProbeOf b first form named code m (image_place m.own) (land_place b first m.own) (lead_place b first m.own) q id at
