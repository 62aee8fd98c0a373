-- What is said of each instruction of an instrumented method, and where those stand that the method had.
use Rattle.std.specs.Prelude.{◌≡◌, ℕ, zero, suc, ◌+◌, ◌-◌, Bool, true, false, List, [], ◌∷◌, Some, pos, nat_le, if◌then◌else◌, length, slice_get, slice_index_or}
use Rattle.jc_methods.specs.Opcode as opcode
use Rattle.jc_methods.specs.declared.insn.Insn.{Insn}
use Rattle.jc_methods.specs.declared.insn.Insn.TheVariants as insns
use Rattle.jc_methods.specs.declared.body.Body.{Body}
use Rattle.jc_methods.specs.declared.body.Use.{Use}
use Rattle.jc_methods.specs.declared.body.What.TheVariants as whats
use Rattle.jc_methods.specs.declared.probe_members.Fetch.{Fetch}
use Rattle.jc_methods.specs.declared.probe_members.Fetch.TheVariants as fetches
use Rattle.jc_methods.specs.ProbeMembers.{most_short}
use Rattle.jc_methods.specs.WellMade.{what_used}
use Rattle.jc_plan.specs.Plan.{lead_probe}
use Rattle.jc_emit.specs.Sizes.{probe_size, early_probe}

-- one entry of each list for each instruction
pub record Marks : Type 0 where
  -- the instruction of the body to which it belongs
  pub at : List ℕ
  -- whether it is the image of that instruction
  pub own : List Bool
  -- how many values a probe or the prelude has put on the stack before it
  pub extra : List ℕ

-- ---- what stands at a place

pub record HasInsn (code : List Insn) (m : Marks) (q : ℕ) (insn : Insn) (at : ℕ) (own : Bool) (extra : ℕ) : Type 0 where
  pub insn_is : slice_get code q ≡ Some insn
  pub at_is : slice_get m.at q ≡ Some at
  pub own_is : slice_get m.own q ≡ Some own
  pub extra_is : slice_get m.extra q ≡ Some extra

-- ---- the instructions of the prelude and of probes (JVM Specification 6.5)

abbrev pub aload : ℕ → Insn
aload slot = insns.Local opcode.aload slot

abbrev pub astore : ℕ → Insn
astore slot = insns.Local opcode.astore slot

abbrev pub invokestatic : ℕ → Insn
invokestatic place = insns.Member opcode.invokestatic place

abbrev pub iconst_1 : Insn
iconst_1 = insns.Simple opcode.iconst_1

abbrev pub bastore : Insn
bastore = insns.Simple opcode.bastore

-- the shortest instruction with its operand in it that pushes a number: iconst_0 to iconst_5, bipush to 127, and sipush
abbrev pub push : ℕ → Insn
push n =
    if nat_le n 5 then insns.Simple (opcode.iconst_0 + n)
    else if nat_le n 127 then insns.Push opcode.bipush (pos n)
    else insns.Push opcode.sipush (pos n)

-- the same for each number, where the Integers of those above stand at these places of the pool: ldc of one
abbrev pub push_by : (integer : ℕ → ℕ) → ℕ → Insn
push_by integer n = if nat_le n most_short then push n else insns.Constant (integer n)

-- The instruction pushes the number, where these are the entries of the pool that the code uses.
abbrev pub PushesBy : Bool → List Use → Insn → ℕ → Type 0
PushesBy true uses insn n = insn ≡ push n
PushesBy false uses insn n = (place : ℕ) × (insn ≡ insns.Constant place) × (what_used uses place ≡ Some (whats.Int (pos n)))

abbrev pub Pushes : List Use → Insn → ℕ → Type 0
Pushes uses insn n = PushesBy (nat_le n most_short) uses insn n

-- Where the pool has what a twin names: the method or the constant that gives the array of probes; the class of the array, which
-- a twin names that gets it by a constant; and the Integer of each id that no shorter instruction pushes.
pub record TwinPlaces : Type 0 where
  pub giver : ℕ
  pub array : ℕ
  pub integer : ℕ → ℕ

-- before the pool has what the prelude names
abbrev pub unplaced : (integer : ℕ → ℕ) → TwinPlaces
unplaced integer = record { giver = 0; array = 0; integer = integer }

-- The prelude: its instructions in order, each with how many values the ones in front of it have put on the stack. The array of
-- probes is got from the method or the constant, and stored in local variable v. The constant is an object for the kind check
-- (JVM Specification 4.10.1.9), so it is cast to the class of the array.
abbrev pub prelude_insns : Fetch → TwinPlaces → (v : ℕ) → List (Insn × ℕ)
prelude_insns fetches.Member p v = (invokestatic p.giver, 0) ∷ (astore v, 1) ∷ []
prelude_insns fetches.Constant p v = (insns.Constant p.giver, 0) ∷ (insns.OfClass opcode.checkcast p.array, 1) ∷ (astore v, 1) ∷ []

-- how many instructions it has
abbrev pub prelude_size : Fetch → ℕ
prelude_size fetch = length (prelude_insns fetch (unplaced (λ n. 0)) 0)

-- the one with this number
abbrev pub prelude_insn : Fetch → TwinPlaces → (v k : ℕ) → Insn
prelude_insn fetch p v k = (slice_index_or (prelude_insns fetch p v) k (insns.Simple opcode.nop, 0)).0

-- A probe stands at a place, and belongs to the instruction `at`: the array of probes stands in local variable v, and
-- true is stored at the index `id` of it.
pub record IsProbe (code : List Insn) (m : Marks) (integer : ℕ → ℕ) (v q id at : ℕ) : Type 0 where
  pub array : HasInsn code m q (aload v) at false 0
  pub number : HasInsn code m (q + 1) (push_by integer id) at false 1
  pub one : HasInsn code m (q + 2) iconst_1 at false 2
  pub store : HasInsn code m (q + 3) bastore at false 3

-- The same by the number that is pushed, where these are the entries of the pool that the code uses.
pub record IsProbeBy (uses : List Use) (code : List Insn) (m : Marks) (v q id at : ℕ) : Type 0 where
  pub pushing : Insn
  pub pushes : Pushes uses pushing id
  pub array : HasInsn code m q (aload v) at false 0
  pub number : HasInsn code m (q + 1) pushing at false 1
  pub one : HasInsn code m (q + 2) iconst_1 at false 2
  pub store : HasInsn code m (q + 3) bastore at false 3

-- no two probes have one id
abbrev pub HasEachIdOnce : List Use → List Insn → Marks → (v : ℕ) → Type 0
HasEachIdOnce uses code m v = (q r id at to : ℕ) → IsProbeBy uses code m v q id at → IsProbeBy uses code m v r id to → q ≡ r

-- ---- where instructions of the body stand

-- The place of the image of an instruction: the own instructions are the images, in order. Behind the last one
-- the places run on from the end of the code, so that the number of instructions stands for the new end.
abbrev pub image_place : List Bool → ℕ → ℕ
image_place [] i = i
image_place (true ∷ own) zero = 0
image_place (true ∷ own) (suc i) = suc (image_place own i)
image_place (false ∷ own) i = suc (image_place own i)

-- where jumps to an instruction land: at its image, or at the probe directly in front of it where it is a goto, a
-- return or an athrow with a probe
abbrev pub land_place : Body → ℕ → List Bool → ℕ → ℕ
land_place b first own i = image_place own i - probe_size (early_probe b first i)

-- where a fall-through into an instruction leads: to its probe directly in front of where jumps land, or there
abbrev pub lead_place : Body → ℕ → List Bool → ℕ → ℕ
lead_place b first own i = land_place b first own i - probe_size (lead_probe b first i)
