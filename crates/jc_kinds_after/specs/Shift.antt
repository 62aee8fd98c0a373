-- States and instructions of a body as those of its instrumented body: one local variable more, behind the
-- arguments, and each instruction at its image.
use Rattle.std.specs.Prelude.{◌≡◌, ⊤, ℕ, ◌+◌, ◌≤◌, Bool, true, false, IsTrue, List, [], ◌∷◌, length, map, slice_index_or, Some, None, option_map}
use Rattle.std.specs.Prelude.{nat_eq, nat_lt, if◌then◌else◌}
use Rattle.std.specs.List.{insert, AllByRecursion}
use Rattle.jc_methods.specs.declared.insn.Insn.{Insn}
use Rattle.jc_methods.specs.declared.insn.Insn.TheVariants as insns
use Rattle.jc_methods.specs.declared.body.Body.{Body}
use Rattle.jc_methods.specs.WellMade.{what_used}
use Rattle.jc_methods.specs.Flow.{is_conditional_branch, inverse_of}
use Rattle.jc_methods.specs.Insn.{with_places}
use Rattle.jc_methods.specs.InsnUse.{pool_place, is_of_two_slots}
use Rattle.jc_methods.specs.Slots.{with_slots}
use Rattle.jc_methods.specs.VerificationTypes.{VerificationType, top, object, uninit, TypeState, is_pair}
use Rattle.jc_kinds_after.specs.declared.want.Want.{Want}
use Rattle.jc_kinds_after.specs.declared.want.Want.TheVariants as wants
use Rattle.jc_kinds_after.specs.Step.{Gives, kind, StackEffect, Step, moves, loads, stores, counts, builds, Ground, apply}
use Rattle.jc_kinds_after.specs.After.{insn_at, after_of}

-- ---- states

-- an object that isn't initialized is named by the image of its `new`
abbrev pub renamed : (ℕ → ℕ) → VerificationType → VerificationType
renamed image (uninit at) = uninit (image at)
renamed image h = h

-- the array of the class's probes
abbrev pub probes : VerificationType
probes = object (91 ∷ 90 ∷ [])

-- the shifted form of a state: the array of probes stands in local variable v
abbrev pub shifted : (ℕ → ℕ) → ℕ → TypeState → TypeState
shifted image v s = record { locals = insert (map (renamed image) s.locals) v probes; stack = map (renamed image) s.stack }

-- ---- instructions

-- a local variable below v stays, one at or above v goes up by one
abbrev pub slot_of : ℕ → ℕ → ℕ
slot_of v k = if nat_lt k v then k else k + 1

-- the instruction, with the local variable that it names shifted
abbrev pub with_slot : ℕ → Insn → Insn
with_slot v insn = with_slots (slot_of v) insn

-- the image of an instruction: it leads elsewhere, and a conditional jump may be inverted
pub data IsImage (v : ℕ) (insn new : Insn) : Type 0 where
  led : (to : ℕ → ℕ) → new ≡ with_places to (with_slot v insn) → IsImage v insn new
  inverted : (op to other : ℕ) → insn ≡ insns.Jump op to → IsTrue (is_conditional_branch op) → new ≡ insns.Jump (inverse_of op) other → IsImage v insn new

-- the instructions of the one body have images in the other, which uses the same and has room enough
pub record HasImages (v : ℕ) (image : ℕ → ℕ) (b new : Body) : Type 0 where
  pub owner : new.owner ≡ b.owner
  pub desc : new.desc ≡ b.desc
  pub room : b.max_stack ≤ new.max_stack
  -- no two instructions have one image, also past the end of the code
  pub apart : (i j : ℕ) → nat_eq (image i) (image j) ≡ nat_eq i j
  pub images : (i : ℕ) (insn : Insn) → insn_at b i ≡ Some insn → (other : Insn) × (insn_at new (image i) ≡ Some other) × IsImage v insn other
  pub past : (i : ℕ) → insn_at b i ≡ None → insn_at new (image i) ≡ None
  pub uses : (i place : ℕ) (insn : Insn) → insn_at b i ≡ Some insn → pool_place insn ≡ Some place → what_used new.uses place ≡ what_used b.uses place

-- ---- a long or a double round the new local variable

-- v is above 0, and the instruction reads or writes a long or a double at v - 1
abbrev pub Straddles : ℕ → Insn → Type 0
Straddles v (insns.Local op slot) = (is_of_two_slots op ≡ true) × (slot + 1 ≡ v)
Straddles v insn = ⊥

-- no long or double stands at v - 1
abbrev pub NoPairBefore : ℕ → List VerificationType → Type 0
NoPairBefore v locals = (k : ℕ) → k + 1 ≡ v → is_pair (slice_index_or locals k top) ≡ false

abbrev pub StaysWhole : ℕ → TypeState → Type 0
StaysWhole v s = NoPairBefore v s.locals

-- ---- steps

abbrev pub shifted_step : ℕ → Step → Step
shifted_step v (loads k w) = loads (slot_of v k) w
shifted_step v (stores k w) = stores (slot_of v k) w
shifted_step v (counts k) = counts (slot_of v k)
shifted_step v st = st

-- no value that is given names an instruction
abbrev pub IsPlaceless : Gives → Type 0
IsPlaceless (kind (uninit at)) = ⊥
IsPlaceless _ = ⊤

abbrev pub IsPlain : StackEffect → Type 0
IsPlain f = AllByRecursion IsPlaceless f.given

abbrev pub takes_pair : Want → Bool
takes_pair wants.Long = true
takes_pair wants.Double = true
takes_pair wants.Pair = true
takes_pair _ = false

-- the step gives no object by its place, and writes no long or double round the new local variable
abbrev pub CanShift : ℕ → Step → Type 0
CanShift v (moves forms) = AllByRecursion IsPlain forms
CanShift v (stores k w) = takes_pair w ≡ true → k + 1 ≡ v → ⊥
CanShift v (builds f) = IsPlain f
CanShift v _ = ⊤

-- places keep apart, and the rest stays
pub record Images (image : ℕ → ℕ) (g new : Ground) : Type 0 where
  pub apart : (i j : ℕ) → nat_eq (image i) (image j) ≡ nat_eq i j
  pub place : new.place ≡ image g.place
  pub classes : (i : ℕ) → new.class_at (image i) ≡ g.class_at i
  pub owner : new.owner ≡ g.owner
  pub most : new.most ≡ g.most

-- the shifted step of the shifted state is the shifted state after the step
abbrev pub StepShifts : Type 0
StepShifts = (image : ℕ → ℕ) (v : ℕ) (g new : Ground) (st : Step) (s : TypeState) →
    Images image g new → CanShift v st → v ≤ length s.locals → StaysWhole v s →
    apply new (shifted_step v st) (shifted image v s) ≡ option_map (shifted image v) (apply g st s)

-- where an instruction has a state after it, its image has the shifted state after the shifted state
abbrev pub AfterShifts : Type 0
AfterShifts = (v : ℕ) (image : ℕ → ℕ) (b new : Body) (i : ℕ) (insn : Insn) (s t : TypeState) →
    HasImages v image b new → insn_at b i ≡ Some insn → (Straddles v insn → ⊥) → v ≤ length s.locals → StaysWhole v s →
    after_of b i s ≡ Some t → after_of new (image i) (shifted image v s) ≡ Some (shifted image v t)
