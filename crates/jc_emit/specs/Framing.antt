-- What the frames of instrumented code are made from.
use Rattle.std.specs.Prelude.{◌≡◌, ℕ, ◌+◌, ◌-◌, ◌<◌, ◌≤◌, Bool, false, ⊤, List, [], ◌∷◌, ◌++◌, length, take, Option, All, nat_eq, is_some, slice_index_or}
use Rattle.std.specs.List.{list_any}
use Rattle.jc_methods.specs.WellMade.{IsCode, IsState}
use Rattle.jc_methods.specs.declared.kind.Kind.{Kind}
use Rattle.jc_methods.specs.declared.kind.Kind.TheVariants as kinds
use Rattle.jc_methods.specs.declared.kind.State.{State}
use Rattle.jc_methods.specs.declared.body.Body.{Body}
use Rattle.jc_methods.specs.declared.body.FrameAt.{FrameAt}
use Rattle.jc_plan.specs.Plan.{plan_of}
use Rattle.jc_emit.specs.declared.frames.Framing.{Framing}
use Rattle.jc_emit.specs.Sizes.{hop_size}
use Rattle.jc_emit.specs.Placing.{ArePlaces}
use Rattle.jc_emit.specs.Emission.{Emitting, frame_if, frame}

-- the `new` of an object without a constructor's call is one of the first so many instructions
abbrev pub IsMadeWithin : ℕ → Kind → Type 0
IsMadeWithin count (kinds.Uninit at) = at < count
IsMadeWithin count kind = ⊤

-- the state without so many of the topmost stack entries
abbrev pub without : ℕ → State → State
without operands s = record { locals = s.locals; stack = take (length s.stack - operands) s.stack }

-- for each of so many instructions, whether a frame stands there
pub record AreFramed (frames : List FrameAt) (count : ℕ) (marks : List Bool) : Type 0 where
  pub size : length marks ≡ count
  pub each : (i : ℕ) → i < count → slice_index_or marks i false ≡ list_any (λ f. nat_eq f.at i) frames

-- the frames at arm places, by the probes of a switch's targets
abbrev pub id_frames : ℕ → State → List (Option ℕ) → List FrameAt
id_frames here state [] = []
id_frames here state (id ∷ ids) = frame_if (is_some id) (frame here state) ++ id_frames (here + hop_size id) state ids

-- the parts are those of one body, whose first id is `first`, and of what its class gives
pub record IsFraming (first : ℕ) (given : Emitting) (f : Framing) : Type 0 where
  pub code : IsCode f.body.now.code
  pub plan : f.plan.now ≡ plan_of f.body.now first
  pub places : ArePlaces f.body.now first given.fetch f.places.now
  pub array : f.array ≡ given.array
  pub count : length f.states.now ≡ length f.body.now.code
  pub states : All (IsState f.body.now.code f.body.now.max_locals f.body.now.max_stack) f.states.now
  pub arguments : f.body.now.arg_slots ≤ f.body.now.max_locals
  pub framed : AreFramed f.body.now.frames (length f.body.now.code) f.framed.items

-- one state for each instruction, with room for it
pub record ArePut (b : Body) (states : List State) : Type 0 where
  pub count : length states ≡ length b.code
  pub each : All (IsState b.code b.max_locals b.max_stack) states
