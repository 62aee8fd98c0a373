-- The answers of the call that reads a StackMapTable.
use Rattle.std.specs.Prelude.{◌≡◌, ⊤, ℕ, List, ◌++◌, None}
use Rattle.std.specs.List.{flat_map}
use Rattle.jc_methods.specs.VerificationTypes.{Names, TypeState, TypeStateAt, class_names}
use Rattle.jc_bytes.specs.declared.fail.Fail.{Fail}
use Rattle.jc_bytes.specs.declared.fail.Fail.TheVariants as fails
use Rattle.jc_bytes.specs.declared.refusal.Refusal.{Refusal}
use Rattle.jc_bytes.specs.declared.refusal.RefusalKind.TheVariants as kinds
use Rattle.jc_frames.specs.Frames.{Ground}
use Rattle.jc_frames.specs.Table.{TableFault, Outcome, at_fault}

-- bad code of no method, at the place
abbrev pub bad_frame : ℕ → Refusal
bad_frame place = record { kind = kinds.BadCode; method = None; place = place }

-- memory was refused, or the table has its fault at the place of the refusal
abbrev pub IsFrameRefusal : Ground → TypeState → List ℕ → Fail Refusal → Type 0
IsFrameRefusal g entry table fails.Memory = ⊤
IsFrameRefusal g entry table (fails.Said refusal) = (place : ℕ) × (refusal ≡ bad_frame place) × TableFault g entry table place

-- memory was refused, or reading finds the fault at the place of the refusal
abbrev pub FailsAt : Outcome → Fail Refusal → Type 0
FailsAt outcome fails.Memory = ⊤
FailsAt outcome (fails.Said refusal) = (place : ℕ) × (refusal ≡ bad_frame place) × (outcome ≡ at_fault place)

-- the names of the classes in a state: those of the local variables, and then those of the stack
abbrev pub seen_names : TypeState → Names
seen_names s = class_names s.locals ++ class_names s.stack

-- the names of the classes in the states of frames, frame by frame
abbrev pub frame_names : List TypeStateAt → Names
frame_names frames = flat_map (λ f. seen_names f.state) frames
