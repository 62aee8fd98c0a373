-- The values that reading frames has in hand, and what they stand for.
use Rattle.std.specs.Prelude.{◌≡◌, ⊤, ℕ, ◌+◌, ◌<◌, ◌≤◌, ◌^◌, List, [], length, map, unwrap_or}
use Rattle.std.specs.List.{sum_by}
use Rattle.jc_methods.specs.declared.kind.Kind.TheVariants as kinds
use Rattle.jc_methods.specs.VerificationTypes.{Names, VerificationType, object, verification_type, IsNumbered}
use Rattle.jc_methods.specs.EntryState.{in_locals}
use Rattle.jc_methods.specs.WellMade.{kind_slots}
use Rattle.jc_pool.specs.Pool.{PoolValue}
use Rattle.jc_pool.specs.Lookup.{class_name_of}
use Rattle.jc_frames.specs.declared.items.FrameItem.{FrameItem}
use Rattle.jc_frames.specs.declared.items.FrameItem.TheVariants as frames
use Rattle.jc_frames.specs.declared.method.Value.{Value}
use Rattle.jc_frames.specs.declared.method.Value.TheVariants as values
use Rattle.jc_frames.specs.declared.running.Frame.{Frame}
use Rattle.jc_frames.specs.declared.running.Running.{Running}
use Rattle.jc_frames.specs.Frames.{Ground, Before, Found}

-- ---- values

-- the name of the class at a place in the pool
abbrev pub name_at : PoolValue → ℕ → List ℕ
name_at pool place = unwrap_or (class_name_of pool place) []

abbrev pub held_value : PoolValue → Names → Value → VerificationType
held_value pool names (values.Of kind) = verification_type names kind
held_value pool names (values.ClassAt place) = object (name_at pool place)

abbrev pub held_values : PoolValue → Names → List Value → List VerificationType
held_values pool names vs = map (held_value pool names) vs

-- the value has no number of a class
abbrev pub IsUnnumbered : Value → Type 0
IsUnnumbered (values.Of (kinds.Object number)) = ⊥
IsUnnumbered _ = ⊤

-- the value's number of a class, if it has one, is one of so many
abbrev pub IsNumberedValue : ℕ → Value → Type 0
IsNumberedValue count (values.Of kind) = IsNumbered count kind
IsNumberedValue count (values.ClassAt place) = ⊤

-- how many slots a value takes
abbrev pub value_slots : Value → ℕ
value_slots (values.Of kind) = kind_slots kind
value_slots (values.ClassAt place) = 1

-- ---- between two frames

-- a frame lists fewer types than a number of two bytes counts
abbrev pub HasFewTypes : FrameItem → Type 0
HasFewTypes (frames.Append delta added) = length added < 65536
HasFewTypes (frames.Full delta locals stack) = (length locals < 65536) × (length stack < 65536)
HasFewTypes _ = ⊤

-- the values are counted, and few
pub record IsRunning (r : Running) : Type 0 where
  pub slots : r.slots ≡ sum_by value_slots r.values.items
  pub few : length r.values.items < 2 ^ 32
  pub base : r.base ≤ 2 ^ 32 + 1

-- what the next frame depends on
abbrev pub before : PoolValue → Names → Running → Before
before pool names r = record { base = r.base; values = held_values pool names r.values.items }

-- what a frame says, with what the next one depends on
abbrev pub found_as : Ground → Names → Running → Frame → Found
found_as g names r frame = record {
  frame = record {
    at = frame.at;
    state = record { locals = in_locals g.max_locals (held_values g.pool names r.values.items); stack = held_values g.pool names frame.stack.items };
  };
  next = before g.pool names r;
}
