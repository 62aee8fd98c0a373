-- Frames of synchronized methods, and the locks that they give back as they are left (JVM Specification 2.11.10).
use Rattle.std.specs.Prelude.{ℕ, List, [], ◌∷◌, nat_lt, if◌then◌else◌}
use Rattle.jc_monitor_model.specs.Locks.{of_class, Held, given_by}

-- a frame of a synchronized method, by how deep it is among the frames of its thread, and the class whose lock it has taken
pub record SynchronizedFrame : Type 0 where
  pub depth : ℕ
  pub class : ℕ

-- Those of a thread stand the deepest first. These are left where it has so many frames.
abbrev pub frames_left : (depth : ℕ) → List SynchronizedFrame → List SynchronizedFrame
frames_left depth [] = []
frames_left depth (f ∷ frames) = if nat_lt depth f.depth then frames_left depth frames else f ∷ frames_left depth frames

-- what is held then: each frame that is there no longer has given the lock of its class back once
abbrev pub held_left : ℕ → (depth : ℕ) → List SynchronizedFrame → List Held → List Held
held_left t depth [] held = held
held_left t depth (f ∷ frames) held =
    if nat_lt depth f.depth then held_left t depth frames (given_by t (of_class f.class) held) else held_left t depth frames held
