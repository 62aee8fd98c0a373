-- What each turn keeps of the locks: they are so many at most, and each frame of a synchronized method has its class's lock.
use Rattle.std.specs.Prelude.{◌≡◌, ⊤, ℕ, suc, ◌≤◌, ◌<◌, Bool, true, false, List, [], ◌∷◌, length, filter, nat_eq}
use Rattle.std.specs.List.{AllByRecursion}
use Rattle.jc_programs.specs.declared.program.Program.{Program}
use Rattle.jc_machine_model.specs.World.{World}
use Rattle.jc_machine_model.specs.Step.{most_frames}
use Rattle.jc_monitor_model.specs.Locks.{of_class, Held, most_locks, most_times, is_of_lock, Access, free, its_own, another's, access}
use Rattle.jc_monitor_model.specs.SynchronizedFrames.{SynchronizedFrame}
use Rattle.jc_monitor_model.specs.MonitorWorld.{MonitorWorld, frames_of}
use Rattle.jc_monitor_model.specs.MonitorStep.{depth, is_stuck}

-- ---- locks

-- no lock stands in the list twice
abbrev pub AreApart : List Held → Type 0
AreApart [] = ⊤
AreApart (h ∷ held) = AllByRecursion (λ (other : Held). is_of_lock h.lock other ≡ false) held × AreApart held

-- one of so many threads holds the lock
pub record IsHeld (threads : ℕ) (h : Held) : Type 0 where
  pub thread : h.thread < threads
  pub some : 1 ≤ h.count
  pub few : h.count ≤ most_times

-- a thread may take the lock: there is room for one that isn't held, and the count of one that it holds may rise
abbrev pub MayTake : (held : ℕ) → Access → Type 0
MayTake held free = held < most_locks
MayTake held (its_own n) = n < most_times
MayTake held another's = ⊥

-- it may give the lock back
abbrev pub MayGive : Access → Type 0
MayGive (its_own n) = 1 ≤ n
MayGive access = ⊥

-- how often a thread has taken a lock
abbrev pub times_taken : Access → ℕ
times_taken (its_own n) = n
times_taken access = 0

-- ---- frames of synchronized methods

-- The depths fall, each below this one.
abbrev pub AreBelow : (bound : ℕ) → List SynchronizedFrame → Type 0
AreBelow bound [] = ⊤
AreBelow bound (f ∷ frames) = (1 ≤ f.depth) × (f.depth < bound) × AreBelow f.depth frames

-- how many are of methods of the class
abbrev pub frames_in : ℕ → List SynchronizedFrame → ℕ
frames_in class frames = length (filter (λ (f : SynchronizedFrame). nat_eq f.class class) frames)

-- how deep a frame of a thread may be that has so many frames, or is stuck
abbrev pub deepest : (stuck : Bool) → (depth : ℕ) → ℕ
deepest true depth = most_frames
deepest false depth = depth

-- The frames are of the thread.
abbrev pub AreFramesOf : Program → World → ℕ → List SynchronizedFrame → Type 0
AreFramesOf program w t frames = AreBelow (suc (deepest (is_stuck w t) (depth program w t))) frames

-- ---- the world

-- the locks are apart, so many at most, and held by threads of the world, each of which has a list of frames
pub record AreLocks (threads : ℕ) (held : List Held) : Type 0 where
  pub apart : AreApart held
  pub few : length held ≤ most_locks
  pub each : AllByRecursion (IsHeld threads) held

-- a thread has taken the lock of a class as often as it has frames of synchronized methods of the class
abbrev pub AreCounted : ℕ → List Held → List SynchronizedFrame → Type 0
AreCounted t held frames = (class : ℕ) → times_taken (access t (of_class class) held) ≡ frames_in class frames

pub record KeepsLocks (program : Program) (m : MonitorWorld) : Type 0 where
  pub locks : AreLocks (length m.world.threads) m.held
  pub threads : length m.frames ≡ length m.world.threads
  -- each frame of a synchronized method is one of its thread's
  pub below : (t : ℕ) → AreFramesOf program m.world t (frames_of m t)
  pub counted : (t : ℕ) → AreCounted t m.held (frames_of m t)

-- the same, but that frames of this thread may have been left
pub record KeepsLocksBut (program : Program) (left : ℕ) (m : MonitorWorld) : Type 0 where
  pub locks : AreLocks (length m.world.threads) m.held
  pub threads : length m.frames ≡ length m.world.threads
  pub others : (t : ℕ) → nat_eq left t ≡ false → AreFramesOf program m.world t (frames_of m t)
  pub few : AreBelow (suc most_frames) (frames_of m left)
  pub counted : (t : ℕ) → AreCounted t m.held (frames_of m t)
