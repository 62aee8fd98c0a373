-- The world with its locks, as it is kept in memory.
use Rattle.std.proofs.Common.{◌≡◌, ◌⊎◌, inl, inr, ℕ, zero, suc, ◌<◌, List, [], ◌∷◌, length, map, take, refl, sym, ap, ap₂, ◌∙◌, subst, arith, Contains}
use Rattle.std.specs.Prelude.{slice_set, slice_index_or}
use Rattle.std.proofs.lemmas.List.{map-set, get_or-take, get_or-map}
use Rattle.std.proofs.Math.Seq.{take-set-lt}
use Rattle.jc_region.specs.Memory.{Allocation}
use Rattle.jc_programs.specs.declared.program.Program.{Program}
use Rattle.jc_machine_model.specs.World.{Hit, World}
use Rattle.jc_machine.specs.Machines.{Machine, world_of, Fits, KeepsMemory as MachineKeepsMemory}
use Rattle.jc_machine.specs.Hits.{Gained}
use Rattle.jc_machine.specs.Turned.{without_hits as machine_without_hits}
use Rattle.jc_monitor_model.specs.Locks.{Held}
use Rattle.jc_monitor_model.specs.SynchronizedFrames.{SynchronizedFrame}
use Rattle.jc_monitor_model.specs.MonitorWorld.{MonitorWorld, frames_of, in_world}
use Rattle.jc_monitor_model.specs.KeptLocks.{KeepsLocks, KeepsLocksBut}
use Rattle.jc_monitor_world.specs.declared.monitor_world.MonitorWorld.TheInside.{Inside}
use Rattle.jc_monitor_world.specs.Kept.{LocksSeen, FramesSeen}
use Rattle.jc_monitor_world.specs.Monitored.{MonitorMemory, Monitored, monitor_world_of, without_hits, KeepsMemory, FitsMonitored, IsAfterTurn, monitored_of, IsMonitored}

-- ---- hits

-- what is known of the locks says nothing of hits
pub unhit_locks : (program : Program) (n : MonitorWorld) → KeepsLocks program n → KeepsLocks program (without_hits n)
unhit_locks program n kept = record { locks = kept.locks; threads = kept.threads; below = kept.below; counted = kept.counted }

pub unhit_but : (program : Program) (t : ℕ) (n : MonitorWorld) → KeepsLocksBut program t n → KeepsLocksBut program t (without_hits n)
unhit_but program t n kept =
    record { locks = kept.locks; threads = kept.threads; others = kept.others; few = kept.few; counted = kept.counted }

-- a sink without a hit more
pub nothing_gained : (hits : ℕ → ℕ → Type 0) → Gained hits [] hits
nothing_gained hits class id = (λ had. inl had, λ e. by e)
  where
    by : hits class id ⊎ Contains {X = Hit} [] (record { class = class; id = id }) → hits class id
    by (inl had) = had
    by (inr there) = absurd (let less = there.1 in omega (arith, less))

-- ---- memory

-- the same stands in the place of an item
pub same_in : {X Y : Type 0} (g : X → Y) (xs : List X) (t : ℕ) (x next : X) → x ≡ slice_index_or xs t x → g next ≡ g x
    → map g (slice_set xs t next) ≡ map g xs
same_in g [] t x next is same = refl
same_in g (y ∷ xs) zero x next is same = ap (λ v. v ∷ map g xs) (same ∙ ap g is)
same_in g (y ∷ xs) (suc t) x next is same = ap (λ vs. g y ∷ vs) (same_in g xs t x next is same)

-- one turn or more behind others
pub keeps_on : (first before after : Monitored) → KeepsMemory first before → KeepsMemory before after → KeepsMemory first after
keeps_on first before after so_far more = (((more.0).0 ∙ (so_far.0).0, (more.0).1 ∙ (so_far.0).1), more.1 ∙ so_far.1)

-- ---- lists of frames

abbrev pub lists_of : List FramesSeen → List (List SynchronizedFrame)
lists_of all = map (λ (f : FramesSeen). f.frames) all

abbrev pub memories_of : List FramesSeen → List Allocation
memories_of all = map (λ (f : FramesSeen). f.memory) all

pub lists_set : (n : ℕ) (all : List FramesSeen) (t : ℕ) (next : FramesSeen) → t < n
    → take n (lists_of (slice_set all t next)) ≡ slice_set (take n (lists_of all)) t next.frames
lists_set n all t next less =
    ap (take n) (map-set (λ (f : FramesSeen). f.frames) all t next) ∙ take-set-lt n (lists_of all) t next.frames less

pub list_at : (n : ℕ) (all : List FramesSeen) (t : ℕ) (f : FramesSeen) → t < n → t < length all → f ≡ slice_index_or all t f
    → slice_index_or (take n (lists_of all)) t [] ≡ f.frames
list_at n all t f less within is =
    get_or-take n (lists_of all) t [] less
    ∙ (get_or-map (λ (x : FramesSeen). x.frames) all t f [] within ∙ ap (λ (x : FramesSeen). x.frames) (sym is))

-- a world of these parts
abbrev pub made_of : World → List Held → List (List SynchronizedFrame) → MonitorWorld
made_of w held frames = record { world = w; held = held; frames = frames }

module _ (w : Inside) (is : IsMonitored w) (m : Monitored) (view : monitored_of w ≡ m) where
  -- ---- a thread

  module _ (t : ℕ) (less : t < length m.machine.threads) where
    pub below : t < length w.world.threads
    below = subst (λ (x : Monitored). t < length x.machine.threads) (sym view) less

    pub in_frames : t < length w.frames.items
    in_frames = let less_here = below in let many = is.frames in let few = is.few in omega (arith, less_here, many, few)

    -- its frames of synchronized methods
    pub frames_here : (f : FramesSeen) → f ≡ slice_index_or w.frames.items t f → frames_of (monitor_world_of m) t ≡ f.frames
    frames_here f at =
        subst (λ (x : Monitored). frames_of (monitor_world_of x) t ≡ f.frames) view
        (list_at (length w.world.threads) w.frames.items t f below in_frames at)

    -- another list of frames in their place
    pub framed_world : (next : Machine) (held : List Held) (after : FramesSeen) → length next.threads ≡ length w.world.threads
        → made_of (world_of next) held (take (length next.threads) (lists_of (slice_set w.frames.items t after)))
        ≡ made_of (world_of next) held (slice_set m.frames t after.frames)
    framed_world next held after same =
        ap (λ n. made_of (world_of next) held (take n (lists_of (slice_set w.frames.items t after)))) same
        ∙ (ap (λ ls. made_of (world_of next) held ls) (lists_set (length w.world.threads) w.frames.items t after below)
        ∙ ap (λ (x : Monitored). made_of (world_of next) held (slice_set x.frames t after.frames)) view)

  -- ---- the world and the locks behind a turn

  pub next_world : (next : Machine) (held : List Held) → length next.threads ≡ length w.world.threads
      → made_of (world_of next) held (take (length next.threads) (lists_of w.frames.items)) ≡ made_of (world_of next) held m.frames
  next_world next held same =
      ap (λ n. made_of (world_of next) held (take n (lists_of w.frames.items))) same
      ∙ ap (λ (x : Monitored). made_of (world_of next) held x.frames) view

  -- what is said of the world in memory
  pub in_view : (next : World) (act : World → World) → next ≡ act (world_of w.world) → next ≡ act (world_of m.machine)
  in_view next act is = is ∙ ap (λ (x : Monitored). act (world_of x.machine)) view

  pub locks_world : (next : Machine) (held after : List Held) (behind : World) → length next.threads ≡ length w.world.threads
      → world_of next ≡ machine_without_hits behind → held ≡ after
      → made_of (world_of next) held (take (length next.threads) (lists_of w.frames.items))
      ≡ without_hits (record (monitor_world_of m) { world = behind; held = after })
  locks_world next held after behind same is locks =
      next_world next held same ∙ ap₂ (λ (x : World) (h : List Held). made_of x h m.frames) is locks

  pub world_alone : (next : Machine) (behind : World) → length next.threads ≡ length w.world.threads → world_of next ≡ machine_without_hits behind
      → made_of (world_of next) w.locks.held (take (length next.threads) (lists_of w.frames.items)) ≡ without_hits (in_world (monitor_world_of m) behind)
  world_alone next behind same is = locks_world next w.locks.held m.held behind same is (ap (λ (x : Monitored). x.held) view)

  -- all that lies with the locks lies where it lay
  pub next_memory : (next : Machine) (after : MonitorMemory) → MachineKeepsMemory w.world next → after ≡ (monitored_of w).memory
      → MachineKeepsMemory m.machine next × (after ≡ m.memory)
  next_memory next after keeps same =
      subst (λ (x : Monitored). MachineKeepsMemory x.machine next × (after ≡ x.memory)) view (keeps, same)

-- there is room still
pub monitored_next : (w : Inside) → IsMonitored w → (next : Machine) (locks : LocksSeen) → length next.threads ≡ length w.world.threads
    → IsMonitored (record w { world = next; locks = locks })
monitored_next w is next locks same = record { frames = is.frames; few = let few = is.few in omega (arith, few, same) }

-- what is said of the world that is kept holds of that in memory
pub fits_inside : (program : Program) (w : Inside) (m : Monitored) → monitored_of w ≡ m → FitsMonitored program m → Fits program w.world
fits_inside program w m view fits = (subst (FitsMonitored program) (sym view) fits).machine

-- ---- behind a turn

pub after_turn : (program : Program) (t : ℕ) (n : MonitorWorld) (m : Monitored) → Fits program m.machine → monitor_world_of m ≡ without_hits n
    → KeepsLocksBut program t n → IsAfterTurn program t m
after_turn program t n m fits is kept =
    record { machine = fits; locks = subst (KeepsLocksBut program t) (sym is) (unhit_but program t n kept) }

-- nothing was hit where the world in memory is the one behind the turn
pub unhit : (m : Machine) (w : World) → world_of m ≡ w → world_of m ≡ machine_without_hits w
unhit m w is = ap machine_without_hits is

pub no_hits : (m : Machine) (w : World) → world_of m ≡ w → [] ≡ w.hits
no_hits m w is = ap (λ (x : World). x.hits) is
