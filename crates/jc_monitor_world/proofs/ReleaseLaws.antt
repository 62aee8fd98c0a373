-- Frames of synchronized methods that are left give their locks back one after another.
use Rattle.std.proofs.Common.{◌≡◌, ℕ, zero, suc, ◌<◌, ◌≤◌, Bool, true, false, Some, None, cond, List, [], ◌∷◌, length, map, take, drop, refl, sym, ap, ap₂, ◌∙◌, subst, arith}
use Rattle.std.specs.Prelude.{slice_get, slice_set, slice_index_or}
use Rattle.std.proofs.lemmas.Bool.{lt-ltb}
use Rattle.std.proofs.lemmas.List.{map-set, length-set, length-map, get_or-take, get_or-map, get_or-set_same, set-get_or, set-set}
use Rattle.std.proofs.Math.Seq.{take-set-lt}
use Rattle.jc_region.specs.Memory.{allocation_of}
use Rattle.jc_programs.specs.declared.program.Program.{Program}
use Rattle.jc_programs.specs.declared.run_end.End.{End}
use Rattle.jc_programs.specs.declared.run_end.End.TheVariants as ends
use Rattle.jc_machine_model.specs.World.{Thread, running, returned, threw, stuck, World}
use Rattle.jc_machine_model.specs.Step.{most_frames}
use Rattle.jc_machine_model.specs.CaseEnds.{end_of, ends_in}
use Rattle.jc_machine.specs.Machines.{Machine, world_of, Fits}
use Rattle.jc_monitor_model.specs.Locks.{of_class, access, given_by}
use Rattle.jc_monitor_model.specs.SynchronizedFrames.{SynchronizedFrame, frames_left, held_left}
use Rattle.jc_monitor_model.specs.MonitorWorld.{MonitorWorld, frames_of}
use Rattle.jc_monitor_model.specs.MonitorStep.{depth, is_stuck_thread, is_stuck, released, after_release}
use Rattle.jc_monitor_model.specs.KeptLocks.{MayGive, AreBelow, AreLocks, AreCounted, KeepsLocks}
use Rattle.jc_monitor_model.proofs.HeldLaws.{given_locks}
use Rattle.jc_monitor_model.proofs.FrameLaws.{below_higher, nothing_left, its_lock, given_counted}
use Rattle.jc_monitor_world.specs.declared.frames.SynchronizedFrame.{SynchronizedFrame as KeptFrame}
use Rattle.jc_monitor_world.specs.declared.monitor_world.MonitorWorld.TheInside.{Inside}
use Rattle.jc_monitor_world.specs.Seen.{frame_of}
use Rattle.jc_monitor_world.specs.Kept.{FramesSeen}
use Rattle.jc_monitor_world.specs.Monitored.{Monitored, monitor_world_of, KeepsMemory, FitsMonitored, IsAfterTurn, monitored_of, IsMonitored}
use Rattle.jc_monitor_world.proofs.KeptLaws.{release_keeps}
use Rattle.jc_monitor_world.proofs.MonitoredLaws.{lists_of, memories_of, same_in}

-- ---- a stuck thread

stuck_end : (thread : Thread) → end_of thread ≡ ends.Stuck → is_stuck_thread (Some thread) ≡ true
stuck_end (running f waiting) e = absurd (cc)
stuck_end (returned v) e = absurd (cc)
stuck_end (threw c) e = absurd (cc)
stuck_end (stuck method place) e = refl

other_end : (thread : Thread) → (end_of thread ≡ ends.Stuck → ⊥) → is_stuck_thread (Some thread) ≡ false
other_end (running f waiting) never = refl
other_end (returned v) never = refl
other_end (threw c) never = refl
other_end (stuck method place) never = absurd (never refl)

-- what an end at a place says of the thread there
end_at : (threads : List Thread) (t : ℕ) → t < length threads
    → (thread : Thread) × (slice_get threads t ≡ Some thread) × (slice_index_or (map end_of threads) t ends.Running ≡ end_of thread)
end_at [] t less = absurd (omega (arith, less))
end_at (thread ∷ threads) zero less = (thread, refl, refl)
end_at (thread ∷ threads) (suc t) less = end_at threads t (omega (arith, less))

module _ (w : World) (t : ℕ) (less : t < length w.threads) (all : List End) (all_is : all ≡ ends_in w) where
  ended : (thread : Thread) × (slice_get w.threads t ≡ Some thread) × (slice_index_or (map end_of w.threads) t ends.Running ≡ end_of thread)
  ended = end_at w.threads t less

  its_end : slice_index_or all t ends.Running ≡ end_of ended.0
  its_end = ap (λ (es : List End). slice_index_or es t ends.Running) all_is ∙ ended.2

  pub stuck_there : slice_index_or all t ends.Running ≡ ends.Stuck → is_stuck w t ≡ true
  stuck_there q = ap is_stuck_thread ended.1 ∙ stuck_end ended.0 (sym its_end ∙ q)

  pub not_stuck_there : (slice_index_or all t ends.Running ≡ ends.Stuck → ⊥) → is_stuck w t ≡ false
  not_stuck_there never = ap is_stuck_thread ended.1 ∙ other_end ended.0 (λ q. never (its_end ∙ q))

-- ---- the frames of a thread that are in memory

abbrev pub list_in : Inside → ℕ → List SynchronizedFrame
list_in w t = slice_index_or (lists_of w.frames.items) t []

pub list_is : (w : Inside) (t : ℕ) (f : FramesSeen) → t < length w.frames.items → f ≡ slice_index_or w.frames.items t f → list_in w t ≡ f.frames
list_is w t f within is =
    get_or-map (λ (x : FramesSeen). x.frames) w.frames.items t f [] within ∙ ap (λ (x : FramesSeen). x.frames) (sym is)

-- where no frame is there, nothing is given back
pub nothing_there : (program : Program) (t : ℕ) (m : MonitorWorld) → frames_of m t ≡ [] → after_release program t m ≡ m
nothing_there program t m none = by (is_stuck m.world t)
  where
    by : (z : Bool) → released program t m z ≡ m
    by true = refl
    by false =
        ap (λ l. record m {
          held = held_left t (depth program m.world t) l m.held;
          frames = slice_set m.frames t (frames_left (depth program m.world t) l);
        }) none
        ∙ (ap (λ l. record m { frames = slice_set m.frames t l }) (sym none)
        ∙ ap (λ (fs : List (List SynchronizedFrame)). record m { frames = fs }) (set-get_or m.frames t []))

-- Behind some frames that were left: those that are there still and the locks that are held then lead to the same as at first.
pub record IsLeaving (start w : Inside) (t depth : ℕ) : Type 0 where
  pub world : w.world ≡ start.world
  pub many : length w.frames.items ≡ 8
  pub place : allocation_of w.frames ≡ allocation_of start.frames
  pub memories : memories_of w.frames.items ≡ memories_of start.frames.items
  pub locks_memory : w.locks.memory ≡ start.locks.memory
  pub lists : lists_of w.frames.items ≡ slice_set (lists_of start.frames.items) t (list_in w t)
  pub held : held_left t depth (list_in w t) w.locks.held ≡ held_left t depth (list_in start t) start.locks.held
  pub left : frames_left depth (list_in w t) ≡ frames_left depth (list_in start t)
  pub few : AreBelow (suc most_frames) (list_in w t)
  pub locks : AreLocks (length start.world.threads) w.locks.held
  pub counted : AreCounted t w.locks.held (list_in w t)

-- what is left once nothing more is
pub record HasLeft (start w : Inside) (t depth : ℕ) : Type 0 where
  pub held : w.locks.held ≡ held_left t depth (list_in start t) start.locks.held
  pub left : list_in w t ≡ frames_left depth (list_in start t)

first_is : (frames : List SynchronizedFrame) (f : SynchronizedFrame) → slice_get frames 0 ≡ Some f → frames ≡ f ∷ drop 1 frames
first_is [] f e = absurd (cc)
first_is (g ∷ frames) f e = let same : g ≡ f = cc in ap (λ (x : SynchronizedFrame). x ∷ frames) same

pub none_is : (frames : List SynchronizedFrame) → slice_get frames 0 ≡ None → frames ≡ []
none_is [] e = refl
none_is (f ∷ frames) e = absurd (cc)

-- ---- the start

module _ (start : Inside) (is : IsMonitored start) (m : Monitored) (view : monitored_of start ≡ m) (t : ℕ) (less : t < length m.machine.threads) where
  below : t < length start.world.threads
  below = subst (λ (x : Monitored). t < length x.machine.threads) (sym view) less

  pub in_items : t < length start.frames.items
  in_items = let here = below in let many = is.frames in let few = is.few in omega (arith, here, many, few)

  frames_seen : frames_of (monitor_world_of (monitored_of start)) t ≡ list_in start t
  frames_seen = get_or-take (length start.world.threads) (lists_of start.frames.items) t [] below

  pub leaving_first : (program : Program) (depth : ℕ) → IsAfterTurn program t m → IsLeaving start start t depth
  leaving_first program depth after =
      let kept = (subst (IsAfterTurn program t) (sym view) after).locks in record {
        world = refl;
        many = is.frames;
        place = refl;
        memories = refl;
        locks_memory = refl;
        lists = sym (set-get_or (lists_of start.frames.items) t []);
        held = refl;
        left = refl;
        few = subst (AreBelow (suc most_frames)) frames_seen kept.few;
        locks = kept.locks;
        counted = subst (AreCounted t start.locks.held) frames_seen (kept.counted t);
      }

  -- ---- one frame

  module _ (w : Inside) (depth : ℕ) (so_far : IsLeaving start w t depth) (seen : FramesSeen) (at : seen ≡ slice_index_or w.frames.items t seen) where
    pub in_those : t < length w.frames.items
    in_those = let here = in_items in let now = so_far.many in let then = is.frames in omega (arith, here, now, then)

    here : list_in w t ≡ seen.frames
    here = list_is w t seen in_those at

    -- none is there
    pub none_left : None ≡ slice_get seen.frames 0 → HasLeft start w t depth
    none_left e =
        let none : list_in w t ≡ [] = here ∙ none_is seen.frames (sym e) in record {
          held = ap (λ l. held_left t depth l w.locks.held) (sym none) ∙ so_far.held;
          left = none ∙ (ap (frames_left depth) (sym none) ∙ so_far.left);
        }

    module _ (frame : KeptFrame) (first : Some (frame_of frame) ≡ slice_get seen.frames 0) where
      abbrev others : List SynchronizedFrame
      others = drop 1 seen.frames

      split : list_in w t ≡ frame_of frame ∷ others
      split = here ∙ first_is seen.frames (frame_of frame) (sym first)

      bounds : AreBelow (suc most_frames) (frame_of frame ∷ others)
      bounds = subst (AreBelow (suc most_frames)) split so_far.few

      own : AreCounted t w.locks.held (frame_of frame ∷ others)
      own = subst (AreCounted t w.locks.held) split so_far.counted

      -- the deepest stays, and so do all
      pub all_left : frame.depth ≤ depth → HasLeft start w t depth
      all_left shallow =
          let few = bounds in
          let stay = nothing_left t depth (frame_of frame ∷ others) w.locks.held (few.0, omega (arith, shallow), few.2) in record {
            held = sym stay.1 ∙ (ap (λ l. held_left t depth l w.locks.held) (sym split) ∙ so_far.held);
            left = split ∙ (sym stay.0 ∙ (ap (frames_left depth) (sym split) ∙ so_far.left));
          }

      -- its lock is the thread's
      pub may_give : MayGive (access t (of_class frame.class) w.locks.held)
      may_give =
          subst MayGive (sym (its_lock (length start.world.threads) t (frame_of frame) others w.locks.held so_far.locks own))
          (omega arith)

      module _ (after : Inside) (next : FramesSeen) (items : after.frames.items ≡ slice_set w.frames.items t next)
          (left : next ≡ record seen { frames = others }) where
        after_list : list_in after t ≡ others
        after_list =
            ap (λ l. slice_index_or (lists_of l) t []) items
            ∙ (ap (λ l. slice_index_or l t []) (map-set (λ (x : FramesSeen). x.frames) w.frames.items t next)
            ∙ (get_or-set_same (lists_of w.frames.items) t next.frames []
            (omega (arith, in_those, length-map w.frames.items (λ (x : FramesSeen). x.frames)))
            ∙ ap (λ (x : FramesSeen). x.frames) left))

        -- there are fewer then
        pub fewer : length (list_in after t) < length (list_in w t)
        fewer =
            let now = ap (λ (l : List SynchronizedFrame). length l) after_list in
            let before = ap (λ (l : List SynchronizedFrame). length l) split in
            omega (arith, now, before)

        pub leaving_on : depth < frame.depth → after.world ≡ w.world → after.locks.held ≡ given_by t (of_class frame.class) w.locks.held
            → after.locks.memory ≡ w.locks.memory → allocation_of after.frames ≡ allocation_of w.frames → IsLeaving start after t depth
        leaving_on deeper world held memory place =
            let few = bounds in
            let less_deep = few.1 in
            let q = lt-ltb depth frame.depth deeper in record {
              world = world ∙ so_far.world;
              many = ap length items ∙ (length-set w.frames.items t next ∙ so_far.many);
              place = place ∙ so_far.place;
              memories = ap memories_of items
                  ∙ (same_in (λ (x : FramesSeen). x.memory) w.frames.items t seen next at (ap (λ (x : FramesSeen). x.memory) left) ∙ so_far.memories);
              locks_memory = memory ∙ so_far.locks_memory;
              lists = ap lists_of items
                  ∙ (map-set (λ (x : FramesSeen). x.frames) w.frames.items t next
                  ∙ (ap (λ l. slice_set l t next.frames) so_far.lists
                  ∙ (set-set (lists_of start.frames.items) t (list_in w t) next.frames
                  ∙ ap (slice_set (lists_of start.frames.items) t) (ap (λ (x : FramesSeen). x.frames) left ∙ sym after_list))));
              held = ap₂ (λ l h. held_left t depth l h) after_list held
                  ∙ (sym (ap (λ z. cond z (held_left t depth others (given_by t (of_class frame.class) w.locks.held))
                  (held_left t depth others w.locks.held)) q)
                  ∙ (ap (λ l. held_left t depth l w.locks.held) (sym split) ∙ so_far.held));
              left = ap (frames_left depth) after_list
                  ∙ (sym (ap (λ z. cond z (frames_left depth others) (frame_of frame ∷ frames_left depth others)) q)
                  ∙ (ap (frames_left depth) (sym split) ∙ so_far.left));
              few = subst (AreBelow (suc most_frames)) (sym after_list)
                  (below_higher frame.depth (suc most_frames) (omega (arith, less_deep)) others few.2);
              locks = subst (AreLocks (length start.world.threads)) (sym held)
                  (given_locks (length start.world.threads) t (of_class frame.class) w.locks.held so_far.locks);
              counted = subst (λ h. AreCounted t h (list_in after t)) (sym held)
                  (subst (AreCounted t (given_by t (of_class frame.class) w.locks.held)) (sym after_list)
                  (given_counted (length start.world.threads) t (frame_of frame) others w.locks.held so_far.locks own));
            }

  -- ---- the end

  module _ (w : Inside) (depth_then : ℕ) (so_far : IsLeaving start w t depth_then) where
    pub left_few : length w.world.threads ≤ 8
    left_few = let few = is.few in let same = ap (λ (x : Machine). length x.threads) so_far.world in omega (arith, few, same)

    pub left_memory : KeepsMemory m (monitored_of w)
    left_memory =
        subst (λ (x : Monitored). KeepsMemory x (monitored_of w)) view (
          (ap (λ (x : Machine). x.prepared) so_far.world, ap (λ (x : Machine). x.memory) so_far.world),
          λ i. record { held = so_far.locks_memory i; threads = so_far.place i; frames = so_far.memories i },
        )

    module _ (all : HasLeft start w t depth_then) (program : Program) (after : IsAfterTurn program t m) (runs : is_stuck (world_of m.machine) t ≡ false)
        (depth_is : depth_then ≡ depth program (world_of m.machine) t) where
      lists_left : take (length w.world.threads) (lists_of w.frames.items)
          ≡ slice_set (take (length start.world.threads) (lists_of start.frames.items)) t (frames_left depth_then (list_in start t))
      lists_left =
          ap (λ (x : Machine). take (length x.threads) (lists_of w.frames.items)) so_far.world
          ∙ (ap (take (length start.world.threads)) (so_far.lists ∙ ap (slice_set (lists_of start.frames.items) t) all.left)
          ∙ take-set-lt (length start.world.threads) (lists_of start.frames.items) t (frames_left depth_then (list_in start t)) below)

      at_start : monitor_world_of (monitored_of w) ≡ record (monitor_world_of (monitored_of start)) {
        held = held_left t depth_then (frames_of (monitor_world_of (monitored_of start)) t) start.locks.held;
        frames = slice_set (take (length start.world.threads) (lists_of start.frames.items)) t
            (frames_left depth_then (frames_of (monitor_world_of (monitored_of start)) t));
      }
      at_start =
          let held = all.held ∙ ap (λ l. held_left t depth_then l start.locks.held) (sym frames_seen) in
          let lists = lists_left
          ∙ ap (λ l. slice_set (take (length start.world.threads) (lists_of start.frames.items)) t (frames_left depth_then l)) (sym frames_seen) in
          λ i. record { world = world_of (so_far.world i); held = held i; frames = lists i }

      pub released_world : monitor_world_of (monitored_of w) ≡ after_release program t (monitor_world_of m)
      released_world =
          subst (λ (x : Monitored). monitor_world_of (monitored_of w) ≡ record (monitor_world_of x) {
            held = held_left t depth_then (frames_of (monitor_world_of x) t) x.held;
            frames = slice_set x.frames t (frames_left depth_then (frames_of (monitor_world_of x) t));
          }) view at_start
          ∙ (ap (λ d. record (monitor_world_of m) {
            held = held_left t d (frames_of (monitor_world_of m) t) m.held;
            frames = slice_set m.frames t (frames_left d (frames_of (monitor_world_of m) t));
          }) depth_is
          ∙ ap (released program t (monitor_world_of m)) (sym runs))

      pub released_fits : FitsMonitored program (monitored_of w)
      released_fits = record {
        machine = subst (Fits program) (sym (so_far.world ∙ ap (λ (x : Monitored). x.machine) view)) after.machine;
        locks = subst (KeepsLocks program) (sym released_world) (release_keeps program t (monitor_world_of m) less after.locks);
      }
