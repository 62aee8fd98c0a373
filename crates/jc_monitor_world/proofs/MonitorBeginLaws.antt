-- The world in which a case begins, with its locks: none is held.
use Rattle.std.proofs.Common.{◌≡◌, ℕ, zero, suc, ◌≤◌, List, [], ◌∷◌, length, take, All, refl, sym, ap, ap₂, ◌∙◌, subst, arith}
use Rattle.std.specs.Prelude.{slice_index_or}
use Rattle.std.proofs.lemmas.List.{length-map}
use Rattle.jc_programs.specs.declared.program.Program.{Program}
use Rattle.jc_programs.specs.declared.run_plan.ThreadLine.{ThreadLine}
use Rattle.jc_programs.specs.declared.run_end.Entry.{Entry}
use Rattle.jc_machine_model.specs.World.{World}
use Rattle.jc_machine_model.specs.Begin.{begin}
use Rattle.jc_machine.specs.Machines.{Machine, world_of, Fits}
use Rattle.jc_monitor_model.specs.Locks.{Held}
use Rattle.jc_monitor_model.specs.SynchronizedFrames.{SynchronizedFrame}
use Rattle.jc_monitor_model.specs.MonitorStep.{depth, is_stuck}
use Rattle.jc_monitor_model.specs.MonitorRun.{no_frames, unlocked, monitor_begin}
use Rattle.jc_monitor_model.specs.KeptLocks.{deepest, AreBelow, frames_in, KeepsLocks}
use Rattle.jc_monitor_world.specs.Kept.{FramesSeen}
use Rattle.jc_monitor_world.specs.Monitored.{Monitored, monitor_world_of, FitsMonitored}
use Rattle.jc_monitor_world.proofs.MonitoredLaws.{lists_of, made_of}

-- no thread has a frame of a synchronized method
none_there : (threads : List ThreadLine) (all : List FramesSeen) → length threads ≤ length all → All (λ (f : FramesSeen). f.frames ≡ []) all
    → take (length threads) (lists_of all) ≡ no_frames threads
none_there [] all few none = refl
none_there (line ∷ threads) [] few none = absurd (omega (arith, few))
none_there (line ∷ threads) (f ∷ all) few none =
    ap₂ (λ (frames : List SynchronizedFrame) (rest : List (List SynchronizedFrame)). frames ∷ rest) (none 0 f (omega arith))
    (none_there threads all (omega (arith, few)) (λ k d less. none (suc k) d (omega (arith, less))))

no_list : (threads : List ThreadLine) (t : ℕ) → slice_index_or (no_frames threads) t [] ≡ []
no_list [] t = refl
no_list (line ∷ threads) zero = refl
no_list (line ∷ threads) (suc t) = no_list threads t

keeps_none : (program : Program) (threads : List ThreadLine) (w : World) → length w.threads ≡ length threads → KeepsLocks program (unlocked threads w)
keeps_none program threads w same = record {
  locks = record { apart = tt; few = omega arith; each = tt };
  threads = length-map threads (λ (line : ThreadLine). []) ∙ sym same;
  below = λ t. subst (AreBelow (suc (deepest (is_stuck w t) (depth program w t)))) (sym (no_list threads t)) tt;
  counted = λ t class. sym (ap (frames_in class) (no_list threads t));
}

pub begun_world : (program : Program) (threads : List ThreadLine) (entries : List Entry) (machine : Machine) (held : List Held) (all : List FramesSeen)
    → world_of machine ≡ begin program threads entries → length machine.threads ≡ length threads → held ≡ []
    → length threads ≤ length all → All (λ (f : FramesSeen). f.frames ≡ []) all
    → made_of (world_of machine) held (take (length machine.threads) (lists_of all)) ≡ monitor_begin program threads entries
begun_world program threads entries machine held all world same none few no_frame =
    ap (λ n. made_of (world_of machine) held (take n (lists_of all))) same
    ∙ (ap (made_of (world_of machine) held) (none_there threads all few no_frame)
    ∙ ap₂ (λ (w : World) (h : List Held). made_of w h (no_frames threads)) world none)

pub begun_fits : (program : Program) (threads : List ThreadLine) (entries : List Entry) (m : Monitored) → Fits program m.machine
    → world_of m.machine ≡ begin program threads entries → length m.machine.threads ≡ length threads
    → monitor_world_of m ≡ monitor_begin program threads entries → FitsMonitored program m
begun_fits program threads entries m fits world same is = record {
  machine = fits;
  locks = subst (KeepsLocks program) (sym is)
      (keeps_none program threads (begin program threads entries) (sym (ap (λ (w : World). length w.threads) world) ∙ same));
}
