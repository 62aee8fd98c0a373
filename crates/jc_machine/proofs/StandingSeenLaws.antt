-- What is told of where a thread stands is what the world says.
use Rattle.std.proofs.Common.{◌≡◌, ℕ, ◌<◌, length, Some, None, sym, ap, ◌∙◌, subst, slice_get, slice_index_or}
use Rattle.std.specs.Prelude.{option_and_then}
use Rattle.jc_programs.specs.declared.program.Program.{Program}
use Rattle.jc_programs.specs.declared.run_end.End.TheVariants as ends
use Rattle.jc_machine_code.specs.Prepared.{IsPrepared}
use Rattle.jc_machine_model.specs.Programs.{IsProgram}
use Rattle.jc_machine_model.specs.World.{running}
use Rattle.jc_machine_model.specs.Step.{counted_frames}
use Rattle.jc_machine_model.specs.Standings.{standing_of, stands, TopValue, no_value, top_of, top_of_thread, top_in}
use Rattle.jc_machine_model.specs.Locked.{callee_of_frame, callee_of_thread, callee}
use Rattle.jc_machine.specs.declared.world.World.TheInside.{Inside}
use Rattle.jc_machine.specs.declared.standing.Standing.{Standing as Seen}
use Rattle.jc_machine.specs.Threads.{ThreadFrames}
use Rattle.jc_machine.specs.Machines.{Machine, world_of, Fits}
use Rattle.jc_machine.specs.Kept.{machine_of, IsMachine}
use Rattle.jc_machine.specs.Standings.{standing_in, standing_seen}
use Rattle.jc_machine.proofs.MachineLaws.{thread_below, alone_fits, runs_at, over_at}
use Rattle.jc_machine.proofs.StandingLaws.{over_stands, over_top, over_callee}
use Rattle.jc_machine.proofs.TurnLaws.{alone_counts}

module _ (w : Inside) (is : IsMachine w) (m : Machine) (view : machine_of w ≡ m) (t : ℕ) (less : t < length m.threads) where
  pub inside : t < length (machine_of w).threads
  inside = subst (λ (x : Machine). t < length x.threads) (sym view) less

  pub in_ends : t < 8
  in_ends = thread_below w is t inside

  -- ---- a thread that runs

  module _ (frames : ThreadFrames) (running_is : slice_index_or w.ends t ends.Running ≡ ends.Running)
      (frames_is : frames ≡ slice_index_or w.stacks.items t frames) where
    there : slice_get m.threads t ≡ Some (running frames.top frames.waiting)
    there = subst (λ (x : Machine). slice_get x.threads t ≡ Some (running frames.top frames.waiting)) view (runs_at w is t inside frames running_is frames_is)

    pub standing_told : (program : Program) (s : Seen) → IsProgram program → Fits program m
        → ((q : Program) → IsPrepared q w.prepared → counted_frames q frames.waiting ≡ length frames.waiting
        → Some (standing_in s) ≡ standing_of q (running frames.top frames.waiting))
        → standing_seen (Some s) ≡ stands program (world_of m) t
    standing_told program s p fits told =
        let whole = subst (Fits program) (sym view) fits in
        let one = alone_fits program (world_of (machine_of w)) t frames whole.world (runs_at w is t inside frames running_is frames_is) in
        told program whole.prepared (alone_counts program w.shared.content frames p one) ∙ sym (ap (option_and_then (standing_of program)) there)

    pub top_told : (top : TopValue) → top ≡ top_of w.shared.content.heap frames.top.stack → top ≡ top_in (world_of m) t
    top_told top told =
        told ∙ subst (λ (x : Machine). top_of w.shared.content.heap frames.top.stack ≡ top_in (world_of x) t) view
        (sym (ap (top_of_thread w.shared.content.heap) (runs_at w is t inside frames running_is frames_is)))

    pub callee_told : (program : Program) → callee_of_frame program frames.top ≡ callee program (world_of m) t
    callee_told program = sym (ap (option_and_then (callee_of_thread program)) there)

  -- ---- one that doesn't

  module _ (not : slice_index_or w.ends t ends.Running ≡ ends.Running → ⊥) where
    pub no_standing : (program : Program) → None ≡ stands program (world_of m) t
    no_standing program =
        let o = over_at w is t inside not in
        subst (λ (x : Machine). None ≡ stands program (world_of x) t) view
        (sym (ap (option_and_then (standing_of program)) o.1 ∙ over_stands program o.0 o.2))

    pub no_top : no_value ≡ top_in (world_of m) t
    no_top =
        let o = over_at w is t inside not in
        subst (λ (x : Machine). no_value ≡ top_in (world_of x) t) view
        (sym (ap (top_of_thread w.shared.content.heap) o.1 ∙ over_top w.shared.content.heap o.0 o.2))

    pub no_callee : (program : Program) → None ≡ callee program (world_of m) t
    no_callee program =
        let o = over_at w is t inside not in
        subst (λ (x : Machine). None ≡ callee program (world_of x) t) view
        (sym (ap (option_and_then (callee_of_thread program)) o.1 ∙ over_callee program o.0 o.2))
