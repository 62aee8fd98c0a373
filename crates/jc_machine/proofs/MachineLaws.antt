-- The world in memory, and the turn of one of its threads.
use Rattle.std.proofs.Common.{◌≡◌, ℕ, zero, suc, ◌<◌, ◌≤◌, List, [], ◌∷◌, length, take, Some, refl, sym, ap, ◌∙◌, subst, arith, slice_get, slice_set}
use Rattle.std.proofs.Common.{slice_index_or}
use Rattle.std.specs.List.{AllByRecursion}
use Rattle.std.proofs.lemmas.List.{append-nil, length-take-le, get_or-take}
use Rattle.std.proofs.Math.Seq.{take-set-lt}
use Rattle.jc_programs.specs.declared.program.Program.{Program}
use Rattle.jc_programs.specs.declared.run_end.End.{End}
use Rattle.jc_programs.specs.declared.run_end.End.TheVariants as ends
use Rattle.jc_machine_code.specs.Prepared.{IsPrepared}
use Rattle.std.proofs.lemmas.Option.{slice_get-get_or, same_Some}
use Rattle.jc_bytes.proofs.ListLaws.{all_at, item_at}
use Rattle.jc_machine_model.specs.Programs.{IsProgram}
use Rattle.jc_machine_model.specs.World.{Frame, Thread, running, Shared, Hit, World}
use Rattle.jc_machine_model.specs.Results.{Result}
use Rattle.jc_machine_model.specs.Step.{turn_of, after, after_result, with_after, step_of, step}
use Rattle.jc_machine_model.specs.CaseEnds.{ends_in}
use Rattle.jc_machine_model.specs.Laws.{IsOver}
use Rattle.jc_machine_model.specs.Fits.{FitsThread, FitsWorld, IsProbe}
use Rattle.jc_machine_model.specs.Locked.{turn_by_of, turn_by}
use Rattle.jc_machine_model.proofs.TurnLaws.{ended_stays}
use Rattle.jc_machine_laws.proofs.WorldLaws.{step_fits, step_hits}
use Rattle.jc_machine.specs.declared.world.World.TheInside.{Inside}
use Rattle.jc_machine.specs.declared.thread_turn.ThreadTurn.{ThreadTurn}
use Rattle.jc_machine.specs.Threads.{ThreadFrames, thread_of, threads_of}
use Rattle.jc_machine.specs.Turned.{without_hits, alone, after_of, hits_in}
use Rattle.jc_machine.specs.Machines.{Machine, world_of, Fits, KeepsMemory}
use Rattle.jc_machine.specs.Kept.{memories_of, machine_of, IsMachine}
use Rattle.jc_machine.proofs.ThreadLaws.{length-threads_of, thread_at, threads_of-set, ends_are}

-- ---- worlds that fit

-- what was hit has no part in it
pub unhit_fits : (program : Program) (w : World) → FitsWorld program w → FitsWorld program (without_hits w)
unhit_fits program w fits = record { statics = fits.statics; threads = fits.threads; there = fits.there }

-- a thread of a world that fits
pub alone_fits : (program : Program) (w : World) (t : ℕ) (frames : ThreadFrames) → FitsWorld program w
    → slice_get w.threads t ≡ Some (running frames.top frames.waiting) → FitsWorld program (alone w.shared frames)
alone_fits program w t frames fits at = record {
  statics = fits.statics;
  threads = (all_at (FitsThread program w.shared.heap) w.threads t (running frames.top frames.waiting) fits.threads at, tt);
  there = fits.there;
}

-- a machine that has the world behind a turn
pub next_fits : (program : Program) (m next : Machine) (t : ℕ) → IsProgram program → Fits program m → world_of next ≡ without_hits (step program (world_of m) t)
    → next.prepared ≡ m.prepared → next.fields ≡ m.fields → Fits program next
next_fits program m next t p fits is prepared fields = record {
  prepared = subst (IsPrepared program) (sym prepared) fits.prepared;
  fields = fields ∙ fits.fields;
  world = subst (FitsWorld program) (sym is) (unhit_fits program (step program (world_of m) t) (step_fits program (world_of m) t p fits.world));
}

-- what a turn hits is a probe
pub hits_probes : (program : Program) (m : Machine) (t : ℕ) (hit : Hit) → IsProgram program → Fits program m → hit ∷ [] ≡ (step program (world_of m) t).hits
    → IsProbe program hit
hits_probes program m t hit p fits is = (subst (AllByRecursion (IsProbe program)) (sym is) (step_hits program (world_of m) t p fits.world tt)).0

-- ---- memory

pub memories_set : (stacks : List ThreadFrames) (t : ℕ) (frames next : ThreadFrames) → frames ≡ slice_index_or stacks t frames
    → next.memory ≡ frames.memory → memories_of (slice_set stacks t next) ≡ memories_of stacks
memories_set [] t frames next is same = refl
memories_set (s ∷ stacks) zero frames next is same =
    ap (λ m. m ∷ memories_of stacks) (same ∙ ap (λ (f : ThreadFrames). f.memory) is)
memories_set (s ∷ stacks) (suc t) frames next is same = ap (λ ms. s.memory ∷ ms) (memories_set stacks t frames next is same)

-- one turn or more behind others
pub keeps_on : (first before after : Machine) → KeepsMemory first before → KeepsMemory before after → KeepsMemory first after
keeps_on first before after so_far more = (more.0 ∙ so_far.0, more.1 ∙ so_far.1)

-- ---- the threads

-- one that runs is kept as one
is_running : (e : End) (x : ThreadFrames) (f : Frame) (waiting : List Frame) → thread_of e x ≡ running f waiting → e ≡ ends.Running
is_running ends.Running x f waiting same = refl
is_running ends.Stuck x f waiting same = absurd (cc)
is_running (ends.Returned v) x f waiting same = absurd (cc)
is_running (ends.Threw c) x f waiting same = absurd (cc)

over : (e : End) (f : ThreadFrames) → (e ≡ ends.Running → ⊥) → IsOver (thread_of e f)
over ends.Running f not = absurd (not refl)
over ends.Stuck f not = tt
over (ends.Returned v) f not = tt
over (ends.Threw c) f not = tt

module _ (w : Inside) (is : IsMachine w) where
  in_front : length (take w.count w.ends) ≡ w.count
  in_front = length-take-le w.count w.ends (omega (arith, is.ends, is.few))

  few_ends : length (take w.count w.ends) ≤ length w.stacks.items
  few_ends = omega (arith, in_front, is.stacks, is.few)

  pub counted : length (machine_of w).threads ≡ w.count
  counted = length-threads_of (take w.count w.ends) w.stacks.items few_ends ∙ in_front

  pub ends_there : ends_in (world_of (machine_of w)) ≡ take w.count w.ends
  ends_there = ends_are (take w.count w.ends) w.stacks.items few_ends

  module _ (t : ℕ) (less : t < length (machine_of w).threads) where
    below : t < w.count
    below = omega (arith, less, counted)

    pub thread_below : t < 8
    thread_below = omega (arith, below, is.few)

    at : (e : End) → slice_index_or w.ends t ends.Running ≡ e → (f : ThreadFrames) → slice_get w.stacks.items t ≡ Some f
        → slice_get (machine_of w).threads t ≡ Some (thread_of e f)
    at e e_is f f_at =
        let e_at : slice_get (take w.count w.ends) t ≡ Some e =
        slice_get-get_or (take w.count w.ends) t ends.Running (omega (arith, below, in_front))
        ∙ ap Some (get_or-take w.count w.ends t ends.Running below ∙ e_is) in
        thread_at (take w.count w.ends) w.stacks.items t e f e_at f_at

    pub runs_at : (frames : ThreadFrames) → slice_index_or w.ends t ends.Running ≡ ends.Running → frames ≡ slice_index_or w.stacks.items t frames
        → slice_get (machine_of w).threads t ≡ Some (running frames.top frames.waiting)
    runs_at frames running_is frames_is =
        at ends.Running running_is frames (slice_get-get_or w.stacks.items t frames (omega (arith, below, is.stacks, is.few)) ∙ ap Some (sym frames_is))

    pub runs_by : (f : Frame) (waiting : List Frame) → slice_get (machine_of w).threads t ≡ Some (running f waiting)
        → slice_index_or w.ends t ends.Running ≡ ends.Running
    runs_by f waiting is_there =
        let x = item_at w.stacks.items t (omega (arith, below, is.stacks, is.few)) in
        let e = slice_index_or w.ends t ends.Running in
        is_running e x.0 f waiting (same_Some (thread_of e x.0) (running f waiting) (sym (at e refl x.0 x.1) ∙ is_there))

    -- one that isn't kept as one that runs has ended or is stuck
    pub over_at : (slice_index_or w.ends t ends.Running ≡ ends.Running → ⊥)
        → (thread : Thread) × (slice_get (machine_of w).threads t ≡ Some thread) × IsOver thread
    over_at not =
        let x = item_at w.stacks.items t (omega (arith, below, is.stacks, is.few)) in
        let e = slice_index_or w.ends t ends.Running in
        (thread_of e x.0, at e refl x.0 x.1, over e x.0 not)

    -- a thread that doesn't run stays
    pub idle : (program : Program) → (slice_index_or w.ends t ends.Running ≡ ends.Running → ⊥)
        → step program (world_of (machine_of w)) t ≡ world_of (machine_of w)
    idle program not =
        let f = item_at w.stacks.items t (omega (arith, below, is.stacks, is.few)) in
        let e = slice_index_or w.ends t ends.Running in
        ended_stays program (world_of (machine_of w)) t (thread_of e f.0) (at e refl f.0 f.1) (over e f.0 not)

    -- the world with the turn of a thread that runs
    module _ (program : Program) (frames : ThreadFrames) (running_is : slice_index_or w.ends t ends.Running ≡ ends.Running)
        (frames_is : frames ≡ slice_index_or w.stacks.items t frames)
        (turn : ThreadTurn) (next : ThreadFrames) (s : Shared)
        (turned : after_of turn next s ≡ turn_of program w.shared.content (running frames.top frames.waiting))
      where
        moved : step program (world_of (machine_of w)) t ≡ with_after t (world_of (machine_of w)) (after_of turn next s)
        unfolding step
        moved =
            ap (step_of program (world_of (machine_of w)) t) (runs_at frames running_is frames_is)
            ∙ ap (with_after t (world_of (machine_of w))) (sym turned)

        pub step_world : record { threads = threads_of (take w.count (slice_set w.ends t turn.end)) (slice_set w.stacks.items t next); shared = s; hits = [] }
            ≡ without_hits (step program (world_of (machine_of w)) t)
        step_world =
            ap (λ (ts : List Thread). record { threads = ts; shared = s; hits = [] })
            (ap (λ es. threads_of es (slice_set w.stacks.items t next)) (take-set-lt w.count w.ends t turn.end below)
            ∙ threads_of-set (take w.count w.ends) w.stacks.items t turn.end next (omega (arith, below, in_front)) few_ends)
            ∙ sym (ap without_hits moved)

        pub step_hits_are : hits_in turn.hit ≡ (step program (world_of (machine_of w)) t).hits
        step_hits_are = sym (append-nil (hits_in turn.hit)) ∙ sym (ap (λ (x : World). x.hits) moved)

    -- the world with a turn in which a thread that runs comes to a given result
    module _ (program : Program) (act : Shared → Frame → Result) (frames : ThreadFrames) (running_is : slice_index_or w.ends t ends.Running ≡ ends.Running)
        (frames_is : frames ≡ slice_index_or w.stacks.items t frames) (end : End) (next : ThreadFrames) (s : Shared)
        (turned : after (thread_of end next) s ≡ after_result program (act w.shared.content frames.top) w.shared.content frames.top frames.waiting)
      where
        pub acted_world : record { threads = threads_of (take w.count (slice_set w.ends t end)) (slice_set w.stacks.items t next); shared = s; hits = [] }
            ≡ turn_by program act (world_of (machine_of w)) t
        acted_world =
            ap (λ (ts : List Thread). record { threads = ts; shared = s; hits = [] })
            (ap (λ es. threads_of es (slice_set w.stacks.items t next)) (take-set-lt w.count w.ends t end below)
            ∙ threads_of-set (take w.count w.ends) w.stacks.items t end next (omega (arith, below, in_front)) few_ends)
            ∙ sym (ap (turn_by_of program act (world_of (machine_of w)) t) (runs_at frames running_is frames_is)
            ∙ ap (with_after t (world_of (machine_of w))) (sym turned))
