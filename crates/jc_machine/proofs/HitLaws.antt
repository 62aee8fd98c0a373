-- Hits apart from the rest of a world.
use Rattle.std.proofs.Common.{◌≡◌, ℕ, List, [], ◌∷◌, ◌++◌, Option, Some, None, refl, sym, ap, ◌∙◌, append_assoc, length, slice_get, slice_set}
use Rattle.std.proofs.lemmas.List.{append-nil, length-set}
use Rattle.jc_programs.specs.declared.program.Program.{Program}
use Rattle.jc_machine_model.specs.World.{Thread, Hit, World}
use Rattle.jc_machine_model.specs.Step.{step_of, step, turn_of}
use Rattle.jc_machine_model.specs.Run.{run_from}
use Rattle.jc_machine.specs.Turned.{without_hits}

-- a world with these hits in place of its own
abbrev pub with_hits : World → List Hit → World
with_hits w hits = record w { hits = hits }

-- a turn puts its hits in front of those that there were
pub step_apart : (program : Program) (w : World) (t : ℕ)
    → step program w t ≡ with_hits (step program (without_hits w) t) ((step program (without_hits w) t).hits ++ w.hits)
unfolding step
step_apart program w t = by (slice_get w.threads t)
  where
    by : (o : Option Thread) → step_of program w t o ≡ with_hits (step_of program (without_hits w) t o) ((step_of program (without_hits w) t o).hits ++ w.hits)
    by None = refl
    by (Some thread) = let a = turn_of program w.shared thread in
        ap (λ (hits : List Hit). record { threads = slice_set w.threads t a.thread; shared = a.shared; hits = hits ++ w.hits }) (sym (append-nil a.hits))

-- turns leave as many threads as there were
pub step_threads : (program : Program) (w : World) (t : ℕ) → length (step program w t).threads ≡ length w.threads
unfolding step
step_threads program w t = by (slice_get w.threads t)
  where
    by : (o : Option Thread) → length (step_of program w t o).threads ≡ length w.threads
    by None = refl
    by (Some thread) = length-set w.threads t (turn_of program w.shared thread).thread

-- so do the turns of a run
pub run_apart : (program : Program) (w : World) (turns : List ℕ)
    → run_from program w turns ≡ with_hits (run_from program (without_hits w) turns) ((run_from program (without_hits w) turns).hits ++ w.hits)
run_apart program w [] = refl
run_apart program w (t ∷ turns) =
    let next = step program (without_hits w) t in
    let rest = run_from program (without_hits next) turns in
    run_apart program (step program w t) turns
    ∙ (ap (λ (v : World). with_hits (run_from program (without_hits v) turns) ((run_from program (without_hits v) turns).hits ++ v.hits))
    (step_apart program w t)
    ∙ (ap (with_hits rest) (sym (append_assoc rest.hits next.hits w.hits))
    ∙ sym (ap (λ (v : World). with_hits v (v.hits ++ w.hits)) (run_apart program next turns))))
