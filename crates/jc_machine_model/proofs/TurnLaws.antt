-- Turns of threads that have ended.
use Rattle.std.proofs.Common.{◌≡◌, ℕ, zero, suc, List, [], ◌∷◌, Some, refl, sym, ◌∙◌, ap}
use Rattle.std.specs.Prelude.{slice_get, slice_set}
use Rattle.std.proofs.lemmas.Option.{same_Some}
use Rattle.jc_bytes.proofs.OptionLaws.{none_some}
use Rattle.jc_programs.specs.declared.program.Program.{Program}
use Rattle.jc_machine_model.specs.World.{Thread, running, returned, threw, stuck, World}
use Rattle.jc_machine_model.specs.Step.{step, step_of, with_after, after, turn_of}
use Rattle.jc_machine_model.specs.Laws.{IsOver, EndedStays}

set_same : {X : Type 0} (xs : List X) (i : ℕ) (x : X) → slice_get xs i ≡ Some x → slice_set xs i x ≡ xs
set_same [] i x e = absurd (none_some e)
set_same (y ∷ xs) zero x e = ap (λ z. z ∷ xs) (sym (same_Some y x e))
set_same (y ∷ xs) (suc i) x e = ap (λ l. y ∷ l) (set_same xs i x e)

same_turn : (program : Program) (w : World) (thread : Thread) → IsOver thread → turn_of program w.shared thread ≡ after thread w.shared
same_turn program w (running f waiting) o = absurd o
same_turn program w (returned v) o = refl
same_turn program w (threw c) o = refl
same_turn program w (stuck method place) o = refl

pub ended_stays : EndedStays
unfolding step
ended_stays program w t thread e o =
    ap (step_of program w t) e
    ∙ ap (with_after t w) (same_turn program w thread o)
    ∙ ap (λ l. record { threads = l; shared = w.shared; hits = w.hits }) (set_same w.threads t thread e)
