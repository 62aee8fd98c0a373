-- Turns one after another, and the hits that a sink gains of them.
use Rattle.std.proofs.Common.{◌≡◌, ◌⊎◌, ◌↔◌, inl, inr, ℕ, List, ◌∷◌, ◌++◌, Contains, sym, ap, subst, ◌∙◌, length, arith, suc, ◌+◌, ◌-◌, ◌%◌, ◌<◌}
use Rattle.std.proofs.Common.{drop, slice_index_or}
use Rattle.std.proofs.lemmas.List.{at_drop_more}
use Rattle.std.proofs.lemmas.List.Elements.{Contains-append_left, Contains-append_right, Contains-append_cases}
use Rattle.jc_programs.specs.declared.program.Program.{Program}
use Rattle.jc_programs.specs.Turns.{turns_around, turns_drawn, next_drawn, drawn_thread}
use Rattle.jc_machine_model.specs.World.{Hit, World}
use Rattle.jc_machine_model.specs.Step.{step}
use Rattle.jc_machine_model.specs.Run.{run_from}
use Rattle.jc_machine.specs.Hits.{Gained}
use Rattle.jc_machine.specs.Turned.{without_hits}
use Rattle.jc_machine.proofs.HitLaws.{step_threads, run_apart}

-- a fact of a class and an id
abbrev Probes : Type 1
Probes = (class id : ℕ) → Type 0

abbrev hit : ℕ → ℕ → Hit
hit class id = record { class = class; id = id }

either : {A B C : Type 0} → (A → C) → (B → C) → A ⊎ B → C
either f g (inl a) = f a
either f g (inr b) = g b

-- what is hit, and what is still to be hit: together they stay where more is hit
still : {Old New : Type 0} (rest more : List Hit) (x : Hit) → (New ↔ (Old ⊎ Contains {X = Hit} more x))
    → ((New ⊎ Contains {X = Hit} rest x) ↔ (Old ⊎ Contains {X = Hit} (rest ++ more) x))
still rest more x e = (
  either (λ n. either (λ o. inl o) (λ m. inr (Contains-append_right rest more x m)) (e.0 n)) (λ r. inr (Contains-append_left rest more x r)),
  either (λ o. inl (e.1 (inl o))) (λ m. either (λ b. inr b) (λ a. inl (e.1 (inr a))) (Contains-append_cases rest more x m)),
)

both_ways : {A B C : Type 0} → (A ↔ B) → (B ↔ C) → (A ↔ C)
both_ways e f = ((λ a. f.0 (e.0 a)), (λ c. e.1 (f.1 c)))

-- Behind some of the turns: those that are left lead to the world to which all lead, and what the sink has and what is still to be
-- hit is what it had and all that is hit.
pub record Underway (program : Program) (start : World) (turns : List ℕ) (had : Probes) (w : World) (left : List ℕ) (has : Probes) : Type 0 where
  pub world : without_hits (run_from program w left) ≡ without_hits (run_from program start turns)
  pub threads : length w.threads ≡ length start.threads
  pub hits : (class id : ℕ) → ((has class id ⊎ Contains {X = Hit} (run_from program w left).hits (hit class id))
      ↔ (had class id ⊎ Contains {X = Hit} (run_from program start turns).hits (hit class id)))

-- one turn more
pub one_more : (program : Program) (start : World) (turns : List ℕ) (had : Probes) (w : World) (t : ℕ) (left : List ℕ) (has : Probes)
    → Underway program start turns had w (t ∷ left) has
    → (next : World) (gained : Probes) → next ≡ without_hits (step program w t) → Gained has (step program w t).hits gained
    → Underway program start turns had next left gained
one_more program start turns had w t left has u next gained is more =
    let apart = run_apart program (step program w t) left in
    subst (λ (v : World). Underway program start turns had v left gained) (sym is) (record {
      world = sym (ap without_hits apart) ∙ u.world;
      threads = step_threads program w t ∙ u.threads;
      hits = λ class id. both_ways (still (run_from program (without_hits (step program w t)) left).hits (step program w t).hits (hit class id) (more class id))
          (subst (λ (v : World).
          ((has class id ⊎ Contains {X = Hit} v.hits (hit class id)) ↔
          (had class id ⊎ Contains {X = Hit} (run_from program start turns).hits (hit class id)))) apart (u.hits class id));
    })

-- ---- the turns that are left

-- the next one is first
pub next_listed : (turns : List ℕ) (k t : ℕ) → k < length turns → t ≡ slice_index_or turns k 0 → drop k turns ≡ t ∷ drop (k + 1) turns
next_listed turns k t less is = at_drop_more (λ (ts : List ℕ). ts) turns k 0 less ∙ ap (λ x. x ∷ drop (k + 1) turns) (sym is)

one_fewer : (n k : ℕ) → k < n → n - k ≡ suc (n - (k + 1))
one_fewer n k less = omega arith

pub next_around : (threads k n t : ℕ) → k < n → t ≡ k % threads → turns_around threads k (n - k) ≡ t ∷ turns_around threads (k + 1) (n - (k + 1))
next_around threads k n t less is = ap (turns_around threads k) (one_fewer n k less) ∙ ap (λ x. x ∷ turns_around threads (k + 1) (n - (k + 1))) (sym is)

pub next_drawn_turn : (threads x k n y t : ℕ) → k < n → y ≡ next_drawn x → t ≡ drawn_thread threads y
    → turns_drawn threads x (n - k) ≡ t ∷ turns_drawn threads y (n - (k + 1))
next_drawn_turn threads x k n y t less follows is =
    ap (turns_drawn threads x) (one_fewer n k less)
    ∙ (ap (λ z. drawn_thread threads z ∷ turns_drawn threads z (n - (k + 1))) (sym follows) ∙ ap (λ u. u ∷ turns_drawn threads y (n - (k + 1))) (sym is))
