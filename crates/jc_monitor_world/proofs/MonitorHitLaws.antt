-- Hits apart from the rest of a world with locks, and the hits that a sink gains of turns one after another.
use Rattle.std.proofs.Common.{◌≡◌, ◌⊎◌, ◌↔◌, inl, inr, ℕ, Bool, true, false, List, [], ◌∷◌, ◌++◌, length, Contains, Option, Some, None, nat_lt, refl, sym, ap, ◌∙◌, subst, append_assoc}
use Rattle.std.specs.Prelude.{slice_get, slice_set}
use Rattle.std.proofs.lemmas.List.{append-nil}
use Rattle.std.proofs.lemmas.List.Elements.{Contains-append_left, Contains-append_right, Contains-append_cases}
use Rattle.jc_programs.specs.declared.program.Program.{Program}
use Rattle.jc_programs.specs.declared.run_end.Entry.{Entry}
use Rattle.jc_programs.specs.declared.run_end.Thrown.TheVariants as thrown
use Rattle.jc_machine_model.specs.World.{Frame, Thread, Shared, Hit, World}
use Rattle.jc_machine_model.specs.Results.{Result}
use Rattle.jc_machine_model.specs.Step.{step}
use Rattle.jc_machine_model.specs.Locked.{turn_to, turn_by_of, turn_by, dropping, raising, calling}
use Rattle.jc_machine.specs.Hits.{Gained}
use Rattle.jc_machine.proofs.HitLaws.{with_hits, step_apart}
use Rattle.jc_monitor_model.specs.Locks.{of_class, access, taken_by, given_by}
use Rattle.jc_monitor_model.specs.MonitorWorld.{MonitorWorld, in_world}
use Rattle.jc_monitor_model.specs.MonitorTurns.{MonitorTurn, idle, plain, raises_null, takes, gives, calls_locked, turn_of}
use Rattle.jc_monitor_model.specs.MonitorStep.{depth, is_stuck, is_one_too_many, called_as, called_to, turned, released, after_release, step_as, monitor_step}
use Rattle.jc_monitor_model.specs.MonitorRun.{monitor_run_from}
use Rattle.jc_monitor_world.specs.Monitored.{without_hits}
use Rattle.jc_monitor_world.proofs.KeptLaws.{monitor_step_count}

-- ---- hits apart

-- a world with these hits in place of its own
abbrev pub with_those : MonitorWorld → List Hit → MonitorWorld
with_those m hits = record m { world = with_hits m.world hits }

-- what is without hits, with these and those
abbrev with_more : MonitorWorld → List Hit → MonitorWorld
with_more m hits = with_those m (m.world.hits ++ hits)

-- frames that are left hit nothing
pub release_apart : (program : Program) (t : ℕ) (m : MonitorWorld) (hits : List Hit)
    → after_release program t (with_those m hits) ≡ with_those (after_release program t m) hits
release_apart program t m hits = by (is_stuck m.world t)
  where
    by : (z : Bool) → released program t (with_those m hits) z ≡ with_those (released program t m z) hits
    by true = refl
    by false = refl

pub release_hits : (program : Program) (t : ℕ) (m : MonitorWorld) → (after_release program t m).world.hits ≡ m.world.hits
release_hits program t m = by (is_stuck m.world t)
  where
    by : (z : Bool) → (released program t m z).world.hits ≡ m.world.hits
    by true = refl
    by false = refl

-- a turn puts its hits in front of those that there were
turn_by_apart : (program : Program) (act : Shared → Frame → Result) (w : World) (t : ℕ)
    → turn_by program act w t
    ≡ with_hits (turn_by program act (with_hits w []) t) ((turn_by program act (with_hits w []) t).hits ++ w.hits)
turn_by_apart program act w t = by (slice_get w.threads t)
  where
    by : (o : Option Thread) → turn_by_of program act w t o
        ≡ with_hits (turn_by_of program act (with_hits w []) t o) ((turn_by_of program act (with_hits w []) t o).hits ++ w.hits)
    by None = refl
    by (Some thread) = let a = turn_to program act w.shared thread in
        ap (λ (hits : List Hit). record { threads = slice_set w.threads t a.thread; shared = a.shared; hits = hits ++ w.hits }) (sym (append-nil a.hits))

module _ (program : Program) (m : MonitorWorld) (t : ℕ) where
  abbrev bare : MonitorWorld
  bare = without_hits m

  plain_apart : in_world m (step program m.world t) ≡ with_more (in_world bare (step program bare.world t)) m.world.hits
  plain_apart = ap (in_world m) (step_apart program m.world t)

  call_apart : (method : Entry) → turned program t m (calls_locked method) ≡ with_more (turned program t bare (calls_locked method)) m.world.hits
  call_apart method =
      ap (called_to program t method m) (turn_by_apart program (calling program) m.world t)
      ∙ by (nat_lt (depth program m.world t) (depth program called t)) (is_one_too_many m.held (access t (of_class method.class) m.held))
    where
      called : World
      called = turn_by program (calling program) bare.world t

      by : (deeper too_many : Bool) → called_as program t method m (with_hits called (called.hits ++ m.world.hits)) deeper too_many
          ≡ with_more (called_as program t method bare called deeper too_many) m.world.hits
      by false too_many = refl
      by true true = plain_apart
      by true false = refl

  turned_apart : (turn : MonitorTurn) → turned program t m turn ≡ with_more (turned program t bare turn) m.world.hits
  turned_apart idle = refl
  turned_apart plain = plain_apart
  turned_apart raises_null = ap (in_world m) (turn_by_apart program (raising thrown.NullPointerException) m.world t)
  turned_apart (takes lock) = ap (λ w. record m { world = w; held = taken_by t lock m.held }) (turn_by_apart program dropping m.world t)
  turned_apart (gives lock) = ap (λ w. record m { world = w; held = given_by t lock m.held }) (turn_by_apart program dropping m.world t)
  turned_apart (calls_locked method) = call_apart method

  moved_apart : (turn : MonitorTurn)
      → after_release program t (turned program t m turn) ≡ with_more (after_release program t (turned program t bare turn)) m.world.hits
  moved_apart turn =
      let one = turned program t bare turn in
      ap (after_release program t) (turned_apart turn)
      ∙ (release_apart program t one (one.world.hits ++ m.world.hits)
      ∙ ap (λ hits. with_those (after_release program t one) (hits ++ m.world.hits)) (sym (release_hits program t one)))

  pub monitor_step_apart : monitor_step program m t ≡ with_more (monitor_step program bare t) m.world.hits
  unfolding monitor_step
  monitor_step_apart = by (turn_of program m t)
    where
      by : (turn : MonitorTurn) → step_as program t m turn ≡ with_more (step_as program t bare turn) m.world.hits
      by idle = refl
      by plain = moved_apart plain
      by raises_null = moved_apart raises_null
      by (takes lock) = moved_apart (takes lock)
      by (gives lock) = moved_apart (gives lock)
      by (calls_locked method) = moved_apart (calls_locked method)

-- so do the turns of a run
pub monitor_run_apart : (program : Program) (m : MonitorWorld) (turns : List ℕ)
    → monitor_run_from program m turns ≡ with_more (monitor_run_from program (without_hits m) turns) m.world.hits
monitor_run_apart program m [] = refl
monitor_run_apart program m (t ∷ turns) =
    let next = monitor_step program (without_hits m) t in
    let rest = monitor_run_from program (without_hits next) turns in
    monitor_run_apart program (monitor_step program m t) turns
    ∙ (ap (λ (n : MonitorWorld). with_more (monitor_run_from program (without_hits n) turns) n.world.hits) (monitor_step_apart program m t)
    ∙ (ap (with_those rest) (sym (append_assoc rest.world.hits next.world.hits m.world.hits))
    ∙ sym (ap (λ (n : MonitorWorld). with_more n m.world.hits) (monitor_run_apart program next turns))))

-- ---- turns one after another

-- a fact of a class and an id
abbrev Probes : Type 1
Probes = (class id : ℕ) → Type 0

abbrev hit : ℕ → ℕ → Hit
hit class id = record { class = class; id = id }

either : {A B C : Type 0} → (A → C) → (B → C) → A ⊎ B → C
either f g (inl a) = f a
either f g (inr b) = g b

-- what is hit, and what is still to be hit: together they stay where more is hit
still : {Old New : Type 0} (rest more : List Hit) (x : Hit) → (New ↔ (Old ⊎ Contains {X = Hit} more x))
    → ((New ⊎ Contains {X = Hit} rest x) ↔ (Old ⊎ Contains {X = Hit} (rest ++ more) x))
still rest more x e = (
  either (λ n. either (λ o. inl o) (λ m. inr (Contains-append_right rest more x m)) (e.0 n)) (λ r. inr (Contains-append_left rest more x r)),
  either (λ o. inl (e.1 (inl o))) (λ m. either (λ b. inr b) (λ a. inl (e.1 (inr a))) (Contains-append_cases rest more x m)),
)

both_ways : {A B C : Type 0} → (A ↔ B) → (B ↔ C) → (A ↔ C)
both_ways e f = ((λ a. f.0 (e.0 a)), (λ c. e.1 (f.1 c)))

-- Behind some of the turns: those that are left lead to the world to which all lead, and what the sink has and what is still to be
-- hit is what it had and all that is hit.
pub record Underway (program : Program) (start : MonitorWorld) (turns : List ℕ) (had : Probes) (m : MonitorWorld) (left : List ℕ)
    (has : Probes) : Type 0 where
  pub world : without_hits (monitor_run_from program m left) ≡ without_hits (monitor_run_from program start turns)
  pub threads : length m.world.threads ≡ length start.world.threads
  pub hits : (class id : ℕ) → ((has class id ⊎ Contains {X = Hit} (monitor_run_from program m left).world.hits (hit class id))
      ↔ (had class id ⊎ Contains {X = Hit} (monitor_run_from program start turns).world.hits (hit class id)))

-- one turn more
pub one_more : (program : Program) (start : MonitorWorld) (turns : List ℕ) (had : Probes) (m : MonitorWorld) (t : ℕ) (left : List ℕ) (has : Probes)
    → Underway program start turns had m (t ∷ left) has
    → (next : MonitorWorld) (gained : Probes) → next ≡ without_hits (monitor_step program m t) → Gained has (monitor_step program m t).world.hits gained
    → Underway program start turns had next left gained
one_more program start turns had m t left has u next gained is more =
    let apart = monitor_run_apart program (monitor_step program m t) left in
    subst (λ (n : MonitorWorld). Underway program start turns had n left gained) (sym is) (record {
      world = sym (ap without_hits apart) ∙ u.world;
      threads = monitor_step_count program m t ∙ u.threads;
      hits = λ class id. both_ways
          (still (monitor_run_from program (without_hits (monitor_step program m t)) left).world.hits (monitor_step program m t).world.hits (hit class id)
          (more class id))
          (subst (λ (n : MonitorWorld).
          ((has class id ⊎ Contains {X = Hit} n.world.hits (hit class id)) ↔
          (had class id ⊎ Contains {X = Hit} (monitor_run_from program start turns).world.hits (hit class id)))) apart (u.hits class id));
    })
