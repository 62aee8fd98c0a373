-- Worlds with locks of a program and of its twin, as systems whose threads take turns of two kinds.
use Rattle.std.proofs.Common.{◌≡◌, ℕ, ◌<◌, Bool, true, false, nat_eq, refl, sym, ap, subst, subst₂}
use Rattle.std.proofs.lemmas.Bool.{eqb-true, eqb-false}
use Rattle.jc_programs.specs.declared.program.Program.{Program}
use Rattle.jc_programs.specs.declared.run_end.Entry.{Entry}
use Rattle.jc_emit.specs.Marks.{Marks}
use Rattle.jc_machine_model.specs.Step.{step}
use Rattle.jc_monitor_model.specs.MonitorWorld.{MonitorWorld, in_world}
use Rattle.jc_monitor_model.specs.MonitorTurns.{turn_of}
use Rattle.jc_monitor_model.specs.MonitorStep.{monitor_step}
use Rattle.jc_twin_simulation.specs.Schedules.{step_when, IsSimulated}
use Rattle.jc_twin_simulation.specs.Kept.{is_kept, runs}
use Rattle.jc_twin_simulation.specs.Sides.{Side, AreSides, AreMarksOf}
use Rattle.jc_twin_simulation.specs.Beside.{Beside}
use Rattle.jc_twin_simulation.proofs.RunLaws.{option_rank, rank_of}
use Rattle.jc_monitor_laws.specs.MonitorKept.{monitor_runs, is_monitor_kept}
use Rattle.jc_monitor_laws.proofs.ReleaseLaws.{IsWithin, HasFramesWithin, turn_within}
use Rattle.jc_monitor_laws.proofs.ElsewhereLaws.{others_same, nothing_changes}
use Rattle.jc_monitor_laws.proofs.ProbeTurnLaws.{beside_next, probe_step}
use Rattle.jc_monitor_laws.proofs.SameTurnLaws.{stands_at_image}
use Rattle.jc_monitor_laws.proofs.KeptTurnLaws.{MonitorBeside, kinds_same, kept_beside}

-- a turn of any thread leaves no thread's frames deeper than the thread
each_within : (program : Program) (m : MonitorWorld) (t : ℕ) → ((k : ℕ) → HasFramesWithin program m k) → (k : ℕ)
    → HasFramesWithin program (monitor_step program m t) k
each_within program m t within k = by (nat_eq t k) refl
  where
    by : (z : Bool) → nat_eq t k ≡ z → HasFramesWithin program (monitor_step program m t) k
    by true e = subst (HasFramesWithin program (monitor_step program m t)) (eqb-true t k e) (turn_within program m t (within t))
    by false e =
        let same = others_same program t k (eqb-false t k e) m in
        subst₂ (IsWithin program) (sym same.thread) (sym same.frames) (within k)

module _ (p p' : Program) (sides : Entry → Side) (marks : Entry → Marks) (are : AreSides p p' sides) (told : AreMarksOf p p' marks sides) where
  -- and in the twin's world no thread has frames deeper than it is
  pub record MonitorPair (m m' : MonitorWorld) : Type 0 where
    pub beside : MonitorBeside p p' sides marks are told m m'
    pub within : (t : ℕ) → HasFramesWithin p' m' t

  -- a kept turn is of one kind in both worlds
  pub kept_alike : (m m' : MonitorWorld) (t : ℕ) → MonitorPair m m' → is_monitor_kept p' marks m' t ≡ true → turn_of p m t ≡ turn_of p' m' t
  kept_alike m m' t h k =
      kinds_same p p' sides marks are told m m' h.beside t k
      (stands_at_image p p' sides marks are told m.world m'.world (h.beside).worlds t k)

  abbrev pub monitor_rank : MonitorWorld → ℕ → ℕ
  monitor_rank m t = rank_of p p' sides marks are told m.world t

  module _ (most : ℕ)
      (plain : IsSimulated (step p) (step p') (is_kept p' marks) runs runs (Beside p p' sides) (rank_of p p' sides marks are told) most) where
    -- ---- a probe turn

    module _ (m m' : MonitorWorld) (t : ℕ) (h : MonitorPair m m') (r : runs m'.world t ≡ true) (k : is_kept p' marks m'.world t ≡ false) where
      abbrev its_worlds : Beside p p' sides m.world m'.world
      its_worlds = (h.beside).worlds

      probe_is : monitor_step p' m' t ≡ in_world m' (step p' m'.world t)
      probe_is =
          probe_step p p' sides marks are told m.world m' its_worlds t r k (plain.runs_on m.world m'.world t its_worlds r k) (h.within t)

      probe_beside : MonitorBeside p p' sides marks are told m (monitor_step p' m' t)
      probe_beside =
          subst (MonitorBeside p p' sides marks are told m) (sym probe_is)
          (record { worlds = beside_next p p' sides marks are told m.world m' its_worlds t r k; held = (h.beside).held; frames = (h.beside).frames })

      probe_runs : monitor_runs (monitor_step p' m' t) t ≡ true
      probe_runs = subst (λ (n : MonitorWorld). monitor_runs n t ≡ true) (sym probe_is) (plain.runs_on m.world m'.world t its_worlds r k)

      probe_falls : monitor_rank (monitor_step p' m' t) t < monitor_rank m' t
      probe_falls =
          subst (λ (n : MonitorWorld). monitor_rank n t < monitor_rank m' t) (sym probe_is) (plain.falls m.world m'.world t its_worlds r k)

    -- ---- one turn

    aside : (m m' : MonitorWorld) (t : ℕ) → MonitorPair m m' → is_kept p' marks m'.world t ≡ false → (r : Bool) → runs m'.world t ≡ r
        → MonitorBeside p p' sides marks are told m (monitor_step p' m' t)
    aside m m' t h k true r = probe_beside m m' t h r k
    aside m m' t h k false r = subst (MonitorBeside p p' sides marks are told m) (sym (nothing_changes p' m' t r)) h.beside

    one : (m m' : MonitorWorld) (t : ℕ) → MonitorPair m m'
        → MonitorPair (step_when (monitor_step p) (is_monitor_kept p' marks m' t) m t) (monitor_step p' m' t)
    one m m' t h = by (is_monitor_kept p' marks m' t) refl
      where
        by : (b : Bool) → is_monitor_kept p' marks m' t ≡ b → MonitorPair (step_when (monitor_step p) b m t) (monitor_step p' m' t)
        by true k = record {
          beside = kept_beside p p' sides marks are told m m' h.beside t k
              (stands_at_image p p' sides marks are told m.world m'.world (h.beside).worlds t k);
          within = each_within p' m' t h.within;
        }
        by false k = record { beside = aside m m' t h k (runs m'.world t) refl; within = each_within p' m' t h.within }

    pub monitors_simulated : IsSimulated (monitor_step p) (monitor_step p') (is_monitor_kept p' marks) monitor_runs monitor_runs MonitorPair monitor_rank most
    monitors_simulated = record {
      one = one;
      both_run = λ m m' t h. plain.both_run m.world m'.world t (h.beside).worlds;
      idle = nothing_changes p;
      idle_twin = nothing_changes p';
      runs_on = probe_runs;
      falls = probe_falls;
      small = λ m m' t h. plain.small m.world m'.world t (h.beside).worlds;
      others = λ m' k t apart. ap (option_rank p p' sides marks are told) (others_same p' k t (eqb-false k t apart) m').thread;
    }
