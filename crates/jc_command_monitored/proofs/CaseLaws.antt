-- The cases of a run plan whose threads take locks: the run of each, and what the cases so far leave and hit.
use Rattle.std.proofs.Common.{◌≡◌, inl, inr, ⊎_elim, ◌↔◌, ℕ, ◌+◌, ◌<◌, Bool, List, [], ◌∷◌, ◌++◌, length, take, get_or, map, Contains, refl, sym, ◌∙◌, ap, ap₂, subst, append-nil}
use Rattle.std.specs.List.{flat_map}
use Rattle.std.proofs.lemmas.List.{take_more}
use Rattle.std.proofs.lemmas.List.Concat.{flat_map-cons}
use Rattle.std.proofs.lemmas.List.Elements.{Contains-append_left, Contains-append_right, Contains-append_cases, Contains-get_or}
use Rattle.std.proofs.lemmas.Grind.{flat_map-append}
use Rattle.jc_bytes.proofs.BooleanLaws.{none_in}
use Rattle.jc_bytes.proofs.ListLaws.{flat_in, flat_cases, map_take_more}
use Rattle.jc_programs.specs.declared.program.Program.{Program}
use Rattle.jc_programs.specs.declared.run_plan.Case.{Case}
use Rattle.jc_programs.specs.declared.run_plan.RunPlan.{RunPlan}
use Rattle.jc_programs.specs.declared.run_end.CaseEnd.{CaseEnd}
use Rattle.jc_programs.specs.declared.run_end.Entry.{Entry}
use Rattle.jc_programs.specs.Entries.{AreEntries}
use Rattle.jc_programs.specs.Probes.{IsHit, no_hits}
use Rattle.jc_programs.specs.Turns.{IsCase, IsRunPlan, turns_of, turns_in}
use Rattle.jc_machine.specs.Hits.{Gained}
use Rattle.jc_machine_model.specs.Begin.{entries_of}
use Rattle.jc_machine_model.specs.World.{Hit}
use Rattle.jc_machine_model.specs.CaseText.{case_text}
use Rattle.jc_monitor_model.specs.MonitorWorld.{MonitorWorld}
use Rattle.jc_monitor_model.specs.MonitorRun.{monitor_begin, monitor_run_from, monitor_run}
use Rattle.jc_monitor_runs.specs.MonitorTexts.{monitor_case_end, monitor_case_hits, monitor_texts}
use Rattle.jc_monitor_world.specs.Monitored.{Monitored, monitor_world_of}
use Rattle.jc_board.proofs.HitSetLaws.{no_hit}
use Rattle.jc_workers.proofs.CaseLaws.{entries_are}
use Rattle.jc_command_run.specs.Texts.{end_texts}
use Rattle.jc_command_run.proofs.HitLaws.{probe}
use Rattle.jc_command_monitored.specs.MonitoredHits.{IsMonitoredHit}

-- ---- one case

-- the entries of its threads are those that it has
pub entries_fit : (program : Program) (case : Case) → ((entries : List Entry) × AreEntries program case.threads entries) → (entries : List Entry)
    → entries ≡ entries_of program case.threads → AreEntries program case.threads entries
entries_fit program case have entries is =
    subst (AreEntries program case.threads) (sym (entries_are program case.threads have.0 have.1) ∙ sym is) have.1

-- one of the cases of a run plan
pub case_at : (plan : RunPlan) → IsRunPlan plan → (cases : List Case) → cases ≡ plan.cases → (i : ℕ) (case : Case) → case ≡ get_or cases i case → i < length cases
    → IsCase case × Contains plan.cases case
case_at plan fits cases same i case is less =
    let there : case ≡ get_or plan.cases i case = is ∙ ap (λ (l : List Case). get_or l i case) same in
    let within : i < length plan.cases = subst (λ (l : List Case). i < length l) same less in
    (subst IsCase (sym there) (fits.cases i case within), subst (Contains plan.cases) (sym there) (Contains-get_or plan.cases i case within))

module _ (program : Program) (case : Case) (entries : List Entry) (are : AreEntries program case.threads entries) where
  -- its turns, from the world in which it begins
  pub whole_run : (m : Monitored) → monitor_world_of m ≡ monitor_begin program case.threads entries → length m.machine.threads ≡ length case.threads
      → monitor_run_from program (monitor_world_of m) (turns_of (length m.machine.threads) case.schedule) ≡ monitor_run program case (turns_in case)
  whole_run m begins many =
      ap (λ (n : ℕ). monitor_run_from program (monitor_world_of m) (turns_of n case.schedule)) many
      ∙ ap (λ (w : MonitorWorld). monitor_run_from program w (turns_in case))
      (begins ∙ ap (monitor_begin program case.threads) (sym (entries_are program case.threads entries are)))

-- ---- the cases so far

-- the hits are exactly those of these cases
abbrev pub HasHits : Program → List Case → List (List Bool) → Type 0
HasHits program cases hits = (class id : ℕ) → IsHit hits class id ↔ Contains (flat_map (monitor_case_hits program) cases) (probe class id)

-- no case has run yet
pub none_yet : (program : Program) (counts : List ℕ) (hits : List (List Bool)) → hits ≡ no_hits counts → HasHits program [] hits
none_yet program counts hits none class id = (
  λ hit. absurd (no_hit counts class id (subst (λ (h : List (List Bool)). IsHit h class id) none hit)),
  λ there. absurd (none_in (probe class id) there),
)

module _ (program : Program) (cases : List Case) (i : ℕ) (case : Case) (within : i < length cases) (is : case ≡ get_or cases i case) where
  abbrev hits_before : List Hit
  hits_before = flat_map (monitor_case_hits program) (take i cases)

  one_more : flat_map (monitor_case_hits program) (take (i + 1) cases) ≡ hits_before ++ monitor_case_hits program case
  one_more =
      ap (flat_map (monitor_case_hits program)) (take_more cases i case within ∙ ap (λ (c : Case). take i cases ++ c ∷ []) (sym is))
      ∙ flat_map-append (monitor_case_hits program) (take i cases) (case ∷ [])
      ∙ ap (λ (l : List Hit). hits_before ++ l) (flat_map-cons (monitor_case_hits program) case [] ∙ append-nil (monitor_case_hits program case))

  pub hits_more : (old new : List (List Bool)) → HasHits program (take i cases) old → Gained (IsHit old) (monitor_case_hits program case) (IsHit new)
      → HasHits program (take (i + 1) cases) new
  hits_more old new has gained class id = (
    λ hit. subst (λ (l : List Hit). Contains l (probe class id)) (sym one_more)
        (⊎_elim
        (λ was. Contains-append_left hits_before (monitor_case_hits program case) (probe class id) ((has class id).0 was))
        (λ made. Contains-append_right hits_before (monitor_case_hits program case) (probe class id) made)
        ((gained class id).0 hit)),
    λ there. (gained class id).1
        (⊎_elim
        (λ was. inl ((has class id).1 was))
        (λ made. inr made)
        (Contains-append_cases hits_before (monitor_case_hits program case) (probe class id)
        (subst (λ (l : List Hit). Contains l (probe class id)) one_more there))),
  )

  pub ends_more : (before after : List CaseEnd) (end : CaseEnd) → after ≡ before ++ end ∷ [] → before ≡ map (monitor_case_end program) (take i cases)
      → end ≡ monitor_case_end program case → after ≡ map (monitor_case_end program) (take (i + 1) cases)
  ends_more before after end grows so_far left =
      grows ∙ ap₂ (λ (l : List CaseEnd) (e : CaseEnd). l ++ e ∷ []) so_far left ∙ sym (map_take_more (monitor_case_end program) cases i case within is)

-- the hits of all cases are those of the run plan
pub hits_of_plan : (program : Program) (plan : RunPlan) (hits : List (List Bool)) → HasHits program plan.cases hits → (class id : ℕ)
    → IsHit hits class id ↔ IsMonitoredHit program plan (probe class id)
hits_of_plan program plan hits has class id = (
  λ hit. flat_cases (monitor_case_hits program) plan.cases (probe class id) ((has class id).0 hit),
  λ is. (has class id).1 (flat_in (monitor_case_hits program) plan.cases is.0 (probe class id) is.1 is.2),
)

-- ---- texts

-- the texts of cases are those of what each leaves
pub same_texts : (program : Program) (k : ℕ) (cases : List Case) → end_texts program k (map (monitor_case_end program) cases) ≡ monitor_texts program k cases
same_texts program k [] = refl
same_texts program k (case ∷ cases) = ap (λ (text : List ℕ). case_text program k (monitor_case_end program case) ++ text) (same_texts program (k + 1) cases)
