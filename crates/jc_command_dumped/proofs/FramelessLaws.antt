-- What is written of a program is what is written of it without its frames.
use Rattle.std.proofs.Common.{◌≡◌, ℕ, ◌+◌, Bool, List, [], ◌∷◌, ◌++◌, map, Contains, Option, None, Some, refl, sym, ◌∙◌, ap, ap₂, subst}
use Rattle.std.specs.List.{filter}
use Rattle.jc_exec.specs.declared.hits.ClassHits.{ClassHits}
use Rattle.jc_exec.specs.Store.{Store}
use Rattle.jc_exec.specs.Writing.{exec_text, is_hit}
use Rattle.jc_programs.specs.declared.program.Program.{Program}
use Rattle.jc_programs.specs.declared.program.Linked.{Linked}
use Rattle.jc_programs.specs.declared.program.ProbeInit.{ProbeInit}
use Rattle.jc_programs.specs.declared.run_plan.Case.{Case}
use Rattle.jc_programs.specs.declared.run_plan.RunPlan.{RunPlan}
use Rattle.jc_programs.specs.declared.run_plan.ThreadLine.{ThreadLine}
use Rattle.jc_programs.specs.Turns.{turns_in}
use Rattle.jc_machine.specs.Hits.{count_in, probe_counts}
use Rattle.jc_machine_model.specs.Run.{case_hits, IsHit as IsHitBy}
use Rattle.jc_machine_model.specs.World.{Hit}
use Rattle.jc_machine_laws.specs.Frameless.{frameless_class, frameless}
use Rattle.jc_machine_laws.proofs.FramelessStepLaws.{same_run}
use Rattle.jc_machine_laws.proofs.FramelessTextLaws.{same_texts}
use Rattle.jc_machine_model.specs.CaseText.{case_texts}
use Rattle.jc_workers.specs.Cases.{case_at, HitBy}
use Rattle.jc_command_work.specs.Step.{Word, Write, to_file, to_out}
use Rattle.jc_command_work.specs.Part.{gives}
use Rattle.jc_command_work.specs.Answered.{Answer}
use Rattle.jc_command_run.specs.HitStore.{with_set, set_records}
use Rattle.jc_command_run.specs.RunStore.{threads_of, first_without}
use Rattle.jc_command_run.proofs.StoreLaws.{same_without}
use Rattle.jc_dump.specs.Dumps.{AreDumps, AreInOrder, AnyHits}
use Rattle.jc_command_dumped.specs.DumpedAnswers.{set_store, dump_files, Dumping, Taken, IsTaken, taken_answer, IsDumpedAnswer}

-- ---- what is written

same_set_records : (hits : List (List Bool)) (k : ℕ) (classes : List Linked) → set_records hits k (map frameless_class classes) ≡ set_records hits k classes
same_set_records hits k [] = refl
same_set_records hits k (c ∷ classes) = by c.probes ∙ ap (with_set hits k c c.probes) (same_set_records hits (k + 1) classes)
  where
    by : (o : Option ProbeInit) → with_set hits k (frameless_class c) o (set_records hits (k + 1) (map frameless_class classes))
        ≡ with_set hits k c o (set_records hits (k + 1) (map frameless_class classes))
    by None = refl
    by (Some init) = refl

module _ (p : Program) where
  same_set_store : (hits : List (List Bool)) → set_store (frameless p) hits ≡ set_store p hits
  same_set_store hits =
      ap (λ (cs : List ClassHits). let s : Store = record { sessions = []; classes = filter is_hit cs } in s) (same_set_records hits 0 p.classes)

  same_files : (paths : List Word) (dumps : List (List (List Bool))) → dump_files (frameless p) paths dumps ≡ dump_files p paths dumps
  same_files [] dumps = refl
  same_files (path ∷ paths) [] = refl
  same_files (path ∷ paths) (dump ∷ dumps) =
      ap₂ (λ (s : Store) (ws : List Write). to_file path (exec_text s) ∷ ws) (same_set_store dump) (same_files paths dumps)

  same_answer : (d : Dumping) (taken : Taken) (plan : RunPlan) (o : Option ThreadLine)
      → taken_answer d taken plan (frameless p) o ≡ taken_answer d taken plan p o
  same_answer d taken plan None =
      ap (λ (files : List Write). by files (set_store (frameless p) taken.rest) (case_texts (frameless p) 1 plan.cases)) (same_files d.dumps taken.dumps)
      ∙ ap₂ (λ (rest : Store) (text : List ℕ). by (dump_files p d.dumps taken.dumps) rest text) (same_set_store taken.rest) (same_texts p 1 plan.cases)
    where
      by : List Write → Store → List ℕ → Answer
      by files rest text = gives (files ++ to_file d.exec (exec_text rest) ∷ to_out text ∷ [])
  same_answer d taken plan (Some thread) = refl

  -- ---- dumps

  same_probe_counts : probe_counts (frameless p) ≡ probe_counts p
  same_probe_counts = by p.classes
    where
      by : (classes : List Linked) → map (λ (c : Linked). count_in c.probes) (map frameless_class classes) ≡ map (λ (c : Linked). count_in c.probes) classes
      by [] = refl
      by (c ∷ classes) = ap (λ (l : List ℕ). count_in c.probes ∷ l) (by classes)

  same_case_hits : (case : Case) → case_hits (frameless p) case ≡ case_hits p case
  same_case_hits case i = (same_run p case (turns_in case) i).hits

  module _ (plan : RunPlan) where
    plan_hits : (hit : Hit) → IsHitBy p plan hit → IsHitBy (frameless p) plan hit
    plan_hits hit is = (is.0, is.1, subst (λ (l : List Hit). Contains l hit) (sym (same_case_hits is.0)) is.2)

    hits_plan : (hit : Hit) → IsHitBy (frameless p) plan hit → IsHitBy p plan hit
    hits_plan hit is = (is.0, is.1, subst (λ (l : List Hit). Contains l hit) (same_case_hits is.0) is.2)

    hit_by : (k class id : ℕ) → HitBy p plan k class id → HitBy (frameless p) plan k class id
    hit_by k class id is = subst (λ (l : List Hit). Contains l (record { class = class; id = id })) (sym (same_case_hits (case_at plan k))) is

    by_hit : (k class id : ℕ) → HitBy (frameless p) plan k class id → HitBy p plan k class id
    by_hit k class id is = subst (λ (l : List Hit). Contains l (record { class = class; id = id })) (same_case_hits (case_at plan k)) is

    same_dumps : (every : ℕ) (dumps : List (List (List Bool))) (rest : List (List Bool)) → AreDumps p plan every dumps rest
        → AreDumps (frameless p) plan every dumps rest
    same_dumps every dumps rest are = record {
      count = are.count;
      dump_counts = λ k within. are.dump_counts k within ∙ sym same_probe_counts;
      rest_counts = are.rest_counts ∙ sym same_probe_counts;
      all = λ class id. ((λ is. (are.all class id).0 (hits_plan _ is)), (λ has. plan_hits _ ((are.all class id).1 has)));
      due = λ k within multiple class id is. are.due k within multiple class id (by_hit k class id is);
    }

    any_hits : (first end class id : ℕ) → AnyHits p plan first end class id → AnyHits (frameless p) plan first end class id
    any_hits first end class id any = (any.0, any.1, any.2, hit_by any.0 class id any.3)

    hits_any : (first end class id : ℕ) → AnyHits (frameless p) plan first end class id → AnyHits p plan first end class id
    hits_any first end class id any = (any.0, any.1, any.2, by_hit any.0 class id any.3)

    same_order : (every : ℕ) (dumps : List (List (List Bool))) (rest : List (List Bool)) → AreInOrder p plan every dumps rest
        → AreInOrder (frameless p) plan every dumps rest
    same_order every dumps rest are = record {
      each = λ k within class id.
          ((λ is. any_hits _ _ class id ((are.each k within class id).0 is)), (λ any. (are.each k within class id).1 (hits_any _ _ class id any)));
      last = λ class id. ((λ is. any_hits _ _ class id ((are.last class id).0 is)), (λ any. (are.last class id).1 (hits_any _ _ class id any)));
    }

    same_taken : (every workers : ℕ) (taken : Taken) → IsTaken p plan every workers taken → IsTaken (frameless p) plan every workers taken
    same_taken every workers taken is = record {
      dumps = same_dumps every taken.dumps taken.rest is.dumps;
      in_order = λ one. same_order every taken.dumps taken.rest (is.in_order one);
    }

    pub frameless_makes : (taken : Taken) (d : Dumping) (a : Answer) → IsDumpedAnswer taken d plan p a → IsDumpedAnswer taken d plan (frameless p) a
    frameless_makes taken d a made =
        let threads = threads_of plan in
        let without = same_without p threads in
        record {
          is_taken = λ none. same_taken d.every d.workers taken (made.is_taken (sym without ∙ none));
          by_taken = made.by_taken ∙ sym (same_answer d taken plan (first_without (frameless p) threads) ∙ ap (taken_answer d taken plan p) without);
        }
