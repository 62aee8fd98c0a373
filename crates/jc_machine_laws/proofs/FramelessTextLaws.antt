-- What is printed and hit by the runs of a program without frames.
use Rattle.std.proofs.Common.{◌≡◌, ℕ, ◌+◌, List, [], ◌∷◌, ◌++◌, map, Option, None, Some, option_map, refl, ap, ap₂, ◌∙◌}
use Rattle.std.specs.List.{slice_get, flat_map}
use Rattle.std.proofs.lemmas.Option.{slice_get-map}
use Rattle.jc_programs.specs.declared.program.Program.{Program}
use Rattle.jc_programs.specs.declared.program.Linked.{Linked}
use Rattle.jc_programs.specs.declared.run_end.CaseEnd.{CaseEnd}
use Rattle.jc_programs.specs.declared.run_end.StaticEnd.{StaticEnd}
use Rattle.jc_programs.specs.declared.run_plan.Case.{Case}
use Rattle.jc_programs.specs.declared.run_plan.RunPlan.{RunPlan}
use Rattle.jc_programs.specs.Turns.{turns_in}
use Rattle.jc_machine_model.specs.CaseEnds.{field_ends, class_ends, case_end_in, ends_in, case_end}
use Rattle.jc_machine_model.specs.CaseText.{field_line, static_text, case_line, case_text, case_texts, thread_lines}
use Rattle.jc_machine_model.specs.Run.{run, hits_of}
use Rattle.jc_machine_model.specs.Values.{Value}
use Rattle.jc_machine_model.specs.World.{Hit, World}
use Rattle.jc_machine_laws.specs.Frameless.{frameless_class, frameless}
use Rattle.jc_machine_laws.proofs.FramelessStepLaws.{same_run}

same_class_ends : (k : ℕ) (classes : List Linked) (statics : List (List Value))
    → class_ends k (map frameless_class classes) statics ≡ class_ends k classes statics
same_class_ends k [] statics = refl
same_class_ends k (c ∷ classes) [] = refl
same_class_ends k (c ∷ classes) (values ∷ statics) = ap (λ (l : List StaticEnd). field_ends k 0 c.statics values ++ l) (same_class_ends (k + 1) classes statics)

module _ (p : Program) where
  pub same_end : (w : World) → case_end_in (frameless p) w ≡ case_end_in p w
  same_end w =
      ap (λ (l : List StaticEnd). let e : CaseEnd = record { output = w.shared.output; ends = ends_in w; statics = l; raised = w.shared.raised } in e)
      (same_class_ends 0 p.classes w.shared.statics)

  same_case_end : (case : Case) (turns : List ℕ) → case_end (frameless p) case turns ≡ case_end p case turns
  same_case_end case turns = ap (case_end_in (frameless p)) (same_run p case turns) ∙ same_end (run p case turns)

  same_static_text : (s : StaticEnd) → static_text (frameless p) s ≡ static_text p s
  same_static_text s =
      ap (λ (o : Option Linked). elim o [ None ↦ [] | Some c ↦ field_line c s ]) (slice_get-map frameless_class p.classes s.class)
      ∙ by (slice_get p.classes s.class)
    where
      by : (o : Option Linked) → ◌≡◌ {A = List ℕ} (elim (option_map frameless_class o) [ None ↦ [] | Some c ↦ field_line c s ])
          (elim o [ None ↦ [] | Some c ↦ field_line c s ])
      by None = refl
      by (Some c) = refl

  pub same_text : (k : ℕ) (end : CaseEnd) → case_text (frameless p) k end ≡ case_text p k end
  same_text k end =
      ap (λ (f : StaticEnd → List ℕ). case_line k ++ (end.output ++ (thread_lines 0 end.ends ++ flat_map f end.statics))) (λ i s. same_static_text s i)

  pub same_texts : (k : ℕ) (cases : List Case) → case_texts (frameless p) k cases ≡ case_texts p k cases
  same_texts k [] = refl
  same_texts k (case ∷ cases) =
      ap₂ (λ (x y : List ℕ). x ++ y)
      (ap (case_text (frameless p) k) (same_case_end case (turns_in case)) ∙ same_text k (case_end p case (turns_in case)))
      (same_texts (k + 1) cases)

  pub same_hits : (plan : RunPlan) → hits_of (frameless p) plan ≡ hits_of p plan
  same_hits plan = ap (λ (f : Case → List Hit). flat_map f plan.cases) (λ i case. (same_run p case (turns_in case) i).hits)
