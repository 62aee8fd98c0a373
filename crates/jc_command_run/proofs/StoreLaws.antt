-- What programs without frames have in common with the programs that they are of.
use Rattle.std.proofs.Common.{◌≡◌, ℕ, ◌+◌, Bool, not, is_some, List, [], ◌∷◌, map, Option, None, Some, refl, ap, ap₂, sym, ◌∙◌}
use Rattle.std.specs.List.{find, filter}
use Rattle.jc_exec.specs.declared.hits.ClassHits.{ClassHits}
use Rattle.jc_exec.specs.Store.{Store}
use Rattle.jc_exec.specs.Writing.{is_hit}
use Rattle.jc_methods.specs.declared.body.Body.{Body}
use Rattle.jc_methods.specs.VerificationTypes.{Names}
use Rattle.jc_emit.specs.TwinBodies.{AreSameBodies}
use Rattle.jc_link_programs.specs.SameProgram.{IsSameLinked, AreSameClasses, IsSameProgram}
use Rattle.jc_programs.specs.declared.program.Program.{Program}
use Rattle.jc_programs.specs.declared.program.Linked.{Linked}
use Rattle.jc_programs.specs.declared.program.ProbeInit.{ProbeInit}
use Rattle.jc_programs.specs.declared.run_plan.RunPlan.{RunPlan}
use Rattle.jc_programs.specs.declared.run_plan.ThreadLine.{ThreadLine}
use Rattle.jc_machine_model.specs.Run.{hits_of}
use Rattle.jc_machine_model.specs.World.{Hit}
use Rattle.jc_machine_laws.specs.Frameless.{frameless_body, frameless_class, frameless}
use Rattle.jc_machine_laws.proofs.FramelessLookupLaws.{same_entry}
use Rattle.jc_machine_laws.proofs.FramelessTextLaws.{same_hits}
use Rattle.jc_command_run.specs.RunStore.{first_without, with_record, hit_records, store_of, run_store}

-- ---- equal programs

same_bodies : (names others : Names) (xs ys : List Body) → AreSameBodies names others xs ys → map frameless_body xs ≡ map frameless_body ys
same_bodies names others [] [] same = refl
same_bodies names others [] (y ∷ ys) same = absurd same
same_bodies names others (x ∷ xs) [] same = absurd same
same_bodies names others (x ∷ xs) (y ∷ ys) same =
    ap₂ (λ (b : Body) (bs : List Body). b ∷ bs) (sym (ap frameless_body same.0.others)) (same_bodies names others xs ys same.1)

pub same_class : (names others : Names) (a b : Linked) → IsSameLinked names others a b → frameless_class a ≡ frameless_class b
same_class names others a b same =
    λ i. record {
      name = sym same.name i;
      version = sym same.version i;
      bodies = same_bodies names others a.bodies b.bodies same.bodies i;
      statics = sym same.statics i;
      has_clinit = sym same.has_clinit i;
      probes = sym same.probes i;
    }

same_classes : (names others : Names) (xs ys : List Linked) → AreSameClasses names others xs ys → map frameless_class xs ≡ map frameless_class ys
same_classes names others [] [] same = refl
same_classes names others [] (y ∷ ys) same = absurd same
same_classes names others (x ∷ xs) [] same = absurd same
same_classes names others (x ∷ xs) (y ∷ ys) same =
    ap₂ (λ (c : Linked) (cs : List Linked). c ∷ cs) (same_class names others x y same.0) (same_classes names others xs ys same.1)

-- programs that are equal but for how frames number classes are one without their frames
pub same_frameless : (p q : Program) → IsSameProgram p q → frameless p ≡ frameless q
same_frameless p q same = ap (λ (cs : List Linked). let r : Program = record { classes = cs; names = [] } in r) (same_classes p.names q.names p.classes q.classes same)

-- ---- what a program has without its frames

pub same_records : (hits : List Hit) (k : ℕ) (classes : List Linked) → hit_records hits k (map frameless_class classes) ≡ hit_records hits k classes
same_records hits k [] = refl
same_records hits k (c ∷ classes) = by c.probes ∙ ap (with_record hits k c c.probes) (same_records hits (k + 1) classes)
  where
    by : (o : Option ProbeInit) → with_record hits k (frameless_class c) o (hit_records hits (k + 1) (map frameless_class classes))
        ≡ with_record hits k c o (hit_records hits (k + 1) (map frameless_class classes))
    by None = refl
    by (Some init) = refl

pub same_store_of : (p : Program) (hits : List Hit) → store_of (frameless p) hits ≡ store_of p hits
same_store_of p hits =
    ap (λ (cs : List ClassHits). let s : Store = record { sessions = []; classes = filter is_hit cs } in s) (same_records hits 0 p.classes)

pub same_store : (p : Program) (plan : RunPlan) → run_store (frameless p) plan ≡ run_store p plan
same_store p plan = ap (store_of (frameless p)) (same_hits p plan) ∙ same_store_of p (hits_of p plan)

pub same_without : (p : Program) (threads : List ThreadLine) → first_without (frameless p) threads ≡ first_without p threads
same_without p threads = ap (λ (t : ThreadLine → Bool). find t threads) (λ i thread. not (is_some (same_entry p thread i)))
