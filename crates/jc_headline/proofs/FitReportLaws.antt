-- The records of a run of instrumented files clash with none of the originals.
use Rattle.std.proofs.Common.{◌≡◌, ℕ, zero, suc, ◌+◌, Bool, true, false, cond, nat_eq, List, [], ◌∷◌, length, Option, None, Some, refl, sym, ◌∙◌, ap, arith}
use Rattle.std.specs.Prelude.{slice_get, bytes_eq, if◌then◌else◌}
use Rattle.std.specs.List.{AllByRecursion}
use Rattle.std.specs.Option.{option_or}
use Rattle.std.proofs.lemmas.Bool.{and_from, eq-eqb}
use Rattle.std.proofs.lemmas.List.FromFn.{length-map-range_with_len}
use Rattle.std.proofs.lemmas.Slice.Eq.{bytes_eq-Decides}
use Rattle.jc_bytes.specs.ByteLists.{AreBytes}
use Rattle.jc_methods.specs.VerificationTypes.{Names}
use Rattle.jc_methods.specs.declared.analysed.Analysed.{Analysed}
use Rattle.jc_programs.specs.declared.program.Linked.{Linked}
use Rattle.jc_programs.specs.declared.program.Program.{Program}
use Rattle.jc_programs.specs.declared.run_plan.RunPlan.{RunPlan}
use Rattle.jc_plan.specs.Analysed.{all_probes}
use Rattle.jc_instrument.proofs.SameAnalysisLaws.{same_probes}
use Rattle.jc_exec.specs.declared.hits.ClassHits.{ClassHits}
use Rattle.jc_exec.specs.declared.refusal.ExecRefusal.{ExecRefusal}
use Rattle.jc_exec.specs.Answers.{conflict_with}
use Rattle.jc_exec.specs.Union.{fits}
use Rattle.jc_exec.specs.Writing.{is_hit as has_hit}
use Rattle.jc_link_programs.specs.Linking.{AreLinkedClasses}
use Rattle.jc_link_programs.specs.Pairs.{HaveOneId, NoPair}
use Rattle.jc_link_laws.specs.TwinFiles.{AreWrittenOf, IsShortFile}
use Rattle.jc_link_laws.proofs.SecondLinkingLaws.{same_name}
use Rattle.jc_machine_model.specs.Run.{hits_of}
use Rattle.jc_command_classes.specs.Report.{ReportedFile, refused_class, unchanged_class, changed_class, IsItem, is_refused, is_unchanged, is_changed, AreItems, record_of, clash_with, clash_of, first_clash}
use Rattle.jc_command_run.specs.RunStore.{is_hit_in, hit_record, run_store}
use Rattle.jc_headline.proofs.FactLaws.{ChangedFacts, FileFacts, AreFacts}
use Rattle.jc_headline.proofs.RecordLaws.{hit_there}

-- ---- the probes of an original, and the name of its twin

abbrev CountsProbes : ReportedFile → Type 0
CountsProbes (refused_class why) = Unit {0}
CountsProbes unchanged_class = Unit {0}
CountsProbes (changed_class a) = a.probes ≡ all_probes a.bodies

counts_probes : (bytes : List ℕ) (item : ReportedFile) → IsItem bytes item → CountsProbes item
counts_probes bytes _ (is_refused why reason) = tt
counts_probes bytes _ (is_unchanged a is alone) = tt
counts_probes bytes _ (is_changed a is alone) = is.analysed.probes ∙ same_probes a.bodies

-- each class has the name of its twin, and as many probes as its bodies
abbrev pub AreCounts : List Linked → List Linked → List ReportedFile → Type 0
AreCounts [] [] [] = Unit {0}
AreCounts (l ∷ ls) (n ∷ ns) (item ∷ items) = ((n.name ≡ l.name) × CountsProbes item) × AreCounts ls ns items
AreCounts _ _ _ = ⊥

pub counts_of : (names new_names : Names) (os ws : List (List ℕ)) (ls ns : List Linked) (items : List ReportedFile) → AllByRecursion IsShortFile os → AllByRecursion AreBytes ws
    → AreWrittenOf os ws → AreLinkedClasses names os ls → AreLinkedClasses new_names ws ns → AreItems os items → AreCounts ls ns items
counts_of names new_names [] ws ls ns (i ∷ items) short are w p q is = absurd is
counts_of names new_names [] (x ∷ ws) ls ns [] short are w p q is = absurd w
counts_of names new_names [] [] (l ∷ ls) ns [] short are w p q is = absurd p
counts_of names new_names [] [] [] (n ∷ ns) [] short are w p q is = absurd q
counts_of names new_names [] [] [] [] [] short are w p q is = tt
counts_of names new_names (o ∷ os) ws ls ns [] short are w p q is = absurd is
counts_of names new_names (o ∷ os) [] ls ns (i ∷ items) short are w p q is = absurd w
counts_of names new_names (o ∷ os) (x ∷ ws) [] ns (i ∷ items) short are w p q is = absurd p
counts_of names new_names (o ∷ os) (x ∷ ws) (l ∷ ls) [] (i ∷ items) short are w p q is = absurd q
counts_of names new_names (o ∷ os) (x ∷ ws) (l ∷ ls) (n ∷ ns) (i ∷ items) short are w p q is = (
  (same_name names new_names o x l n short.0 are.0 p.0 q.0 w.0, counts_probes o i is.0),
  counts_of names new_names os ws ls ns items short.1 are.1 w.1 p.1 q.1 is.1,
)

-- ---- the records

module _ (after : Program) (plan : RunPlan) (ids : NoPair (HaveOneId after.classes)) where
  abbrev records : List ClassHits
  records = (run_store after plan).classes

  module _ (k : ℕ) (l n : Linked) (a : Analysed) (at : slice_get after.classes k ≡ Some n) (f : ChangedFacts l n a) where
    abbrev own : ClassHits
    own = hit_record (hits_of after plan) k n f.init

    record_is : record_of records a.id ≡ cond (has_hit own) (Some own) None
    record_is = ap (record_of records) (sym f.id) ∙ hit_there (hits_of after plan) after.classes ids k n f.init at f.probes

    -- the record of a changed class fits it, if there is one
    record_fits : n.name ≡ l.name → a.probes ≡ all_probes a.bodies → clash_with a (record_of records a.id) ≡ None
    record_fits named counted = ap (clash_with a) record_is ∙ by (has_hit own)
      where
        count : length own.bits ≡ a.probes
        count =
            length-map-range_with_len (is_hit_in (hits_of after plan) k) 0 f.init.count ∙ f.count ∙ same_probes l.bodies ∙ ap all_probes (sym f.bodies) ∙ sym counted

        fits_it : fits own a.name a.probes ≡ true
        fits_it =
            and_from (bytes_eq own.name a.name) (nat_eq (length own.bits) a.probes) ((bytes_eq-Decides own.name a.name).1 (named ∙ sym f.name))
            (eq-eqb (length own.bits) a.probes count)

        by : (t : Bool) → clash_with a (cond t (Some own) None) ≡ None
        by true = ap (λ (t : Bool). if t then None else Some (conflict_with own a.id a.name a.probes)) fits_it
        by false = refl

  pub none_clashes : (k : ℕ) (ls ns : List Linked) (items : List ReportedFile) → ((i : ℕ) (n : Linked) → slice_get ns i ≡ Some n → slice_get after.classes (k + i) ≡ Some n)
      → AreFacts ls ns items → AreCounts ls ns items → first_clash records items ≡ None
  none_clashes k [] [] [] ns_at facts counts = refl
  none_clashes k [] [] (i ∷ items) ns_at facts counts = absurd facts
  none_clashes k [] (n ∷ ns) items ns_at facts counts = absurd facts
  none_clashes k (l ∷ ls) [] items ns_at facts counts = absurd facts
  none_clashes k (l ∷ ls) (n ∷ ns) [] ns_at facts counts = absurd facts
  none_clashes k (l ∷ ls) (n ∷ ns) (item ∷ items) ns_at facts counts =
      let e : k + 0 ≡ k = omega arith in
      let later = none_clashes (k + 1) ls ns items (λ i x at. let e : (k + 1) + i ≡ k + suc i = omega arith in ap (slice_get after.classes) e ∙ ns_at (suc i) x at) facts.1 counts.1 in
      ap (λ (o : Option ExecRefusal). option_or o (first_clash records items)) (by item facts.0 counts.0.1 (ap (slice_get after.classes) (sym e) ∙ ns_at zero n refl)) ∙ later
    where
      by : (i : ReportedFile) → FileFacts l n i → CountsProbes i → slice_get after.classes k ≡ Some n → clash_of records i ≡ None
      by (refused_class why) f counted at = refl
      by unchanged_class f counted at = refl
      by (changed_class a) f counted at = record_fits k l n a at f counts.0.0 counted
