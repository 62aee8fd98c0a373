-- The counters of a class by execution data are one thing.
use Rattle.std.proofs.Common.{◌≡◌, ◌⊎◌, inl, inr, ℕ, List, Option, None, Some, refl, sym, ◌∙◌, ap}
use Rattle.std.proofs.lemmas.Option.{none-some, same_Some}
use Rattle.jc_bytes.specs.declared.refusal.Refusal.{Refusal}
use Rattle.jc_methods.specs.declared.analysed.Analysed.{Analysed}
use Rattle.jc_cover.specs.Counters.{counters_of}
use Rattle.jc_cover.specs.Covered.{hits_or_none, TellsCovered}
use Rattle.jc_cover.specs.Marking.{coverage_of}
use Rattle.jc_cover.specs.declared.coverage.Counters.{Counters}
use Rattle.jc_cover.specs.declared.coverage.Coverage.{Coverage}
use Rattle.jc_cover.proofs.CoverageLaws.{tells}
use Rattle.jc_cover.proofs.OneCoverageLaws.{one_coverage}
use Rattle.jc_exec.specs.Store.{Store}
use Rattle.jc_exec.specs.declared.refusal.ExecRefusal.{ExecRefusal}
use Rattle.jc_report.specs.declared.row.Counted.{Counted}
use Rattle.jc_instrument.specs.Analysis.{IsAnalysis}
use Rattle.jc_instrument.specs.Reasons.{AnalysisReason}
use Rattle.jc_instrument.specs.InstrumentedFile.{IsInstrumentedFile}
use Rattle.jc_instrument.specs.SameAnalysis.{IsSameAnalysis}
use Rattle.jc_instrument.specs.declared.whole.Instrumented.{Instrumented}
use Rattle.jc_instrument.proofs.EachAnalysisLaws.{each_analysis}
use Rattle.jc_instrument.proofs.SameAnalysisLaws.{same_analysis}
use Rattle.jc_instrument.proofs.OneTwinLaws.{file_or_reason}
use Rattle.jc_instrument.proofs.RefusedLaws.{refused_too}
use Rattle.jc_command_classes.specs.Report.{frameless, record_of, hits_of, clash_with}
use Rattle.jc_command_classes.specs.ReportSteps.{counted_of}
use Rattle.jc_command_classes.proofs.FramelessLaws.{same_counted}
use Rattle.jc_command_work.specs.Part.{End}
use Rattle.jc_command_work.specs.Step.{IsFile}
use Rattle.jc_command_work.specs.declared.status.Fault.TheVariants as fault
use Rattle.jc_command_work.specs.Answered.{refusal_of}
use Rattle.jc_command_sample.specs.SampleWork.{sample_path, AreCounters, IsClashEnd}

-- analyses of one file are the same without the frames of their bodies
one_frameless : (bytes : List ℕ) (a b : Analysed) → IsAnalysis bytes a → IsAnalysis bytes b → frameless a ≡ frameless b
one_frameless bytes a b p q = by (same_analysis bytes a b p q)
  where
    by : IsSameAnalysis a b → frameless a ≡ frameless b
    by same = λ i. record (same.rest i) { bodies = same.bodies i }

module _ (store : Store) where
  -- the counters by the hits of the record of the class
  counters_by : Analysed → Counters
  counters_by a = (counted_of (hits_of store.classes a) a).counters

  clash_in : Analysed → Option ExecRefusal
  clash_in a = clash_with a (record_of store.classes a.id)

  counted_so : (a : Analysed) (coverage : Coverage) → TellsCovered a.bodies (hits_or_none (hits_of store.classes a)) coverage → counters_of a.bodies coverage ≡ counters_by a
  unfolding counters_by
  counted_so a coverage told =
      let hits = hits_or_none (hits_of store.classes a) in
      ap (counters_of a.bodies) (one_coverage a.bodies hits coverage (coverage_of a.bodies hits) told (tells a.bodies hits))

  same_by : (a : Analysed) → counters_by (frameless a) ≡ counters_by a
  unfolding counters_by
  same_by a = ap (λ (c : Counted). c.counters) (same_counted (hits_of store.classes a) a)

  -- one file has one of each
  both_by : (bytes : List ℕ) (a b : Analysed) → IsAnalysis bytes a → IsAnalysis bytes b → counters_by a ≡ counters_by b
  both_by bytes a b p q = sym (same_by a) ∙ ap counters_by (one_frameless bytes a b p q) ∙ same_by b

  both_clash : (bytes : List ℕ) (a b : Analysed) → IsAnalysis bytes a → IsAnalysis bytes b → clash_in a ≡ clash_in b
  unfolding clash_in
  both_clash bytes a b p q = ap clash_in (one_frameless bytes a b p q)

  module _ (bytes : List ℕ) where
    pub one_counters : (c d : Counters) → AreCounters bytes store c → AreCounters bytes store d → c ≡ d
    one_counters c d p q =
        p.counted ∙ counted_so p.class p.coverage p.tells ∙ both_by bytes p.class q.class p.analysed q.analysed
        ∙ sym (counted_so q.class q.coverage q.tells) ∙ sym q.counted

    pub one_clash : (e f : End) → IsClashEnd bytes store e → IsClashEnd bytes store f → e ≡ f
    unfolding clash_in
    one_clash e f (a, why, is, clash, end) (b, why', is', clash', end') =
        end ∙ ap (λ (r : ExecRefusal). refusal_of sample_path (fault.Exec 0 r)) (same_Some why why' (sym clash ∙ both_clash bytes a b is is' ∙ clash')) ∙ sym end'

    pub counters_or_clash : (c : Counters) (e : End) → AreCounters bytes store c → IsClashEnd bytes store e → ⊥
    unfolding clash_in
    counters_or_clash c e p (b, why, is, clash, end) = none-some why (sym p.fits ∙ both_clash bytes p.class b p.analysed is ∙ clash)

    -- an instrumented class is analysed, and has counters or clashes
    pub some_counters : IsFile bytes → (a : Instrumented) → IsInstrumentedFile bytes a → ((c : Counters) × AreCounters bytes store c) ⊎ ((e : End) × IsClashEnd bytes store e)
    some_counters file a is = of (each_analysis bytes file.are_bytes file.short)
      where
        of : ((x : Analysed) × IsAnalysis bytes x) ⊎ ((r : Refusal) × AnalysisReason bytes (Some r)) → ((c : Counters) × AreCounters bytes store c) ⊎ ((e : End) × IsClashEnd bytes store e)
        of (inl (x, analysed)) = by (clash_with x (record_of store.classes x.id)) refl
          where
            by : (o : Option ExecRefusal) → clash_with x (record_of store.classes x.id) ≡ o → ((c : Counters) × AreCounters bytes store c) ⊎ ((e : End) × IsClashEnd bytes store e)
            by None fits =
                let hits = hits_or_none (hits_of store.classes x) in
                inl (
                  counters_of x.bodies (coverage_of x.bodies hits),
                  record { class = x; analysed = analysed; fits = fits; coverage = coverage_of x.bodies hits; tells = tells x.bodies hits; counted = refl },
                )
            by (Some why) clash = inr (refusal_of sample_path (fault.Exec 0 why), (x, why, analysed, clash, refl))
        of (inr (r, reason)) = absurd (file_or_reason bytes a r is (refused_too bytes r reason))
