-- A run of `cover` that is done is of one that fits.
use Rattle.std.proofs.Common.{◌≡◌, ℕ, List, [], ◌∷◌, map, Option, Some, sym, ◌∙◌, ap, subst}
use Rattle.std.specs.List.{AllByRecursion}
use Rattle.jc_bytes.specs.ByteLists.{AreBytes}
use Rattle.jc_outside.specs.Outside.{FileMap}
use Rattle.jc_paths.specs.Paths.{in_folder}
use Rattle.jc_programs.specs.declared.program.Program.{Program}
use Rattle.jc_programs.specs.declared.run_plan.RunPlan.{RunPlan}
use Rattle.jc_twin_programs.specs.TwinProgram.{TwinProgram}
use Rattle.jc_run_plans.specs.Plans.{IsPlanText}
use Rattle.jc_link_programs.specs.Linking.{IsProgramOf}
use Rattle.jc_link_laws.specs.TwinFiles.{AreWrittenOf, IsShortFile}
use Rattle.jc_link_laws.proofs.TwinLinkLaws.{twin_program}
use Rattle.jc_command_work.specs.Step.{Word, Outside, Landed, Step, Fit, IsRead}
use Rattle.jc_command_work.specs.Part.{done, stops, deciding, reading, reading_all, ◌>>=◌}
use Rattle.jc_command_work.specs.Ending.{CameTo}
use Rattle.jc_command_work.specs.Folders.{files_of}
use Rattle.jc_command_work.specs.Prefix.{after_writes}
use Rattle.jc_command_work.proofs.Prefix.{done_means}
use Rattle.jc_command_run.specs.RunAnswers.{IsPlanEnd, IsRunProgram}
use Rattle.jc_command_run.specs.RunStore.{threads_of, first_without}
use Rattle.jc_command_run.proofs.StoreLaws.{same_without}
use Rattle.jc_headline.specs.CoverWork.{Cover, LookedFile, AreLooked, all_file_writes, accepted_texts, targets, IsLinkEnd, HaveEntries, IsEntryEnd, instrumenting, running, cover_work}
use Rattle.jc_headline.specs.CoverRun.{AreRead, AreDistinct}
use Rattle.jc_headline.specs.Headline.{as_written, all_written}
use Rattle.jc_headline.proofs.CoverRunLaws.{not_refused, no_link_end, report_part, entry_part, link_part, instrument_part, look_part}
use Rattle.jc_headline.proofs.DistinctLaws.{distinct_targets, looked_files}
use Rattle.jc_headline.proofs.OriginalLaws.{all_written_of, all_short, original_program}
use Rattle.jc_headline.proofs.PartLaws.{IsDoneIn, quiet_reading, quiet_deciding, quiet_reading_all, quiet_files, quiet_instrumenting, both, through, deciding_over, reading_over, reading_all_over, files_over, instrumenting_over}
use Rattle.jc_headline.proofs.RunMeaningLaws.{files_short}
use Rattle.jc_headline.proofs.WriteLaws.{all_targets, contents_after, map_after, stand, same_back}
use Rattle.jc_headline.specs.Named.{named_paths, AreNamed}
use Rattle.jc_headline.specs.FitCover.{IsFitCover, IsShort, DoneCoversFit}
use Rattle.jc_headline.proofs.AgainLaws.{same_first}
use Rattle.jc_headline.proofs.NamedLaws.{named_are}
use Rattle.jc_headline.proofs.NeedLaws.{not_again}
use Rattle.jc_headline.proofs.StoredLaws.{bytes_written}

-- ---- what was read is short

are_short : (ts : List (List ℕ)) → AllByRecursion IsShortFile ts → AllByRecursion IsShort ts
are_short [] short = tt
are_short (t ∷ ts) short = (short.0.1, are_short ts short.1)

module _ (c : Cover) (old : Outside) (m : FileMap) (told : old.contents ≡ Some m) where
  abbrev paths : List Word
  paths = named_paths m c.files

  module _ (distinct : AreDistinct paths) (plan_text : List ℕ) (plan_read : IsRead old.contents c.plan plan_text) (read : List (List ℕ))
      (files_read : AreRead old.contents paths read) (plan : RunPlan) (is_plan : IsPlanText plan_text plan) where
    module _ (looked : List LookedFile) (looked_at : AreLooked paths read looked) where
      -- where the files stand in the folder
      abbrev filled : Outside
      filled = after_writes as_written old (all_file_writes c.dest looked)

      -- what is read back of the accepted files
      abbrev AreBack : List (List ℕ) → Type 0
      AreBack read_back = AreRead filled.contents (targets c.dest looked) read_back

      abbrev texts : List (List ℕ)
      texts = accepted_texts looked

      module _ (read_back : List (List ℕ)) (are_back : AreBack read_back) (program : Program)
          (links : IsRunProgram read_back program) (entries : HaveEntries program plan tt) where
        apart : AreDistinct (all_targets c.dest looked)
        apart = subst (λ (l : List Word). AreDistinct (map (in_folder c.dest) l)) (sym (looked_files paths read looked looked_at)) (distinct_targets c.dest paths distinct)

        back : read_back ≡ all_written looked
        back =
            same_back c.dest (map_after m (all_file_writes c.dest looked)) looked (stand c.dest m looked apart) read_back
            (subst (λ (o : Option FileMap). AreRead o (targets c.dest looked) read_back) (contents_after old m (all_file_writes c.dest looked) told) are_back)

        short_now : AllByRecursion IsShortFile read
        short_now = files_short old.contents paths read files_read

        short : AllByRecursion IsShortFile texts
        short = all_short paths read looked looked_at short_now

        bytes : AllByRecursion AreBytes (all_written looked)
        bytes = bytes_written paths read looked looked_at short_now

        written_of : AreWrittenOf texts (all_written looked)
        written_of = all_written_of paths read looked looked_at short_now

        twin : Program
        twin = links.0

        instrumented : IsProgramOf (all_written looked) twin
        unfolding twin
        instrumented = subst (λ (l : List (List ℕ)). IsProgramOf l links.0) back links.1

        found : (p : Program) × IsProgramOf texts p
        found = original_program texts (all_written looked) twin short bytes written_of instrumented

        before : Program
        before = found.0

        originals : IsProgramOf texts before
        unfolding before
        originals = found.1

        twins : TwinProgram before twin
        twins = twin_program texts (all_written looked) before twin short bytes written_of originals instrumented

        entries_before : HaveEntries before plan tt
        unfolding twin
        entries_before =
            sym (same_first before twin twins (threads_of plan))
            ∙ (sym (same_without twin (threads_of plan)) ∙ ap (λ (p : Program). first_without p (threads_of plan)) (sym links.2) ∙ entries)

        fits_by : IsFitCover c old
        fits_by = record {
          contents = m;
          told = told;
          plan_text = plan_text;
          plan_read = plan_read;
          plan = plan;
          is_plan = is_plan;
          read = read;
          files_read = files_read;
          looked = looked;
          looked_at = looked_at;
          before = before;
          originals = originals;
          again = not_again texts (all_written looked) before twin short bytes originals instrumented;
          short = subst (λ (l : List (List ℕ)). AllByRecursion IsShort l) back (are_short read_back (files_short filled.contents (targets c.dest looked) read_back are_back));
          entries = entries_before;
        }

      entry_fits : (read_back : List (List ℕ)) → AreBack read_back → (program : Program) → IsRunProgram read_back program
          → (steps : List Step) → IsDoneIn as_written (entry_part c plan looked program) filled steps → IsFitCover c old
      entry_fits read_back back program links steps (is, fits) =
          let Is = HaveEntries program plan in
          let End = IsEntryEnd c.plan program plan in
          let rest = λ (u : Unit {0}). report_part c plan looked program in
          let quiet = quiet_deciding Is End (λ end. not_refused _ _ end.2) in
          let d = both as_written (deciding Is End) rest filled steps (stops done) (through (deciding Is End) rest steps quiet is) fits in
          fits_by read_back back program links (deciding_over as_written filled Is End d.value d.front d.first).0

      link_fits : (read_back : List (List ℕ)) → AreBack read_back → (steps : List Step)
          → IsDoneIn as_written (link_part c plan looked read_back) filled steps → IsFitCover c old
      link_fits read_back back steps (is, fits) =
          let part = deciding (IsRunProgram read_back) (IsLinkEnd looked read_back) in
          let rest = λ (program : Program). entry_part c plan looked program in
          let quiet = quiet_deciding (IsRunProgram read_back) (IsLinkEnd looked read_back) (no_link_end looked read_back) in
          let b = both as_written part rest filled steps (stops done) (through part rest steps quiet is) fits in
          let (links, left) = deciding_over as_written filled (IsRunProgram read_back) (IsLinkEnd looked read_back) b.value b.front b.first in
          entry_fits read_back back b.value links b.behind (b.next, subst (λ (v : Outside). Fit as_written v b.behind) left b.fits')

      run_fits : (steps : List Step) → IsDoneIn as_written (running c plan looked) filled steps → IsFitCover c old
      run_fits steps (is, fits) =
          let all = reading_all (targets c.dest looked) in
          let rest = λ (written : List (List ℕ)). link_part c plan looked written in
          let a = both as_written all rest filled steps (stops done) (through all rest steps (quiet_reading_all (targets c.dest looked)) is) fits in
          let (back, left) = reading_all_over as_written filled (targets c.dest looked) a.value a.front a.first a.fits in
          link_fits a.value back a.behind (a.next, subst (λ (v : Outside). Fit as_written v a.behind) left a.fits')

    instrument_fits : (steps : List Step) → IsDoneIn as_written (instrument_part c plan paths read) old steps → IsFitCover c old
    instrument_fits steps (is, fits) =
        let part = instrumenting c.dest paths read in
        let h = both as_written part (λ looked. running c plan looked) old steps (stops done)
        (through part (λ looked. running c plan looked) steps (quiet_instrumenting c.dest paths read) is) fits in
        let (looked_at, made) = instrumenting_over as_written old c.dest paths read h.value h.front h.first h.fits in
        run_fits h.value looked_at h.behind (h.next, subst (λ (v : Outside). Fit as_written v h.behind) made h.fits')

  module _ (plan_text : List ℕ) (plan_read : IsRead old.contents c.plan plan_text) where
    look_fits : AreDistinct paths → (read : List (List ℕ)) → AreRead old.contents paths read → (steps : List Step)
        → IsDoneIn as_written (look_part c plan_text paths read) old steps → IsFitCover c old
    look_fits distinct read files_read steps (is, fits) =
        let Is = IsPlanText plan_text in
        let End = IsPlanEnd c.plan plan_text in
        let rest = λ (plan : RunPlan). instrument_part c plan paths read in
        let e = both as_written (deciding Is End) rest old steps (stops done)
        (through (deciding Is End) rest steps (quiet_deciding Is End (λ end. not_refused _ _ end.2)) is) fits in
        let (is_plan, left) = deciding_over as_written old Is End e.value e.front e.first in
        instrument_fits distinct plan_text plan_read read files_read e.value is_plan e.behind (e.next, subst (λ (v : Outside). Fit as_written v e.behind) left e.fits')

    read_fits : AreDistinct paths → (steps : List Step) → IsDoneIn as_written (reading_all paths >>= (λ read. look_part c plan_text paths read)) old steps
        → IsFitCover c old
    read_fits distinct steps (is, fits) =
        let rest = λ (read : List (List ℕ)). look_part c plan_text paths read in
        let d = both as_written (reading_all paths) rest old steps (stops done) (through (reading_all paths) rest steps (quiet_reading_all paths) is) fits in
        let (files_read, left) = reading_all_over as_written old paths d.value d.front d.first d.fits in
        look_fits distinct d.value files_read d.behind (d.next, subst (λ (v : Outside). Fit as_written v d.behind) left d.fits')

    list_fits : (steps : List Step) → IsDoneIn as_written (files_of c.files >>= (λ ps. reading_all ps >>= (λ read. look_part c plan_text ps read))) old steps
        → IsFitCover c old
    list_fits steps (is, fits) =
        let rest = λ (ps : List Word). reading_all ps >>= (λ read. look_part c plan_text ps read) in
        let b = both as_written (files_of c.files) rest old steps (stops done) (through (files_of c.files) rest steps (quiet_files c.files) is) fits in
        let ((distinct, are), left) = files_over as_written old c.files b.value b.front b.first b.fits in
        let named = named_are m c.files b.value (subst (λ (o : Option FileMap). AreNamed o c.files b.value) told are) in
        read_fits (subst AreDistinct named distinct) b.behind
        (subst (λ (ps : List Word). rest ps b.behind (stops done)) named b.next, subst (λ (v : Outside). Fit as_written v b.behind) left b.fits')

  cover_fits : (new : Outside) → CameTo as_written (cover_work c) old new (stops done) → IsFitCover c old
  cover_fits new came =
      let rest = λ (plan_text : List ℕ). files_of c.files >>= (λ ps. reading_all ps >>= (λ read. look_part c plan_text ps read)) in
      let a = both as_written (reading c.plan) rest old came.steps (stops done) (through (reading c.plan) rest came.steps (quiet_reading c.plan) came.comes) came.fit in
      let (plan_read, left) = reading_over as_written old c.plan a.value a.front a.first a.fits in
      list_fits a.value plan_read a.behind (a.next, subst (λ (v : Outside). Fit as_written v a.behind) left a.fits')

done_fits : DoneCoversFit as_written
done_fits c old new f f' m told ends =
    cover_fits c old m told new (done_means as_written (cover_work c) old new f f' ends).1

pub each_done_fits : (landed : Landed) → ((path bytes : List ℕ) → landed path bytes ≡ bytes) → DoneCoversFit landed
each_done_fits landed same = let e : landed ≡ as_written = (λ i path bytes. same path bytes i) in subst DoneCoversFit (sym e) done_fits
