-- The parts in front of the writes, one behind the other.
use Rattle.std.proofs.Common.{◌≡◌, ℕ, List, [], ◌∷◌, Option, None, Result, Ok, Err, map, ap, sym, ◌∙◌, subst}
use Rattle.std.specs.List.{AllByRecursion}
use Rattle.jc_bytes.specs.ByteLists.{AreBytes}
use Rattle.jc_run_plans.specs.Plans.{IsPlanText}
use Rattle.jc_programs.specs.declared.program.Program.{Program}
use Rattle.jc_programs.specs.declared.run_plan.RunPlan.{RunPlan}
use Rattle.jc_command_run.specs.RunAnswers.{IsPlanEnd, IsRunProgram}
use Rattle.jc_command_work.specs.Step.{Word, FilesTargeted, Outside, Counts, Landed, IsFile}
use Rattle.jc_command_work.specs.Part.{End, gives, Command, deciding, reading_all, ◌>>=◌}
use Rattle.jc_command_work.specs.Ending.{CameTo, Stops, Ran}
use Rattle.jc_command_work.specs.Seen.{stop_seen}
use Rattle.jc_command_work.specs.declared.stop.Stop.{Stop}
use Rattle.jc_command_work.specs.declared.stop.Stop.TheVariants as stops
use Rattle.jc_command_work.proofs.AnsweredLaws.{texts_read, all_files}
use Rattle.jc_headline.specs.CoverWork.{Cover, LookedFile, targets, HaveEntries, IsEntryEnd, IsLinkEnd, instrumenting, running, covering}
use Rattle.jc_headline.proofs.DistinctLaws.{looked_files}
use Rattle.jc_command_cover.specs.Accepted.{AreOfAll}
use Rattle.jc_command_cover.specs.Files.{Instrumented}
use Rattle.jc_command_cover.proofs.LookedLaws.{looked_texts}
use Rattle.jc_paths.specs.Paths.{in_folder}
use Rattle.jc_command_cover.specs.CoverSeen.{writing_results}
use Rattle.jc_command_cover.specs.Deciding.{StopsBy}
use Rattle.jc_command_cover.proofs.ChainLaws.{ran_then, ran_stopped, not_begun, came_decided}

-- ---- files that are read back

module _ (landed : Landed) (c : Cover) (plan : RunPlan) (looked : List LookedFile) (old : Outside) (f : Counts) where
  abbrev checking : Program → Command
  checking program = deciding (HaveEntries program plan) (IsEntryEnd c.plan program plan) >>= λ _. writing_results c plan looked program

  abbrev linking : (written : List (List ℕ)) → Command
  linking written = deciding (IsRunProgram written) (IsLinkEnd looked written) >>= checking

  pub none_read_back : (words : List Word) → words ≡ targets c.dest looked → (new : Outside) (f' : Counts) (o : Option End) → Stops landed (reading_all words) old new f f' o
      → Stops landed (running c plan looked) old new f f' o
  none_read_back words are new f' o stopped =
      ran_stopped landed (reading_all (targets c.dest looked)) linking old f new f' o (subst (λ (ws : List Word). Stops landed (reading_all ws) old new f f' o) are stopped)

  module _ (words : List Word) (are : words ≡ targets c.dest looked) (written : List (List ℕ)) (mid : Outside) (g : Counts)
      (read : (g ≡ f) × CameTo landed (reading_all words) old mid (gives written)) where
    rest : (new : Outside) (f' : Counts) (r : Result (Unit {0}) Stop) → Ran landed (linking written) stop_seen mid new g f' r → Ran landed (running c plan looked) stop_seen old new f f' r
    rest new f' r ran =
        ran_then landed (reading_all (targets c.dest looked)) linking old f stop_seen written mid new g f' r
        (subst (λ (ws : List Word). (g ≡ f) × CameTo landed (reading_all ws) old mid (gives written)) are read) ran

    pub not_linked : (seen : List (List ℕ)) → seen ≡ written → (stop : Stop) → StopsBy (IsLinkEnd looked seen) (stop_seen stop) → Stops landed (running c plan looked) old mid f g (stop_seen stop)
    not_linked seen same stop found =
        let so = subst (λ (ts : List (List ℕ)). StopsBy (IsLinkEnd looked ts) (stop_seen stop)) same found in
        rest mid g (Err stop) (ran_stopped landed (deciding (IsRunProgram written) (IsLinkEnd looked written)) checking mid g mid g (stop_seen stop)
        (came_decided {A = Program} landed (IsRunProgram written) (IsLinkEnd looked written) mid g (λ p. p) stop_seen (Err stop) so))

    module _ (seen : List (List ℕ)) (same : seen ≡ written) (program : Program) (of_files : IsRunProgram seen program) where
      linked : IsRunProgram written program
      linked = subst (λ (ts : List (List ℕ)). IsRunProgram ts program) same of_files

      behind : (new : Outside) (f' : Counts) (r : Result (Unit {0}) Stop) → Ran landed (checking program) stop_seen mid new g f' r → Ran landed (running c plan looked) stop_seen old new f f' r
      behind new f' r ran =
          rest new f' r (ran_then landed (deciding (IsRunProgram written) (IsLinkEnd looked written)) checking mid g stop_seen program mid new g f' r
          (came_decided {E = Stop} landed (IsRunProgram written) (IsLinkEnd looked written) mid g (λ p. p) stop_seen (Ok program) linked) ran)

      pub no_entries : (stop : Stop) → StopsBy (IsEntryEnd c.plan program plan) (stop_seen stop) → Stops landed (running c plan looked) old mid f g (stop_seen stop)
      no_entries stop so =
          behind mid g (Err stop) (ran_stopped landed (deciding (HaveEntries program plan) (IsEntryEnd c.plan program plan)) (λ _. writing_results c plan looked program) mid g mid g (stop_seen stop)
          (came_decided {A = Unit {0}} landed (HaveEntries program plan) (IsEntryEnd c.plan program plan) mid g (λ u. u) stop_seen (Err stop) so))

      -- the rest is what is written of the run
      pub has_run : HaveEntries program plan tt → (new : Outside) (f' : Counts) (r : Result (Unit {0}) Stop) → Ran landed (writing_results c plan looked program) stop_seen mid new g f' r
          → Ran landed (running c plan looked) stop_seen old new f f' r
      has_run entries new f' r ran =
          behind new f' r (ran_then landed (deciding (HaveEntries program plan) (IsEntryEnd c.plan program plan)) (λ _. writing_results c plan looked program) mid g stop_seen tt mid new g f' r
          (came_decided {E = Stop} landed (HaveEntries program plan) (IsEntryEnd c.plan program plan) mid g (λ u. u) stop_seen (Ok tt) entries) ran)

      -- memory was refused before anything was written
      pub not_run : HaveEntries program plan tt → Stops landed (running c plan looked) old mid f g None
      not_run entries = has_run entries mid g (Err stops.Memory) (not_begun landed (writing_results c plan looked program) mid g)

-- what was read of files is bytes
pub bytes_read : (landed : Landed) (paths : List Word) (texts : List (List ℕ)) (old new : Outside) → CameTo landed (reading_all paths) old new (gives texts) → AllByRecursion AreBytes texts
bytes_read landed paths texts old new came = by texts (all_files paths texts (texts_read landed old paths came.steps texts came.comes came.fit))
  where
    by : (ts : List (List ℕ)) → AllByRecursion IsFile ts → AllByRecursion AreBytes ts
    by [] all = tt
    by (t ∷ ts) all = (all.0.are_bytes, by ts all.1)

-- ---- the whole

module _ (landed : Landed) (c : Cover) (plan_text : List ℕ) (paths : List Word) (old : Outside) (f : Counts) where
  abbrev instrumented : (read : List (List ℕ)) → RunPlan → Command
  instrumented read plan = instrumenting c.dest paths read >>= λ looked. running c plan looked

  abbrev planned : (read : List (List ℕ)) → Command
  planned read = deciding (IsPlanText plan_text) (IsPlanEnd c.plan plan_text) >>= instrumented read

  pub none_read : (words : List Word) → words ≡ paths → (new : Outside) (f' : Counts) (o : Option End) → Stops landed (reading_all words) old new f f' o
      → Stops landed (covering c plan_text paths) old new f f' o
  none_read words are new f' o stopped =
      ran_stopped landed (reading_all paths) planned old f new f' o (subst (λ (ws : List Word). Stops landed (reading_all ws) old new f f' o) are stopped)

  module _ (words : List Word) (are : words ≡ paths) (read : List (List ℕ)) (mid : Outside) (g : Counts) (came : (g ≡ f) × CameTo landed (reading_all words) old mid (gives read)) where
    was_read : (g ≡ f) × CameTo landed (reading_all paths) old mid (gives read)
    was_read = subst (λ (ws : List Word). (g ≡ f) × CameTo landed (reading_all ws) old mid (gives read)) are came

    then : (new : Outside) (f' : Counts) (r : Result (Unit {0}) Stop) → Ran landed (planned read) stop_seen mid new g f' r → Ran landed (covering c plan_text paths) stop_seen old new f f' r
    then new f' r ran = ran_then landed (reading_all paths) planned old f stop_seen read mid new g f' r was_read ran

    pub not_planned : (stop : Stop) → StopsBy (IsPlanEnd c.plan plan_text) (stop_seen stop) → Stops landed (covering c plan_text paths) old mid f g (stop_seen stop)
    not_planned stop so =
        then mid g (Err stop) (ran_stopped landed (deciding (IsPlanText plan_text) (IsPlanEnd c.plan plan_text)) (instrumented read) mid g mid g (stop_seen stop)
        (came_decided {A = RunPlan} landed (IsPlanText plan_text) (IsPlanEnd c.plan plan_text) mid g (λ p. p) stop_seen (Err stop) so))

    module _ (plan : RunPlan) (is_plan : IsPlanText plan_text plan) where
      next : (new : Outside) (f' : Counts) (r : Result (Unit {0}) Stop) → Ran landed (instrumented read plan) stop_seen mid new g f' r
          → Ran landed (covering c plan_text paths) stop_seen old new f f' r
      next new f' r ran =
          then new f' r (ran_then landed (deciding (IsPlanText plan_text) (IsPlanEnd c.plan plan_text)) (instrumented read) mid g stop_seen plan mid new g f' r
          (came_decided {E = Stop} landed (IsPlanText plan_text) (IsPlanEnd c.plan plan_text) mid g (λ p. p) stop_seen (Ok plan) is_plan) ran)

      pub not_instrumented : (seen : List (List ℕ)) → seen ≡ read → (new : Outside) (f' : Counts) (stop : Stop) → Stops landed (instrumenting c.dest paths seen) mid new g f' (stop_seen stop)
          → Stops landed (covering c plan_text paths) old new f f' (stop_seen stop)
      not_instrumented seen same new f' stop stopped =
          next new f' (Err stop) (ran_stopped landed (instrumenting c.dest paths read) (λ looked. running c plan looked) mid g new f' (stop_seen stop)
          (subst (λ (ts : List (List ℕ)). Stops landed (instrumenting c.dest paths ts) mid new g f' (stop_seen stop)) same stopped))

      module _ (seen : List (List ℕ)) (same : seen ≡ read) (stands : Outside) (h : Counts) (places : List ℕ) (made : Instrumented landed c.dest paths seen mid stands g h places) where
        over : (h ≡ g) × CameTo landed (instrumenting c.dest paths read) mid stands (gives made.looked)
        over = (made.same, subst (λ (ts : List (List ℕ)). CameTo landed (instrumenting c.dest paths ts) mid stands (gives made.looked)) same made.came)

        -- the rest is the run of what was written
        pub has_covered : (new : Outside) (f' : Counts) (r : Result (Unit {0}) Stop) → Ran landed (running c plan made.looked) stop_seen stands new h f' r
            → Ran landed (covering c plan_text paths) stop_seen old new f f' r
        has_covered new f' r ran =
            next new f' r (ran_then landed (instrumenting c.dest paths read) (λ l. running c plan l) mid g stop_seen made.looked stands new h f' r over ran)

        -- memory was refused before anything was read back
        pub none_covered : Stops landed (covering c plan_text paths) old stands f h None
        none_covered = has_covered stands h (Err stops.Memory) (not_begun landed (running c plan made.looked) stands h)

-- ---- the files that were instrumented

-- all were looked at
pub instrumented_all : (landed : Landed) (dest : Word) (files : FilesTargeted) (old new : Outside) (f f' : Counts) (places : List ℕ)
    → files.targets ≡ map (in_folder dest) files.inputs.paths → (made : Instrumented landed dest files.inputs.paths files.inputs.texts old new f f' places)
    → AreOfAll dest made.looked files places
instrumented_all landed dest files old new f f' places in_dest made =
    let named = sym (looked_files files.inputs.paths files.inputs.texts made.looked made.looked_at) in
    record {
      paths_are = named;
      targets_are = in_dest ∙ ap (map (in_folder dest)) named;
      texts_are = sym (looked_texts files.inputs.paths files.inputs.texts made.looked made.looked_at);
      places_are = made.accepted;
    }
