-- The work of words over told contents is one, and ends by itself in no failed write.
use Rattle.std.proofs.Common.{◌≡◌, ◌⊎◌, inl, inr, ℕ, List, [], ◌∷◌, ◌++◌, Option, None, Some, map, refl, sym, ◌∙◌, ap, subst}
use Rattle.std.proofs.lemmas.List.{length-map}
use Rattle.jc_paths.specs.Paths.{FileText, in_folder}
use Rattle.jc_command_words.specs.Commands.{Mode, Called, instrument, run, merge, report, exec_info, class_info, cover, cover_sample, refs, lines, check, Means, NoForm}
use Rattle.jc_command_words.proofs.CommandLaws.{one_command, some_or_none}
use Rattle.jc_command_work.specs.declared.status.Status.{Status}
use Rattle.jc_command_work.specs.declared.status.Status.TheVariants as status
use Rattle.jc_command_work.specs.Step.{Word, IsFile, Outside, Counts, Landed, Call, Step}
use Rattle.jc_command_work.specs.Part.{End, done, unmet, refused, misused, unread, unwritten, unprinted, status_of, Outcome, wants, gives, stops, Part, Command, deciding, reading, ◌>>=◌}
use Rattle.jc_command_work.specs.Ending.{Ends}
use Rattle.jc_command_work.specs.Folders.{files_of}
use Rattle.jc_command_work.specs.OneWay.{IsOver, HasOne, OneDecision, writes_of}
use Rattle.jc_command_work.specs.Answered.{Answer, HasOneAnswer, answered}
use Rattle.jc_command_work.specs.Causes.{IsOwnEnd, IsRefusal, EndsIn, HasOwnEnds}
use Rattle.jc_command_work.proofs.OneWork.{has_then, has_then_if, one_deciding, one_reading}
use Rattle.jc_command_work.proofs.AnsweredLaws.{file_read, has_answered, has_files}
use Rattle.jc_command_work.proofs.CauseLaws.{ends_then, ends_deciding, ends_reading, ends_answered, done_or_none}
use Rattle.jc_rules.specs.declared.rule.Rule.{Rule}
use Rattle.jc_command_rules.specs.LinesAnswers.{LinesAnswers}
use Rattle.jc_command_rules.specs.CheckAnswers.{Verdict, CheckAnswers}
use Rattle.jc_command_rules.proofs.AnswerLaws.{lines_has_one, lines_refuses, check_has_one, check_refuses}
use Rattle.jc_command_work.proofs.FileLaws.{ends_files, none_files}
use Rattle.jc_command_work.proofs.NoWrites.{WritesNone, none_deciding, none_reading}
use Rattle.jc_command_work.proofs.Prefix.{writes-append}
use Rattle.jc_command_exec.proofs.ExecAnswers.{merge_has_one, merge_refuses, info_has_one, info_refuses}
use Rattle.jc_command_exec.specs.Merge.{MergeAnswers}
use Rattle.jc_command_exec.specs.ExecInfo.{InfoAnswers}
use Rattle.jc_command_classes.specs.ClassInfo.{ListAnswers}
use Rattle.jc_command_classes.specs.Instrument.{InstrumentAnswers}
use Rattle.jc_command_classes.specs.Report.{ReportAnswers}
use Rattle.jc_command_classes.proofs.ClassAnswers.{list_has_one, list_refuses, report_has_one, report_refuses, instrument_has_one, instrument_refuses}
use Rattle.jc_command_refs.specs.RefsAnswers.{RefsFiles}
use Rattle.jc_headline.proofs.OneCoverLaws.{PlansAreOne, has_cover}
use Rattle.jc_headline.proofs.OwnEndLaws.{cover_ends}
use Rattle.jc_top.specs.Work.{on_files, reporting, lining, checking, judging_files, judged, DumpsAnswers, run_answers, work_with, IsUsage, the_work_with}
use Rattle.jc_top.specs.FirstWrite.{DecidesFirst, DecideFirst, HasWrittenAll}
use Rattle.jc_command_sample.proofs.OneSampleLaws.{has_sample}
use Rattle.jc_top.specs.Bounds.{IsBounded}
use Rattle.jc_top.proofs.BoundLaws.{means_bounded}
use Rattle.jc_top.proofs.SampleLaws.{ends_sample, last_sample, sample_or_nothing}
use Rattle.jc_top.proofs.RunLaws.{DumpsRefuse, RunsAnswerOnce, run_refuses}
use Rattle.jc_top.proofs.RefsLaws.{RefsAnswerOnce, refs_refuses}
use Rattle.jc_top.proofs.CheckLaws.{has_judged, ends_judged, judged_or_none}
use Rattle.jc_top.proofs.FirstWriteLaws.{WritesLast, last_answered, last_judged, last_then, reads_files, reads_reading, reads_deciding}

-- ---- answers

abbrev instrument_answers : Word → List Word → List (List ℕ) → Answer → Type 0
instrument_answers dest paths = InstrumentAnswers (map (in_folder dest) paths) paths

abbrev report_answers : (csv name : Word) → Option Word → List (List ℕ) → List Word → List (List ℕ) → Answer → Type 0
report_answers csv name exec texts paths read = ReportAnswers csv name exec paths (texts ++ read)

abbrev lines_answers : Option Word → List (List ℕ) → List Word → List (List ℕ) → Answer → Type 0
lines_answers exec texts paths read = LinesAnswers exec paths (texts ++ read)

abbrev check_answers : List Rule → Option Word → List (List ℕ) → List Word → List (List ℕ) → Outcome Verdict → Type 0
check_answers rules exec texts paths read = CheckAnswers rules exec paths (texts ++ read)

abbrev running : DumpsAnswers → (plan destfile : Word) → Mode → List FileText → List ℕ → Command
running Dumps plan destfile mode files text = on_files files (run_answers Dumps plan destfile mode text)

-- ---- one work

-- the words call one command, or they are of no stated form
one_meaning : (words : List Word) → OneDecision (Means words) (IsUsage words)
one_meaning words = by (some_or_none words)
  where
    by : ((command : Called) × Means words command) ⊎ NoForm words → OneDecision (Means words) (IsUsage words)
    by (inl (command, means)) = record { decision = gives command; over = tt; holds = means; only = only }
      where
        only : (o : Outcome Called) → IsOver o → deciding (Means words) (IsUsage words) [] o → o ≡ gives command
        only (wants call) over is = absurd over
        only (gives other) over is = ap (λ (c : Called). gives c) (one_command words other command is means)
        only (stops end) over is = absurd (is.0 command means)
    by (inr none) = record { decision = stops misused; over = tt; holds = (none, refl); only = only }
      where
        only : (o : Outcome Called) → IsOver o → deciding (Means words) (IsUsage words) [] o → o ≡ stops misused
        only (wants call) over is = absurd over
        only (gives other) over is = absurd (none other is)
        only (stops end) over is = ap (λ (e : End). stops e) is.1

pub meant : (words : List Word) (command : Called) (front : List Step) → deciding (Means words) (IsUsage words) front (gives command) → Means words command
meant words command [] means = means
meant words command (step ∷ front) means = absurd means

module _ (landed : Landed) where
  has_on_files : (files : List FileText) (Answers : List Word → List (List ℕ) → Answer → Type 0) → ((paths : List Word) → HasOneAnswer paths (Answers paths)) → HasOne landed (on_files files Answers)
  has_on_files files Answers one =
      has_then landed (files_of files) (λ paths. answered paths (Answers paths)) (has_files landed files) (λ paths. has_answered landed paths (Answers paths) (one paths))

  has_judging : (files : List FileText) (Answers : List Word → List (List ℕ) → Outcome Verdict → Type 0) → ((paths : List Word) → HasOneAnswer paths (Answers paths))
      → HasOne landed (judging_files files Answers)
  has_judging files Answers one =
      has_then landed (files_of files) (λ paths. judged paths (Answers paths)) (has_files landed files) (λ paths. has_judged paths (Answers paths) landed (one paths))

  -- behind a file that was read
  has_behind : (path : Word) (q : List ℕ → Command) → ((text : List ℕ) → IsFile text → HasOne landed (q text)) → HasOne landed (reading path >>= q)
  has_behind path q one =
      has_then_if landed (reading path) q (λ w told. one_reading landed w path told) (λ w steps text read fits. one text (file_read landed w path text steps read fits))

  module _ (Dumps : DumpsAnswers) (runs : RunsAnswerOnce Dumps) (refs_once : RefsAnswerOnce) (plans : PlansAreOne) where
    has_work : (command : Called) → IsBounded command → HasOne landed (work_with Dumps command)
    has_work (instrument dest files) bounded =
        has_on_files files (instrument_answers dest) (λ paths. instrument_has_one (map (in_folder dest) paths) paths (length-map paths (in_folder dest)))
    has_work (run plan destfile mode files) bounded = has_behind plan (running Dumps plan destfile mode files)
        (λ text file. has_on_files files (run_answers Dumps plan destfile mode text) (runs plan destfile mode text))
    has_work (merge destfile inputs) bounded = has_answered landed inputs (MergeAnswers destfile inputs) (merge_has_one destfile inputs)
    has_work (report csv name None files) bounded = has_on_files files (report_answers csv name None []) (λ paths. report_has_one csv name None paths)
    has_work (report csv name (Some exec) files) bounded =
        has_behind exec (λ text. reporting csv name (Some exec) (text ∷ []) files)
        (λ text file. has_on_files files (report_answers csv name (Some exec) (text ∷ []))
        (λ paths read are. report_has_one csv name (Some exec) paths (text ∷ read) (file, are)))
    has_work (exec_info inputs) bounded = has_answered landed inputs (InfoAnswers inputs) (info_has_one inputs)
    has_work (class_info files) bounded = has_on_files files ListAnswers list_has_one
    has_work (cover dest plan destfile csv workers name files) bounded =
        has_cover plans landed (record { dest = dest; plan = plan; exec = destfile; csv = csv; name = name; files = files })
    has_work (cover_sample methods) bounded = has_sample landed methods bounded.1
    has_work (refs files) bounded = has_on_files files RefsFiles refs_once
    has_work (lines None files) bounded = has_on_files files (lines_answers None []) (λ paths. lines_has_one None paths)
    has_work (lines (Some exec) files) bounded =
        has_behind exec (λ text. lining (Some exec) (text ∷ []) files)
        (λ text file. has_on_files files (lines_answers (Some exec) (text ∷ [])) (λ paths read are. lines_has_one (Some exec) paths (text ∷ read) (file, are)))
    has_work (check rules None files) bounded = has_judging files (check_answers rules None []) (λ paths. check_has_one rules None paths)
    has_work (check rules (Some exec) files) bounded =
        has_behind exec (λ text. checking rules (Some exec) (text ∷ []) files)
        (λ text file. has_judging files (check_answers rules (Some exec) (text ∷ [])) (λ paths read are. check_has_one rules (Some exec) paths (text ∷ read) (file, are)))

    pub has_the_work : (words : List Word) → HasOne landed (the_work_with Dumps words)
    has_the_work words =
        has_then_if landed (deciding (Means words) (IsUsage words)) (work_with Dumps)
        (λ w told. one_deciding landed w (Means words) (IsUsage words) (one_meaning words))
        (λ w steps command over fits. has_work command (means_bounded words command (meant words command steps over)))

-- ---- ends

-- an end of a command
abbrev IsCommandEnd : End → Type 0
IsCommandEnd done = Unit {0}
IsCommandEnd unmet = Unit {0}
IsCommandEnd (refused fault line) = Unit {0}
IsCommandEnd misused = ⊥
IsCommandEnd (unread path) = Unit {0}
IsCommandEnd (unwritten path) = ⊥
IsCommandEnd unprinted = ⊥

of_refusal : (end : End) → IsRefusal end → IsCommandEnd end
of_refusal done is = absurd is
of_refusal unmet is = absurd is
of_refusal (refused fault line) is = tt
of_refusal misused is = absurd is
of_refusal (unread path) is = absurd is
of_refusal (unwritten path) is = absurd is
of_refusal unprinted is = absurd is

command_own : (end : End) → IsCommandEnd end → IsOwnEnd end
command_own done is = tt
command_own unmet is = tt
command_own (refused fault line) is = tt
command_own misused is = absurd is
command_own (unread path) is = tt
command_own (unwritten path) is = absurd is
command_own unprinted is = absurd is

-- where the answer ends the command, it refuses an input
abbrev RefusesInputs : {X : Type 0} → (List Word → List (List ℕ) → Outcome X → Type 0) → Type 0
RefusesInputs Answers = (paths : List Word) (texts : List (List ℕ)) (end : End) → Answers paths texts (stops end) → IsRefusal end

ends_on_files : (files : List FileText) (Answers : List Word → List (List ℕ) → Answer → Type 0) → RefusesInputs Answers
    → EndsIn IsCommandEnd (on_files files Answers)
ends_on_files files Answers refuses =
    ends_then IsCommandEnd (files_of files) (λ paths. answered paths (Answers paths)) (ends_files IsCommandEnd files)
    (λ paths. ends_answered IsCommandEnd paths (Answers paths) tt (λ path. tt) (λ texts end is. of_refusal end (refuses paths texts end is)))

ends_judging : (files : List FileText) (Answers : List Word → List (List ℕ) → Outcome Verdict → Type 0) → RefusesInputs Answers
    → EndsIn IsCommandEnd (judging_files files Answers)
ends_judging files Answers refuses =
    ends_then IsCommandEnd (files_of files) (λ paths. judged paths (Answers paths)) (ends_files IsCommandEnd files)
    (λ paths. ends_judged paths (Answers paths) IsCommandEnd tt tt (λ path. tt) (λ texts end is. of_refusal end (refuses paths texts end is)))

ends_behind : (path : Word) (q : List ℕ → Command) → ((text : List ℕ) → EndsIn IsCommandEnd (q text)) → EndsIn IsCommandEnd (reading path >>= q)
ends_behind path q own = ends_then IsCommandEnd (reading path) q (ends_reading IsCommandEnd (λ path. tt) path) own

work_ends : (Dumps : DumpsAnswers) → DumpsRefuse Dumps → (command : Called) → EndsIn IsCommandEnd (work_with Dumps command)
work_ends Dumps refuses (instrument dest files) = ends_on_files files (instrument_answers dest) (λ paths. instrument_refuses (map (in_folder dest) paths) paths)
work_ends Dumps refuses (run plan destfile mode files) =
    ends_behind plan (running Dumps plan destfile mode files)
    (λ text. ends_on_files files (run_answers Dumps plan destfile mode text) (run_refuses Dumps refuses plan destfile mode text))
work_ends Dumps refuses (merge destfile inputs) =
    ends_answered IsCommandEnd inputs (MergeAnswers destfile inputs) tt (λ path. tt)
    (λ texts end is. of_refusal end (merge_refuses destfile inputs texts end is))
work_ends Dumps refuses (report csv name None files) = ends_on_files files (report_answers csv name None []) (report_refuses csv name None)
work_ends Dumps refuses (report csv name (Some exec) files) =
    ends_behind exec (λ text. reporting csv name (Some exec) (text ∷ []) files)
    (λ text. ends_on_files files (report_answers csv name (Some exec) (text ∷ [])) (λ paths read. report_refuses csv name (Some exec) paths (text ∷ read)))
work_ends Dumps refuses (exec_info inputs) =
    ends_answered IsCommandEnd inputs (InfoAnswers inputs) tt (λ path. tt) (λ texts end is. of_refusal end (info_refuses inputs texts end is))
work_ends Dumps refuses (class_info files) = ends_on_files files ListAnswers list_refuses
work_ends Dumps refuses (cover dest plan destfile csv workers name files) =
    cover_ends IsCommandEnd tt (λ fault line. tt) (λ path. tt) (record { dest = dest; plan = plan; exec = destfile; csv = csv; name = name; files = files })
work_ends Dumps refuses (cover_sample methods) = ends_sample IsCommandEnd tt (λ fault line. tt) methods
work_ends Dumps refuses (refs files) = ends_on_files files RefsFiles refs_refuses
work_ends Dumps refuses (lines None files) = ends_on_files files (lines_answers None []) (lines_refuses None)
work_ends Dumps refuses (lines (Some exec) files) =
    ends_behind exec (λ text. lining (Some exec) (text ∷ []) files)
    (λ text. ends_on_files files (lines_answers (Some exec) (text ∷ [])) (λ paths read. lines_refuses (Some exec) paths (text ∷ read)))
work_ends Dumps refuses (check rules None files) = ends_judging files (check_answers rules None []) (check_refuses rules None)
work_ends Dumps refuses (check rules (Some exec) files) =
    ends_behind exec (λ text. checking rules (Some exec) (text ∷ []) files)
    (λ text. ends_judging files (check_answers rules (Some exec) (text ∷ [])) (λ paths read. check_refuses rules (Some exec) paths (text ∷ read)))

usage_own : (words : List Word) (end : End) → IsUsage words end → IsOwnEnd end
usage_own words end is = subst IsOwnEnd (sym is.1) tt

pub own_ends : (Dumps : DumpsAnswers) → DumpsRefuse Dumps → (words : List Word) → HasOwnEnds (the_work_with Dumps words)
own_ends Dumps refuses words =
    ends_then IsOwnEnd (deciding (Means words) (IsUsage words)) (work_with Dumps) (ends_deciding IsOwnEnd (Means words) (IsUsage words) (usage_own words))
    (λ command steps end is. command_own end (work_ends Dumps refuses command steps end is))

-- ---- commands that decide first

-- the command has written all at its end, or nothing
abbrev AllOrNothing : Command → Type 0
AllOrNothing command = (steps : List Step) (end : End) → command steps (stops end) → HasWrittenAll end ⊎ (writes_of steps ≡ [])

all_of : {end : End} {Nothing : Type 0} → (end ≡ done) ⊎ Nothing → HasWrittenAll end ⊎ Nothing
all_of (inl finished) = inl (inl finished)
all_of (inr nothing) = inr nothing

nothing_before : {X : Type 0} (p : Part X) (q : X → Command) → WritesNone p → ((x : X) (front : List Step) → p front (gives x) → AllOrNothing (q x))
    → AllOrNothing (p >>= q)
nothing_before p q none or steps end (inl within) = inr (none steps (stops end) within)
nothing_before p q none or steps end (inr h) = by (or h.value h.front h.over h.behind end h.goes_on)
  where
    by : HasWrittenAll end ⊎ (writes_of h.behind ≡ []) → HasWrittenAll end ⊎ (writes_of steps ≡ [])
    by (inl finished) = inl finished
    by (inr nothing) =
        inr (ap writes_of h.parts ∙ writes-append h.front h.behind ∙ ap (λ ws. ws ++ writes_of h.behind) (none h.front (gives h.value) h.over) ∙ nothing)

nothing_on_files : (files : List FileText) (Answers : List Word → List (List ℕ) → Answer → Type 0) → AllOrNothing (on_files files Answers)
nothing_on_files files Answers =
    nothing_before (files_of files) (λ paths. answered paths (Answers paths)) (none_files files)
    (λ paths front over steps end is. all_of (done_or_none paths (Answers paths) steps end is))

nothing_judging : (files : List FileText) (Answers : List Word → List (List ℕ) → Outcome Verdict → Type 0) → AllOrNothing (judging_files files Answers)
nothing_judging files Answers =
    nothing_before (files_of files) (λ paths. judged paths (Answers paths)) (none_files files) (λ paths front over. judged_or_none paths (Answers paths))

work_or_nothing : (Dumps : DumpsAnswers) (command : Called) → DecidesFirst command → AllOrNothing (work_with Dumps command)
work_or_nothing Dumps (instrument dest files) first = nothing_on_files files (instrument_answers dest)
work_or_nothing Dumps (run plan destfile mode files) first =
    nothing_before (reading plan) (running Dumps plan destfile mode files) (none_reading plan)
    (λ text front over. nothing_on_files files (run_answers Dumps plan destfile mode text))
work_or_nothing Dumps (merge destfile inputs) first = λ steps end is. all_of (done_or_none inputs (MergeAnswers destfile inputs) steps end is)
work_or_nothing Dumps (report csv name None files) first = nothing_on_files files (report_answers csv name None [])
work_or_nothing Dumps (report csv name (Some exec) files) first = nothing_before (reading exec) (λ text. reporting csv name (Some exec) (text ∷ []) files)
    (none_reading exec) (λ text front over. nothing_on_files files (report_answers csv name (Some exec) (text ∷ [])))
work_or_nothing Dumps (exec_info inputs) first = λ steps end is. all_of (done_or_none inputs (InfoAnswers inputs) steps end is)
work_or_nothing Dumps (class_info files) first = nothing_on_files files ListAnswers
work_or_nothing Dumps (cover dest plan destfile csv workers name files) first = absurd first
work_or_nothing Dumps (cover_sample methods) first = λ steps end is. all_of (sample_or_nothing methods steps end is)
work_or_nothing Dumps (refs files) first = nothing_on_files files RefsFiles
work_or_nothing Dumps (lines None files) first = nothing_on_files files (lines_answers None [])
work_or_nothing Dumps (lines (Some exec) files) first = nothing_before (reading exec) (λ text. lining (Some exec) (text ∷ []) files)
    (none_reading exec) (λ text front over. nothing_on_files files (lines_answers (Some exec) (text ∷ [])))
work_or_nothing Dumps (check rules None files) first = nothing_judging files (check_answers rules None [])
work_or_nothing Dumps (check rules (Some exec) files) first = nothing_before (reading exec) (λ text. checking rules (Some exec) (text ∷ []) files)
    (none_reading exec) (λ text front over. nothing_judging files (check_answers rules (Some exec) (text ∷ [])))

-- words that haven't written all have written nothing
pub all_or_nothing : (Dumps : DumpsAnswers) (words : List Word) → DecideFirst words → AllOrNothing (the_work_with Dumps words)
all_or_nothing Dumps words first =
    nothing_before (deciding (Means words) (IsUsage words)) (work_with Dumps) (none_deciding (Means words) (IsUsage words))
    (λ command front over. work_or_nothing Dumps command (first command (meant words command front over)))

last_on_files : (files : List FileText) (Answers : List Word → List (List ℕ) → Answer → Type 0) → WritesLast (on_files files Answers)
last_on_files files Answers = last_then (files_of files) (λ paths. answered paths (Answers paths)) (none_files files) (reads_files files) (λ paths front over. last_answered paths (Answers paths))

last_judging : (files : List FileText) (Answers : List Word → List (List ℕ) → Outcome Verdict → Type 0) → WritesLast (judging_files files Answers)
last_judging files Answers = last_then (files_of files) (λ paths. judged paths (Answers paths)) (none_files files) (reads_files files) (λ paths front over. last_judged paths (Answers paths))

last_work : (Dumps : DumpsAnswers) (command : Called) → DecidesFirst command → WritesLast (work_with Dumps command)
last_work Dumps (instrument dest files) first = last_on_files files (instrument_answers dest)
last_work Dumps (run plan destfile mode files) first =
    last_then (reading plan) (running Dumps plan destfile mode files) (none_reading plan) (reads_reading plan)
    (λ text front over. last_on_files files (run_answers Dumps plan destfile mode text))
last_work Dumps (merge destfile inputs) first = last_answered inputs (MergeAnswers destfile inputs)
last_work Dumps (report csv name None files) first = last_on_files files (report_answers csv name None [])
last_work Dumps (report csv name (Some exec) files) first = last_then (reading exec) (λ text. reporting csv name (Some exec) (text ∷ []) files)
    (none_reading exec) (reads_reading exec) (λ text front over. last_on_files files (report_answers csv name (Some exec) (text ∷ [])))
last_work Dumps (exec_info inputs) first = last_answered inputs (InfoAnswers inputs)
last_work Dumps (class_info files) first = last_on_files files ListAnswers
last_work Dumps (cover dest plan destfile csv workers name files) first = absurd first
last_work Dumps (cover_sample methods) first = last_sample methods
last_work Dumps (refs files) first = last_on_files files RefsFiles
last_work Dumps (lines None files) first = last_on_files files (lines_answers None [])
last_work Dumps (lines (Some exec) files) first = last_then (reading exec) (λ text. lining (Some exec) (text ∷ []) files)
    (none_reading exec) (reads_reading exec) (λ text front over. last_on_files files (lines_answers (Some exec) (text ∷ [])))
last_work Dumps (check rules None files) first = last_judging files (check_answers rules None [])
last_work Dumps (check rules (Some exec) files) first = last_then (reading exec) (λ text. checking rules (Some exec) (text ∷ []) files)
    (none_reading exec) (reads_reading exec) (λ text front over. last_judging files (check_answers rules (Some exec) (text ∷ [])))

pub last_the_work : (Dumps : DumpsAnswers) (words : List Word) → DecideFirst words → WritesLast (the_work_with Dumps words)
last_the_work Dumps words first =
    last_then (deciding (Means words) (IsUsage words)) (work_with Dumps) (none_deciding (Means words) (IsUsage words))
    (reads_deciding (Means words) (IsUsage words))
    (λ command front over. last_work Dumps command (first command (meant words command front over)))

-- ---- usage

module _ (Dumps : DumpsAnswers) (landed : Landed) (words : List Word) where
  -- words of no stated form come to that end at once
  none_wants : NoForm words → (steps : List Step) (call : Call) → the_work_with Dumps words steps (wants call) → ⊥
  none_wants none [] call (inl within) = within
  none_wants none (step ∷ steps) call (inl within) = within
  none_wants none steps call (inr h) = by h.front h.over
    where
      by : (front : List Step) → deciding (Means words) (IsUsage words) front (gives h.value) → ⊥
      by [] is = none h.value is
      by (step ∷ front) is = is

  none_ends : NoForm words → (steps : List Step) (end : End) → the_work_with Dumps words steps (stops end) → end ≡ misused
  none_ends none [] end (inl within) = within.1
  none_ends none (step ∷ steps) end (inl within) = absurd within
  none_ends none steps end (inr h) = by h.front h.over
    where
      by : (front : List Step) → deciding (Means words) (IsUsage words) front (gives h.value) → end ≡ misused
      by [] is = absurd (none h.value is)
      by (step ∷ front) is = absurd is

  pub no_form_ends : NoForm words → (old new : Outside) (f f' : Counts) (s : Status) → Ends landed (the_work_with Dumps words) old new f f' s
      → (s ≡ status.Usage) ⊎ (s ≡ status.Memory)
  no_form_ends none old new f f' s (inl e) = inl (e.is ∙ ap status_of (none_ends none e.came.steps e.end e.came.comes))
  no_form_ends none old new f f' s (inr (inl e)) = absurd (none_wants none e.broke_off.came.steps e.broke_off.call e.broke_off.came.comes)
  no_form_ends none old new f f' s (inr (inr e)) = inr e.is

-- misused words are of no stated form
pub misused_none : (Dumps : DumpsAnswers) → DumpsRefuse Dumps → (words : List Word) (steps : List Step) → the_work_with Dumps words steps (stops misused)
    → NoForm words
misused_none Dumps refuses words [] (inl within) = within.0
misused_none Dumps refuses words (step ∷ steps) (inl within) = absurd within
misused_none Dumps refuses words steps (inr h) = absurd (work_ends Dumps refuses h.value h.behind misused h.goes_on)
