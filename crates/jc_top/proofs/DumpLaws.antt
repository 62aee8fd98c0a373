-- The work of words by dumps, and by any dumps.
use Rattle.std.proofs.Common.{◌≡◌, ◌⊎◌, inl, inr, ℕ, List, [], ◌∷◌, Option, None, Some, refl, sym, ◌∙◌, subst}
use Rattle.jc_programs.specs.declared.program.Program.{Program}
use Rattle.jc_programs.specs.declared.run_plan.RunPlan.{RunPlan}
use Rattle.jc_programs.specs.declared.run_plan.ThreadLine.{ThreadLine}
use Rattle.jc_paths.specs.Paths.{FileText}
use Rattle.jc_command_words.specs.Commands.{plainly, dumping, monitored, Called, instrument, run, merge, report, exec_info, class_info, cover, cover_sample, refs, lines, check, Means}
use Rattle.jc_command_run.specs.RunStore.{threads_of, first_without}
use Rattle.jc_command_dumped.specs.DumpedAnswers.{AnswersBy, DumpedAnswers, Dumping, IsAnswerBy, Taken, taken_answer}
use Rattle.jc_command_dumped.proofs.AnswerLaws.{by_taken}
use Rattle.jc_command_work.specs.declared.status.Status.{Status}
use Rattle.jc_command_work.specs.declared.status.Fault.TheVariants as fault
use Rattle.jc_command_work.specs.Step.{Word, Write, Outside, Counts, Landed, Step, call_of}
use Rattle.jc_command_work.specs.Part.{End, Outcome, wants, gives, stops, Part, Command, deciding, reading, reading_all, Begun, ◌>>=◌}
use Rattle.jc_command_work.specs.Ending.{CameTo, Began, BrokeOff, Ends}
use Rattle.jc_command_work.specs.Folders.{files_of}
use Rattle.jc_command_work.specs.Answered.{Answer, answered, answering, preparing, making_all}
use Rattle.jc_command_work.specs.OneWay.{IsWork, Work}
use Rattle.jc_command_work.specs.Causes.{IsRefusal}
use Rattle.jc_command_work.proofs.OneWork.{gives_or_stops}
use Rattle.jc_command_work.proofs.CauseLaws.{is_refusal}
use Rattle.jc_top.specs.Work.{DumpsAnswers, run_answers, on_files, work_with, IsUsage, the_work_with, the_work, any_work, AsksNoDumps, AskNoDumps}
use Rattle.jc_top.proofs.RunLaws.{DumpsRefuse, decided_refuses}
use Rattle.jc_top.proofs.WorkLaws.{meant}

-- ---- what `run --dumps` refuses

module _ (taken : Taken) where
  answer_refuses : (d : Dumping) (p : RunPlan) (program : Program) (o : Option ThreadLine) (end : End) → stops end ≡ taken_answer d taken p program o
      → IsRefusal end
  answer_refuses d p program None end is = absurd (gives_or_stops _ end (sym is))
  answer_refuses d p program (Some thread) end is = is_refusal d.plan (fault.NoEntry thread.line) end is

  pub any_refuse : DumpsRefuse (AnswersBy taken)
  any_refuse d paths [] end is = absurd is
  any_refuse d paths (text ∷ read) end is =
      decided_refuses (IsAnswerBy d taken)
      (λ p program end so. answer_refuses d p program (first_without program (threads_of p)) end so) d.plan paths text read end is

  pub dumps_refuse : DumpsRefuse (DumpedAnswers taken)
  dumps_refuse d paths texts end is = any_refuse d paths texts end (by_taken taken d paths texts (stops end) is)

-- ---- a part that comes to what another comes to

-- whatever the one comes to, the other does
abbrev pub Within : {X : Type 0} → Part X → Part X → Type 0
Within {X} p q = (steps : List Step) (o : Outcome X) → p steps o → q steps o

within_then : {X Y : Type 0} (p p' : Part X) (q q' : X → Part Y) → Within p p' → ((x : X) → Within (q x) (q' x)) → Within (p >>= q) (p' >>= q')
within_then p p' q q' first second steps (wants call) (inl within) = inl (first steps (wants call) within)
within_then p p' q q' first second steps (stops end) (inl within) = inl (first steps (stops end) within)
within_then p p' q q' first second steps (gives y) (inl within) = absurd within
within_then p p' q q' first second steps o (inr h) = inr (record {
  front = h.front;
  behind = h.behind;
  value = h.value;
  parts = h.parts;
  over = first h.front (gives h.value) h.over;
  goes_on = second h.value h.behind o h.goes_on;
})

within_itself : {X : Type 0} (p : Part X) → Within p p
within_itself p steps o is = is

within_answering : (Is Is' : Answer → Type 0) → ((a : Answer) → Is a → Is' a) → Within (answering Is) (answering Is')
within_answering Is Is' each [] (gives value) is = each (gives value) is
within_answering Is Is' each [] (stops end) is = each (stops end) is
within_answering Is Is' each [] (wants call) is = is
within_answering Is Is' each (step ∷ steps) o is = is

module _ (files : List FileText) (Before After : List Word → List (List ℕ) → Answer → Type 0)
    (each : (paths : List Word) (texts : List (List ℕ)) (answer : Answer) → Before paths texts answer → After paths texts answer) where
  within_files : Within (on_files files Before) (on_files files After)
  within_files =
      within_then (files_of files) (files_of files) (λ paths. answered paths (Before paths)) (λ paths. answered paths (After paths))
      (within_itself (files_of files))
      (λ paths. within_then (preparing paths (Before paths)) (preparing paths (After paths)) making_all making_all
      (within_then (reading_all paths) (reading_all paths) (λ texts. answering (Before paths texts)) (λ texts. answering (After paths texts))
      (within_itself (reading_all paths))
      (λ texts. within_answering (Before paths texts) (After paths texts) (each paths texts)))
      (λ writes. within_itself (making_all writes)))

module _ (Before After : DumpsAnswers) where
  -- where the answers of `run --dumps` are among others, so is the work of each command
  module _ (each : (d : Dumping) (paths : List Word) (texts : List (List ℕ)) (answer : Answer) → Before d paths texts answer → After d paths texts answer) where
    within_work : (command : Called) → Within (work_with Before command) (work_with After command)
    within_work (instrument dest files) = λ steps o is. is
    within_work (run plan destfile (plainly workers) files) = λ steps o is. is
    within_work (run plan destfile (dumping dir every workers) files) =
        within_then (reading plan) (reading plan) _ _ (within_itself (reading plan))
        (λ text. within_files files (run_answers Before plan destfile (dumping dir every workers) text)
        (run_answers After plan destfile (dumping dir every workers) text)
        (λ paths texts. each _ paths (text ∷ texts)))
    within_work (run plan destfile monitored files) = λ steps o is. is
    within_work (merge destfile inputs) = λ steps o is. is
    within_work (report csv name None files) = λ steps o is. is
    within_work (report csv name (Some exec) files) = λ steps o is. is
    within_work (exec_info inputs) = λ steps o is. is
    within_work (class_info files) = λ steps o is. is
    within_work (cover dest plan destfile csv workers name files) = λ steps o is. is
    within_work (cover_sample methods) = λ steps o is. is
    within_work (refs files) = λ steps o is. is
    within_work (lines None files) = λ steps o is. is
    within_work (lines (Some exec) files) = λ steps o is. is
    within_work (check rules None files) = λ steps o is. is
    within_work (check rules (Some exec) files) = λ steps o is. is

    within_words : (words : List Word) → Within (the_work_with Before words) (the_work_with After words)
    within_words words =
        within_then (deciding (Means words) (IsUsage words)) (deciding (Means words) (IsUsage words)) (work_with Before) (work_with After)
        (within_itself (deciding (Means words) (IsUsage words))) within_work

  -- a command without dumps has one work
  same_work : (command : Called) → AsksNoDumps command → Within (work_with Before command) (work_with After command)
  same_work (instrument dest files) none = λ steps o is. is
  same_work (run plan destfile (plainly workers) files) none = λ steps o is. is
  same_work (run plan destfile (dumping dir every workers) files) none = absurd none
  same_work (run plan destfile monitored files) none = λ steps o is. is
  same_work (merge destfile inputs) none = λ steps o is. is
  same_work (report csv name None files) none = λ steps o is. is
  same_work (report csv name (Some exec) files) none = λ steps o is. is
  same_work (exec_info inputs) none = λ steps o is. is
  same_work (class_info files) none = λ steps o is. is
  same_work (cover dest plan destfile csv workers name files) none = λ steps o is. is
  same_work (cover_sample methods) none = λ steps o is. is
  same_work (refs files) none = λ steps o is. is
  same_work (lines None files) none = λ steps o is. is
  same_work (lines (Some exec) files) none = λ steps o is. is
  same_work (check rules None files) none = λ steps o is. is
  same_work (check rules (Some exec) files) none = λ steps o is. is

  pub same_words : (words : List Word) → AskNoDumps words → Within (the_work_with Before words) (the_work_with After words)
  same_words words none steps (wants call) (inl within) = inl within
  same_words words none steps (stops end) (inl within) = inl within
  same_words words none steps (gives value) (inl within) = absurd within
  same_words words none steps o (inr h) = inr (record {
    front = h.front;
    behind = h.behind;
    value = h.value;
    parts = h.parts;
    over = h.over;
    goes_on = same_work h.value (none h.value (meant words h.value h.front h.over)) h.behind o h.goes_on;
  })

-- ---- how a run ends

module _ (p q : Command) (within : Within p q) where
  begun_within : (steps : List Step) → Begun p steps → Begun q steps
  begun_within steps (inl none) = inl none
  begun_within steps (inr (front, step, same, wanted)) = inr (front, step, same, within front (wants (call_of step)) wanted)

  module _ (landed : Landed) (old : Outside) where
    came_within : (stands : Outside) (o : Outcome ⊥) → CameTo landed p old stands o → CameTo landed q old stands o
    came_within stands o came = record {
      steps = came.steps;
      comes = within came.steps o came.comes;
      begun = begun_within came.steps came.begun;
      fit = came.fit;
      stand = came.stand;
    }

    broke_within : (new : Outside) (f f' : Counts) (end : End) → BrokeOff landed p old new f f' end → BrokeOff landed q old new f f' end
    broke_within new f f' end broke = record {
      call = broke.call;
      stands = broke.stands;
      came = came_within broke.stands (wants broke.call) broke.came;
      broken = broke.broken;
      rose = broke.rose;
      is = broke.is;
    }

    pub ends_within : (new : Outside) (f f' : Counts) (s : Status) → Ends landed p old new f f' s → Ends landed q old new f f' s
    ends_within new f f' s (inl e) = inl (record { end = e.end; stands = e.stands; came = came_within e.stands (stops e.end) e.came; is = e.is; says = e.says })
    ends_within new f f' s (inr (inl e)) =
        inr (inl (record { end = e.end; stands = e.stands; at = e.at; broke_off = broke_within e.stands f e.at e.end e.broke_off; is = e.is; says = e.says }))
    ends_within new f f' s (inr (inr e)) = inr (inr (record { is = e.is; far = far e.far }))
      where
        far : ((f' ≡ f) × Began landed p old new) ⊎ ((end : End) × BrokeOff landed p old new f f' end)
            → ((f' ≡ f) × Began landed q old new) ⊎ ((end : End) × BrokeOff landed q old new f f' end)
        far (inl (kept, began)) =
            inl (kept, record { steps = began.steps; begun = begun_within began.steps began.begun; fit = began.fit; stand = began.stand })
        far (inr (end, broke)) = inr (end, broke_within new f f' end broke)

-- ---- by these dumps, and by any

module _ (taken : Taken) (words : List Word) where
  pub any_within : Within (the_work taken words) (any_work taken words)
  any_within = within_words (DumpedAnswers taken) (AnswersBy taken) (by_taken taken) words

  pub any_ends : (landed : Landed) (old new : Outside) (f f' : Counts) (s : Status) → Ends landed (the_work taken words) old new f f' s
      → Ends landed (any_work taken words) old new f f' s
  any_ends landed old new f f' s = ends_within (the_work taken words) (any_work taken words) any_within landed old new f f' s

  pub any_is_work : (landed : Landed) (w : Outside) (work : Work) → IsWork landed (the_work taken words) w work → IsWork landed (any_work taken words) w work
  any_is_work landed w work is = (any_within work.steps (stops work.end) is.0, is.1)

-- words without dumps are done alike, whatever is taken
module _ (taken other : Taken) (words : List Word) (none : AskNoDumps words) where
  pub same_the_work : Within (the_work taken words) (the_work other words)
  same_the_work = same_words (DumpedAnswers taken) (DumpedAnswers other) words none

  pub same_ends : (landed : Landed) (old new : Outside) (f f' : Counts) (s : Status) → Ends landed (the_work taken words) old new f f' s
      → Ends landed (the_work other words) old new f f' s
  same_ends landed old new f f' s = ends_within (the_work taken words) (the_work other words) same_the_work landed old new f f' s
