-- The ends to which `cover` comes by itself: it is done, an input is refused, or a file can't be read.
use Rattle.std.proofs.Common.{◌≡◌, ℕ, List, [], ◌∷◌, inl, sym, subst}
use Rattle.jc_programs.specs.declared.program.Program.{Program}
use Rattle.jc_programs.specs.declared.run_plan.RunPlan.{RunPlan}
use Rattle.jc_exec.specs.Writing.{exec_text}
use Rattle.jc_run_plans.specs.Plans.{IsPlanText}
use Rattle.jc_link_programs.specs.declared.link_refusal.LinkRefusal.{LinkRefusal}
use Rattle.jc_link_programs.specs.declared.link_refusal.LinkRefusal.TheVariants as refusals
use Rattle.jc_machine_model.specs.CaseText.{case_texts}
use Rattle.jc_command_work.specs.declared.status.Fault.{Fault}
use Rattle.jc_command_work.specs.Step.{Word, Write, to_file, to_out}
use Rattle.jc_command_work.specs.Part.{End, done, refused, unread, Part, giving, deciding, making, never}
use Rattle.jc_command_work.specs.Part.{reading, writing, reading_all, writing_all}
use Rattle.jc_command_work.specs.Folders.{files_of}
use Rattle.jc_command_work.specs.Causes.{IsOwnEnd, EndsIn, HasOwnEnds}
use Rattle.jc_command_work.proofs.CauseLaws.{ends_then, ends_deciding, ends_ending, ends_reading_all, ends_writing_all}
use Rattle.jc_command_work.proofs.FileLaws.{ends_files}
use Rattle.jc_command_work.proofs.OneWork.{gives_or_stops}
use Rattle.jc_command_run.specs.RunAnswers.{IsPlanEnd, IsRunProgram}
use Rattle.jc_command_run.specs.RunStore.{run_store}
use Rattle.jc_headline.specs.CoverWork.{Cover, LookedFile, AreLooked, all_file_writes, accepted_texts, targets, EndsAmongAll, IsLinkEnd, HaveEntries, IsEntryEnd, IsReportText, IsClashEnd, instrumenting, running, cover_work}
use Rattle.jc_headline.proofs.CoverRunLaws.{last_part, report_part, entry_part, look_part}

-- such ends: done, that an input is refused, and that a file can't be read
module _ (Is : End → Type 0) (done_is : Is done) (refused_is : (fault : Fault) (line : List ℕ) → Is (refused fault line)) (unread_is : (path : Word) → Is (unread path)) where
  abbrev Own : {X : Type 0} → Part X → Type 0
  Own part = EndsIn Is part

  own_refused : (fault : Fault) (line : List ℕ) (end : End) → end ≡ refused fault line → Is end
  own_refused fault line end is = subst Is (sym is) (refused_is fault line)

  own_link_end : (looked : List LookedFile) (written : List (List ℕ)) (end : End) → IsLinkEnd looked written end → Is end
  own_link_end looked written end is = by is.0 is.2
    where
      by : (r : LinkRefusal) → EndsAmongAll looked written r end → Is end
      by (refusals.Class index why) so = own_refused _ _ end so
      by (refusals.SameName first second) so = own_refused _ _ end so.2
      by (refusals.SameId first second) so = own_refused _ _ end so.2

  own_giving : {X : Type 0} (x : X) → Own (giving x)
  own_giving x [] end is = absurd (gives_or_stops x end (sym is))
  own_giving x (s ∷ ss) end is = absurd is

  own_reading_all : (paths : List Word) → Own (reading_all paths)
  own_reading_all = ends_reading_all Is unread_is

  own_reading : (path : Word) → Own (reading path)
  own_reading path steps end is = own_reading_all (path ∷ []) steps end (inl is)

  own_writing : (write : Write) → Own (writing write)
  own_writing write steps end is = ends_writing_all Is (write ∷ []) steps end (inl is)

  own_instrumenting : (dest : Word) (paths : List Word) (read : List (List ℕ)) → Own (instrumenting dest paths read)
  own_instrumenting dest paths read =
      ends_then Is (making (AreLooked paths read)) _ (ends_deciding Is (AreLooked paths read) never (λ end none. absurd none))
      (λ l. ends_then Is (writing_all (all_file_writes dest l)) _ (ends_writing_all Is (all_file_writes dest l)) (λ u. own_giving l))

  module _ (c : Cover) where
    own_last : (plan : RunPlan) (program : Program) (csv : List ℕ) → Own (last_part c plan program csv)
    own_last plan program csv =
        ends_then Is (writing (to_file c.csv csv)) _ (own_writing (to_file c.csv csv))
        (λ _. ends_then Is (writing (to_out (case_texts program 1 plan.cases))) _ (own_writing (to_out (case_texts program 1 plan.cases))) (λ _. ends_ending Is done done_is))

    own_report : (plan : RunPlan) (looked : List LookedFile) (program : Program) → Own (report_part c plan looked program)
    own_report plan looked program =
        let store = run_store program plan in
        ends_then Is (writing (to_file c.exec (exec_text store))) _ (own_writing (to_file c.exec (exec_text store)))
        (λ _. ends_then Is (deciding (IsReportText c.name store (accepted_texts looked)) (IsClashEnd c.exec store (accepted_texts looked))) _
        (ends_deciding Is _ _ (λ end is. own_refused _ _ end is.2)) (λ csv. own_last plan program csv))

    own_entry : (plan : RunPlan) (looked : List LookedFile) (program : Program) → Own (entry_part c plan looked program)
    own_entry plan looked program =
        ends_then Is (deciding (HaveEntries program plan) (IsEntryEnd c.plan program plan)) _ (ends_deciding Is _ _ (λ end is. own_refused _ _ end is.2))
        (λ _. own_report plan looked program)

    own_run : (plan : RunPlan) (looked : List LookedFile) → Own (running c plan looked)
    own_run plan looked =
        ends_then Is (reading_all (targets c.dest looked)) _ (own_reading_all (targets c.dest looked))
        (λ written. ends_then Is (deciding (IsRunProgram written) (IsLinkEnd looked written)) _
        (ends_deciding Is _ _ (own_link_end looked written)) (λ program. own_entry plan looked program))

    own_look : (text : List ℕ) (paths : List Word) (read : List (List ℕ)) → Own (look_part c text paths read)
    own_look text paths read =
        ends_then Is (deciding (IsPlanText text) (IsPlanEnd c.plan text)) _ (ends_deciding Is _ _ (λ end is. own_refused _ _ end is.2))
        (λ plan. ends_then Is (instrumenting c.dest paths read) _ (own_instrumenting c.dest paths read) (λ looked. own_run plan looked))

    pub cover_ends : EndsIn Is (cover_work c)
    cover_ends =
        ends_then Is (reading c.plan) _ (own_reading c.plan)
        (λ text. ends_then Is (files_of c.files) _ (ends_files Is c.files)
        (λ paths. ends_then Is (reading_all paths) _ (own_reading_all paths) (λ read. own_look text paths read)))

pub own_cover : (c : Cover) → HasOwnEnds (cover_work c)
own_cover c = cover_ends IsOwnEnd tt (λ fault line. tt) (λ path. tt) c
