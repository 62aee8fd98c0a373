-- The ends to which `run` comes by what it answers.
use Rattle.std.proofs.Common.{◌≡◌, ℕ, List, ◌∷◌, Option, None, Some, inl, inr, refl, sym, ◌∙◌, subst}
use Rattle.jc_programs.specs.declared.program.Program.{Program}
use Rattle.jc_programs.specs.declared.run_plan.RunPlan.{RunPlan}
use Rattle.jc_programs.specs.declared.run_plan.ThreadLine.{ThreadLine}
use Rattle.jc_link_programs.specs.declared.link_refusal.LinkRefusal.{LinkRefusal}
use Rattle.jc_link_programs.specs.declared.link_refusal.LinkRefusal.TheVariants as refusals
use Rattle.jc_command_words.specs.Commands.{Mode, plainly, dumping, monitored}
use Rattle.jc_command_run.specs.RunAnswers.{EndsAs, IsLinkEnd, run_answer, IsRunAnswer, DecidedBy, RunAnswers}
use Rattle.jc_command_run.specs.RunStore.{threads_of, first_without}
use Rattle.jc_command_dumped.specs.DumpedAnswers.{Dumping}
use Rattle.jc_command_monitored.specs.MonitoredAnswers.{monitored_answer, IsMonitoredAnswer, MonitoredAnswers}
use Rattle.jc_command_work.specs.declared.status.Fault.{Fault}
use Rattle.jc_command_work.specs.declared.status.Fault.TheVariants as fault
use Rattle.jc_command_work.specs.Step.{Word, Write}
use Rattle.jc_command_work.specs.Part.{End, refused, stops}
use Rattle.jc_command_work.specs.Answered.{Answer, HasOneAnswer}
use Rattle.jc_command_work.specs.Causes.{IsRefusal}
use Rattle.jc_command_work.proofs.OneWork.{gives_or_stops, same_end}
use Rattle.jc_command_work.proofs.CauseLaws.{is_refusal}
use Rattle.jc_top.specs.Work.{DumpsAnswers, run_answers}

-- of what is read there is one answer of `run --dumps`
abbrev pub DumpsAnswerOnce : DumpsAnswers → Type 0
DumpsAnswerOnce Dumps = (d : Dumping) (paths : List Word) (text : List ℕ) → HasOneAnswer paths (λ read. Dumps d paths (text ∷ read))

-- where it ends the command, it refuses an input
abbrev pub DumpsRefuse : DumpsAnswers → Type 0
DumpsRefuse Dumps = (d : Dumping) (paths : List Word) (texts : List (List ℕ)) (end : End) → Dumps d paths texts (stops end) → IsRefusal end

-- of what is read there is one answer of `run`
abbrev pub RunsAnswerOnce : DumpsAnswers → Type 0
RunsAnswerOnce Dumps = (plan exec : Word) (mode : Mode) (text : List ℕ) (paths : List Word) → HasOneAnswer paths (run_answers Dumps plan exec mode text paths)

-- there is one of what is read by one way to run the cases
abbrev AnswersOnce : ((plan exec : Word) → List Word → List (List ℕ) → Answer → Type 0) → Type 0
AnswersOnce Answers = (plan exec : Word) (paths : List Word) (text : List ℕ) → HasOneAnswer paths (λ read. Answers plan exec paths (text ∷ read))

-- where there is one by each way to run the cases
pub runs_once : (Dumps : DumpsAnswers) → AnswersOnce RunAnswers → AnswersOnce MonitoredAnswers → DumpsAnswerOnce Dumps → RunsAnswerOnce Dumps
runs_once Dumps plain locking dumped plan exec (plainly workers) text paths = plain plan exec paths text
runs_once Dumps plain locking dumped plan exec (dumping dir every workers) text paths = dumped _ paths text
runs_once Dumps plain locking dumped plan exec monitored text paths = locking plan exec paths text

pub refused_so : (f : Fault) (line : List ℕ) (end : End) → end ≡ refused f line → IsRefusal end
refused_so f line end is = subst IsRefusal (sym is) tt

module _ (paths : List Word) (read : List (List ℕ)) where
  pub link_refuses : (end : End) → IsLinkEnd paths read end → IsRefusal end
  link_refuses end is = by is.0 is.2
    where
      by : (r : LinkRefusal) → EndsAs paths read r end → IsRefusal end
      by (refusals.Class index why) so = refused_so _ _ end so
      by (refusals.SameName first second) so = refused_so _ _ end so.2
      by (refusals.SameId first second) so = refused_so _ _ end so.2

-- what is made of a run plan and a program ends the command in refusals alone
abbrev pub MakesRefuse : (RunPlan → Program → Answer → Type 0) → Type 0
MakesRefuse Makes = (p : RunPlan) (program : Program) (end : End) → Makes p program (stops end) → IsRefusal end

-- then so do the decisions in front
pub decided_refuses : (Makes : RunPlan → Program → Answer → Type 0) → MakesRefuse Makes
    → (plan : Word) (paths : List Word) (text : List ℕ) (read : List (List ℕ)) (end : End) → DecidedBy Makes plan paths text read (stops end) → IsRefusal end
decided_refuses Makes refuses plan paths text read end (inr (e, is, same)) = refused_so _ _ end (same_end (List Write) end e (stops end) refl same ∙ is.2)
decided_refuses Makes refuses plan paths text read end (inl (p, is, inr (e, link, same))) =
    subst IsRefusal (sym (same_end (List Write) end e (stops end) refl same)) (link_refuses paths read e link)
decided_refuses Makes refuses plan paths text read end (inl (p, is, inl (program, made, makes))) = refuses p program end makes

plain_refuses : (plan exec : Word) (p : RunPlan) (program : Program) (o : Option ThreadLine) (end : End) → stops end ≡ run_answer plan exec p program o
    → IsRefusal end
plain_refuses plan exec p program None end is = absurd (gives_or_stops _ end (sym is))
plain_refuses plan exec p program (Some thread) end is = is_refusal plan (fault.NoEntry thread.line) end is

monitored_refuses : (plan exec : Word) (p : RunPlan) (program : Program) (o : Option ThreadLine) (end : End)
    → stops end ≡ monitored_answer plan exec p program o
    → IsRefusal end
monitored_refuses plan exec p program None end is = absurd (gives_or_stops _ end (sym is))
monitored_refuses plan exec p program (Some thread) end is = is_refusal plan (fault.NoEntry thread.line) end is

pub run_refuses : (Dumps : DumpsAnswers) → DumpsRefuse Dumps
    → (plan exec : Word) (mode : Mode) (text : List ℕ) (paths : List Word) (read : List (List ℕ)) (end : End)
    → run_answers Dumps plan exec mode text paths read (stops end) → IsRefusal end
run_refuses Dumps refuses plan exec (plainly workers) text paths read =
    decided_refuses (IsRunAnswer plan exec)
    (λ p program end is. plain_refuses plan exec p program (first_without program (threads_of p)) end is) plan paths text read
run_refuses Dumps refuses plan exec (dumping dir every workers) text paths read = refuses _ paths (text ∷ read)
run_refuses Dumps refuses plan exec monitored text paths read =
    decided_refuses (IsMonitoredAnswer plan exec)
    (λ p program end is. monitored_refuses plan exec p program (first_without program (threads_of p)) end is) plan paths text read
