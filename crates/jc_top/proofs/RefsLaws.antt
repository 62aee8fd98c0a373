-- The ends to which `refs` comes by what it answers.
use Rattle.std.proofs.Common.{ℕ, List, inl, inr, refl, sym, subst}
use Rattle.jc_programs.specs.declared.program.Program.{Program}
use Rattle.jc_command_run.specs.RunAnswers.{path_at}
use Rattle.jc_command_refs.specs.RefsAnswers.{RefsAnswer, RefsFiles}
use Rattle.jc_command_work.specs.declared.status.Fault.TheVariants as fault
use Rattle.jc_command_work.specs.Step.{Word, Write}
use Rattle.jc_command_work.specs.Part.{End, stops}
use Rattle.jc_command_work.specs.Answered.{HasOneAnswer}
use Rattle.jc_command_work.specs.Causes.{IsRefusal}
use Rattle.jc_command_work.proofs.OneWork.{gives_or_stops, same_end}
use Rattle.jc_command_work.proofs.CauseLaws.{is_refusal}
use Rattle.jc_top.proofs.RunLaws.{link_refuses}

-- of what is read there is one answer of `refs`
abbrev pub RefsAnswerOnce : Type 0
RefsAnswerOnce = (paths : List Word) → HasOneAnswer paths (RefsFiles paths)

module _ (paths : List Word) where
  checked_refuses : (program : Program) (end : End) → RefsAnswer paths program (stops end) → IsRefusal end
  checked_refuses program end (inl (ok, is)) = absurd (gives_or_stops _ end (sym is))
  checked_refuses program end (inr (refusal, first, is)) = is_refusal (path_at paths refusal.class) (fault.Refs refusal.class refusal) end is

  pub refs_refuses : (read : List (List ℕ)) (end : End) → RefsFiles paths read (stops end) → IsRefusal end
  refs_refuses read end (inl (program, of, answer)) = checked_refuses program end answer
  refs_refuses read end (inr (e, link, same)) = subst IsRefusal (sym (same_end (List Write) end e (stops end) refl same)) (link_refuses paths read e link)
