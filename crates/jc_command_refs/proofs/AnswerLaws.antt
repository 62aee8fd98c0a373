-- What is decided of class files.
use Rattle.std.proofs.Common.{inl, inr, ℕ, List, Option, None, Some, Result, Ok, Err, Vec, refl}
use Rattle.std.specs.declared.alloc.Global.{Global}
use Rattle.jc_programs.specs.declared.program.Program.{Program}
use Rattle.jc_link_programs.specs.Linking.{IsProgramOf}
use Rattle.jc_command_work.specs.declared.output.Write.{Write as Written}
use Rattle.jc_command_work.specs.declared.stop.Stop.{Stop}
use Rattle.jc_command_work.specs.Step.{Word}
use Rattle.jc_command_work.specs.Part.{End}
use Rattle.jc_command_work.specs.Answered.{Answer, EndsSo, AnswersWith}
use Rattle.jc_command_work.specs.Seen.{stop_seen}
use Rattle.jc_command_run.specs.Clash.{LinkStops}
use Rattle.jc_command_refs.specs.RefsAnswers.{RefsAnswer, RefsFiles}

module _ (paths : List Word) (files : List (List ℕ)) where
  abbrev Decided : Answer → Type 0
  Decided = RefsFiles paths files

  pub files_refused : (o : Option End) → LinkStops paths files o → EndsSo Decided o
  files_refused None so = tt
  files_refused (Some end) so = inr (end, so, refl)

  pub program_checked : (program : Program) → IsProgramOf files program → (r : Result (Vec Written Global) Stop)
      → AnswersWith (RefsAnswer paths program) r → AnswersWith Decided r
  program_checked program of (Ok writes) so = inl (program, of, so)
  program_checked program of (Err stop) so = by (stop_seen stop) so
    where
      by : (o : Option End) → EndsSo (RefsAnswer paths program) o → EndsSo Decided o
      by None ends = tt
      by (Some end) ends = inl (program, of, ends)
