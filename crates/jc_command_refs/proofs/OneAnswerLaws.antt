-- Class files have one answer of `refs`.
use Rattle.std.proofs.Common.{◌⊎◌, inl, inr, ℕ, List, refl}
use Rattle.jc_programs.specs.declared.program.Program.{Program}
use Rattle.jc_link_laws.proofs.SomeProgramLaws.{program_or_reason}
use Rattle.jc_link_programs.specs.Linking.{IsProgramOf, IsLinkRefusal}
use Rattle.jc_link_programs.specs.declared.link_refusal.LinkRefusal.{LinkRefusal}
use Rattle.jc_refs_check.specs.declared.ref_refusal.RefRefusal.{RefRefusal}
use Rattle.jc_refs_check.specs.Answers.{IsRefRefusal}
use Rattle.jc_refs_check.specs.RefsOk.{RefsOk}
use Rattle.jc_command_work.specs.Step.{Word}
use Rattle.jc_command_work.specs.Part.{stops}
use Rattle.jc_command_work.specs.OneWay.{IsOver}
use Rattle.jc_command_work.specs.Answered.{Answer, OneAnswer, HasOneAnswer}
use Rattle.jc_command_run.proofs.AnswerLaws.{some_end, short_files}
use Rattle.jc_command_refs.specs.RefsAnswers.{passed_answer, refused_answer, RefsFiles}
use Rattle.jc_command_refs.proofs.SameProgramLaws.{one_refs}
use Rattle.jc_command_refs.proofs.SomeRefusalLaws.{passes_or_refused}

module _ (paths : List Word) (files : List (List ℕ)) where
  the_one : (answer : Answer) → IsOver answer → RefsFiles paths files answer → OneAnswer (RefsFiles paths files)
  the_one answer over holds = record { answer = answer; over = over; holds = holds; only = λ a is. one_refs paths files a answer is holds }

  of_program : (program : Program) → IsProgramOf files program → RefsOk program ⊎ ((refusal : RefRefusal) × IsRefRefusal program refusal) → OneAnswer (RefsFiles paths files)
  of_program program of (inl ok) = the_one passed_answer tt (inl (program, of, inl (ok, refl)))
  of_program program of (inr (refusal, first)) = the_one (refused_answer paths refusal) tt (inl (program, of, inr (refusal, first, refl)))

  of_files : ((program : Program) × IsProgramOf files program) ⊎ ((r : LinkRefusal) × IsLinkRefusal files r) → OneAnswer (RefsFiles paths files)
  of_files (inl (program, of)) = of_program program of (passes_or_refused program)
  of_files (inr (r, refuses)) = let end = some_end paths files r refuses in the_one (stops end.0) tt (inr (end.0, (r, refuses, end.1), refl))

pub one_answer : (paths : List Word) → HasOneAnswer paths (RefsFiles paths)
one_answer paths files are = of_files paths files (program_or_reason files (short_files paths files are))
