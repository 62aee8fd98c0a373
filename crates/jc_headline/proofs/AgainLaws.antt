-- Files of a program that are instrumented are linked again, and threads begin with the same methods.
use Rattle.std.proofs.Common.{◌≡◌, ◌⊎◌, inl, inr, ℕ, Bool, not, is_some, List, ap}
use Rattle.std.specs.List.{AllByRecursion, find}
use Rattle.jc_bytes.specs.ByteLists.{AreBytes}
use Rattle.jc_programs.specs.declared.program.Program.{Program}
use Rattle.jc_programs.specs.declared.run_plan.ThreadLine.{ThreadLine}
use Rattle.jc_twin_programs.specs.TwinProgram.{TwinProgram}
use Rattle.jc_link_programs.specs.Linking.{IsProgramOf, IsLinkRefusal}
use Rattle.jc_link_programs.specs.declared.link_refusal.LinkRefusal.{LinkRefusal}
use Rattle.jc_link_laws.specs.SecondLinking.{IsSecondRefusal}
use Rattle.jc_link_laws.specs.TwinFiles.{AreWrittenOf, IsShortFile}
use Rattle.jc_link_laws.proofs.SecondLinkingLaws.{second_refusal}
use Rattle.jc_link_laws.proofs.SomeProgramLaws.{program_or_reason}
use Rattle.jc_twin_simulation.proofs.BeginLaws.{entry_alike}
use Rattle.jc_twin_simulation.proofs.ProgramRunLaws.{have_marks, have_sides}
use Rattle.jc_command_run.specs.RunStore.{first_without}

module _ (originals written : List (List ℕ)) (before : Program) (short : AllByRecursion IsShortFile originals) (are : AllByRecursion AreBytes written)
    (w : AreWrittenOf originals written) (is : IsProgramOf originals before) where
  pub linked_again : AllByRecursion IsShortFile written → ((r : LinkRefusal) → IsSecondRefusal originals written r → ⊥) → (after : Program) × IsProgramOf written after
  linked_again short' none = by (program_or_reason written short')
    where
      by : ((p : Program) × IsProgramOf written p) ⊎ ((r : LinkRefusal) × IsLinkRefusal written r) → (after : Program) × IsProgramOf written after
      by (inl program) = program
      by (inr refusal) = absurd (none refusal.0 (second_refusal originals written before short are w is refusal.0 refusal.1))

-- no thread lacks a method in the twin that has one in the original
pub same_first : (before after : Program) → TwinProgram before after → (threads : List ThreadLine) → first_without after threads ≡ first_without before threads
same_first before after twins threads =
    let marks = have_marks before after twins in
    let sides = have_sides before after marks.0 twins marks.1 in
    ap (λ (t : ThreadLine → Bool). find t threads) (λ i thread. not (is_some (entry_alike before after sides.0 sides.1 thread i)))
