-- What methods are checked with, and what was met.
use Rattle.jc_methods.specs.VerificationTypes.{Names, Grows}
use Rattle.jc_machine_model.specs.Programs.{IsProgram}
use Rattle.jc_machine_code.specs.Prepared.{IsPrepared}
use Rattle.jc_refs_check.specs.declared.check.Checking.{Checking}
use Rattle.jc_refs_check.specs.declared.check.Met.{Met}
use Rattle.jc_refs_check.specs.Classes.{AreKnown}
use Rattle.jc_refs_check.specs.HeldTypes.{AreTypes}
use Rattle.jc_refs_check.specs.Unguarded.{IsNothingReached}

-- what each class's name tells is known, and no number stands for any
pub record IsMet (m : Met) : Type 0 where
  pub known : AreKnown m.classes
  pub reached : IsNothingReached m.reached.items

-- the instructions and the types of a program
pub record IsChecking (names : Names) (c : Checking) : Type 0 where
  pub program : IsProgram c.program.now
  pub operations : IsPrepared c.program.now c.operations.now
  pub types : AreTypes names c.program.now c.types.now
  pub grown : Grows c.program.now.names names
