-- A class whose bodies are ready for their instrumented code to be written.
use Rattle.std.specs.Prelude.{◌≡◌, List, [], ◌∷◌, ◌++◌, All}
use Rattle.jc_methods.specs.VerificationTypes.{Names}
use Rattle.jc_methods.specs.WellMade.{IsWellMade}
use Rattle.jc_methods.specs.declared.body.Body.{Body}
use Rattle.jc_class.specs.declared.class_file.ClassFile.{ClassFile}
use Rattle.jc_plan.specs.Analysed.{all_probes}
use Rattle.jc_instrument.specs.Causes.{Cause, NoCause}
use Rattle.jc_instrument.specs.Constants.{AreConstants}
use Rattle.jc_instrument.specs.Ready.{ArePlanned}
use Rattle.jc_instrument.specs.Reasons.{code_causes}
use Rattle.jc_instrument.specs.RoomCauses.{HasTooLargeCode, early_room_causes}
use Rattle.jc_instrument.specs.Steps.{AreCheckedUnder}
use Rattle.jc_instrument.specs.declared.ready_class.ReadyClass.{ReadyClass}

-- the causes that are looked for before code is written, in their order
abbrev pub making_causes : ClassFile → List Cause
making_causes c = code_causes c ++ (early_room_causes c ++ (HasTooLargeCode c ∷ []))

-- What is planned stands for the bodies of the class under these names, whose code loads these constants, and none of those causes
-- refuses it.
pub record IsReadyClass (names : Names) (c : ClassFile) (r : ReadyClass) : Type 0 where
  pub bodies : List Body
  pub are : AreCheckedUnder names c bodies
  pub made : All IsWellMade bodies
  pub planned : ArePlanned names r.constants bodies r.bodies
  pub probes : r.probes ≡ all_probes bodies
  pub loads : AreConstants c r.probes r.bootstrap r.constants
  pub no_cause : NoCause (making_causes c)
