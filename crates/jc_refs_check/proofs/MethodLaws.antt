-- A method that is checked is one of a program: it is well made, and passes the kind check.
use Rattle.std.proofs.Common.{◌≡◌, ℕ, length}
use Rattle.std.specs.List.{All}
use Rattle.std.proofs.lemmas.List.Elements.{All-contains}
use Rattle.jc_bytes.proofs.BooleanLaws.{stands_in}
use Rattle.jc_methods.specs.VerificationTypes.{Names, AreNumberedFrames, Grows}
use Rattle.jc_methods.specs.declared.kind.Kind.TheVariants as kinds
use Rattle.jc_methods.specs.WellMade.{IsWellMade, IsKind}
use Rattle.jc_methods.proofs.NumberedLaws.{grown_count, frames_numbered}
use Rattle.jc_methods.proofs.MetNamesLaws.{grows_both}
use Rattle.jc_kinds.specs.Checked.{Checked}
use Rattle.jc_machine_model.specs.Programs.{IsProgramBody, IsLinked}
use Rattle.jc_refs_check.specs.declared.operands.CheckedMethod.{CheckedMethod}
use Rattle.jc_refs_check.specs.KindNeeds.{IsCheckedMethod}
use Rattle.jc_machine_model.specs.Profile.{made_class, make_operation}
use Rattle.jc_machine_model.specs.Fits.{made_in}
use Rattle.jc_refs_check.specs.RefsOk.{operation_of_place}
use Rattle.jc_refs_check.proofs.OperationLaws.{Fine, fine_there, new_there}
use Rattle.jc_refs_check.proofs.MemberTypeLaws.{types_grown}

module _ (names : Names) (m : CheckedMethod) (ok : IsCheckedMethod names m) where
  body_ok : IsProgramBody m.program.now.names m.body.now
  body_ok = All-contains (IsProgramBody m.program.now.names) ok.linked.bodies m.body.now
      (All-contains (IsLinked m.program.now.names) m.program.now.classes ok.linked ok.program.classes (stands_in m.program.now.classes m.method.class ok.linked ok.class_is)).bodies
      (stands_in ok.linked.bodies m.method.method m.body.now ok.body_is)

  pub method_made : IsWellMade m.body.now
  method_made = body_ok.well_made

  pub method_checked : Checked m.program.now.names m.body.now
  method_checked = body_ok.checked

  pub method_frames : AreNumberedFrames (length m.program.now.names) m.body.now.frames
  method_frames = body_ok.numbered

  -- the same under the names that there are now
  pub frames_now : AreNumberedFrames (length names) m.body.now.frames
  frames_now = frames_numbered (length m.program.now.names) (length names) m.body.now.frames (grown_count m.program.now.names names ok.grown) method_frames

  -- what a `new` of the method makes
  pub made_there : (at : ℕ) → IsKind m.body.now.code (kinds.Uninit at) → operation_of_place m.program.now m.method at ≡ make_operation (made_class (made_in m.body.now at))
  made_there at new = new_there m.program.now m.method ok.linked m.body.now at new.0 ok.class_is ok.body_is method_made.of_any_size.uses new.1

  pub method_fine : (at : ℕ) → Fine m.program.now m.body.now (operation_of_place m.program.now m.method at)
  method_fine at = fine_there m.program.now m.method ok.linked m.body.now at ok.class_is ok.body_is method_made.of_any_size.uses

-- it stays one under more names
pub method_grown : (old new : Names) (m : CheckedMethod) → Grows old new → IsCheckedMethod old m → IsCheckedMethod new m
method_grown old new m g ok = record {
  program = ok.program;
  operations = ok.operations;
  types = types_grown old new m.program.now m.types.now g ok.types;
  linked = ok.linked;
  class_is = ok.class_is;
  body_is = ok.body_is;
  grown = grows_both m.program.now.names old new ok.grown g;
}
