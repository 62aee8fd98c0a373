-- The bodies of a class, by all of its causes.
use Rattle.std.proofs.Common.{◌≡◌, Bool, false, List, ◌++◌, length, sym, subst}
use Rattle.std.specs.Prelude.{All}
use Rattle.std.proofs.lemmas.Option.{slice_get-get_or}
use Rattle.jc_methods.specs.VerificationTypes.{Names, AreNumberedFrames, Grows}
use Rattle.jc_methods.specs.declared.body.Body.{Body}
use Rattle.jc_bytes.specs.declared.refusal.Refusal.{Refusal}
use Rattle.jc_class.specs.declared.class_file.ClassFile.{ClassFile}
use Rattle.jc_kinds.specs.Checked.{Checked}
use Rattle.jc_instrument.specs.Bodies.{AreBodies}
use Rattle.jc_instrument.specs.Causes.{Cause, IsFirstCause, NoCause, unless}
use Rattle.jc_instrument.specs.LeftAlone.{is_left_alone}
use Rattle.jc_instrument.specs.Reasons.{class_causes, interface_causes, method_causes, frame_causes, code_causes, analysis_causes}
use Rattle.jc_instrument.specs.Steps.{IsFrameRefusal, AreCheckedUnder, AreCheckedBodies}
use Rattle.jc_instrument.proofs.CauseLaws.{first_behind, none_in_both}
use Rattle.jc_instrument.proofs.FrameCauseLaws.{frame_refused, no_frame_cause, no_method_cause}
use Rattle.jc_instrument.proofs.ListedLaws.{grown_bodies}

-- ---- the bodies of methods

-- the classes in the frames of bodies have numbers of the list of names
pub bodies_numbered : (names : Names) (c : ClassFile) (bodies : List Body) → AreBodies names c bodies → All (λ b. AreNumberedFrames (length names) b.frames) bodies
bodies_numbered names c bodies are = λ k d less. (are.each k _ (slice_get-get_or bodies k d less)).is.parts.numbers

pub check_refused : (old new : Names) (c : ClassFile) (bodies : List Body) (r : Refusal) → Grows old new → AreBodies old c bodies → IsFrameRefusal new bodies r → IsFirstCause (code_causes c) r
check_refused old new c bodies r grows are refusal =
    let now = grown_bodies old new c (length c.methods) bodies grows are in
    first_behind (method_causes c) (frame_causes c) r (no_method_cause new c bodies now) (frame_refused new c bodies now r refusal)

pub checked_under : (old new : Names) (c : ClassFile) (bodies : List Body) → Grows old new → AreBodies old c bodies → All (Checked new) bodies → AreCheckedUnder new c bodies
checked_under old new c bodies grows are checked = record { are = grown_bodies old new c (length c.methods) bodies grows are; checked = checked }

pub no_code_cause : (c : ClassFile) (bodies : List Body) → AreCheckedBodies c bodies → NoCause (code_causes c)
no_code_cause c bodies are =
    none_in_both (method_causes c) (frame_causes c) (no_method_cause are.names c bodies are.are) (no_frame_cause are.names c bodies are.are are.checked)

-- ---- the bodies of the class

abbrev later : ClassFile → List Cause
later c = interface_causes c ++ code_causes c

pub no_cause_checked : (c : ClassFile) (bodies : List Body) → is_left_alone c ≡ false → NoCause (class_causes c) → NoCause (interface_causes c)
    → AreCheckedBodies c bodies → NoCause (analysis_causes c)
no_cause_checked c bodies changes none no_interface are =
    none_in_both (class_causes c) (unless (is_left_alone c) (later c)) none
    (subst (λ (t : Bool). NoCause (unless t (later c))) (sym changes) (none_in_both (interface_causes c) (code_causes c) no_interface (no_code_cause c bodies are)))
