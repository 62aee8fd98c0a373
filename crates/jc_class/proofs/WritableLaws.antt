-- What was read can be written.
use Rattle.std.proofs.Common.{◌≡◌, ℕ, List, [], ◌++◌, Result, Ok, Err, IfOk, ◌∙◌, ap, subst}
use Rattle.jc_bytes.specs.Appending.{Appends}
use Rattle.jc_bytes.specs.ByteLists.{AreBytes}
use Rattle.jc_bytes.specs.declared.fail.Fail.{Fail}
use Rattle.jc_bytes.specs.declared.refusal.Refusal.{Refusal}
use Rattle.jc_class.specs.declared.class_file.ClassFile.{ClassFile}
use Rattle.jc_class.specs.ClassText.{ClassText}
use Rattle.jc_class.specs.Writable.{IsClassFile}
use Rattle.jc_class.proofs.ReadClassLaws.{class_read}
use Rattle.jc_class.proofs.OneClassLaws.{one_class}

pub class_holds : (text : List ℕ) (c : ClassFile) → AreBytes text → ClassText text c → IsClassFile c
class_holds text c are t = (class_read text c are t).holds

pub wholes : (r : Result ClassFile (Fail Refusal)) (bytes : List ℕ) → AreBytes bytes → IfOk r (ClassText bytes) → IfOk r IsClassFile
wholes (Ok c) bytes are text = class_holds bytes c are text
wholes (Err e) bytes are text = tt

-- what was written behind nothing is the one text of the class
pub written_back : (c : ClassFile) (old new : List ℕ) → old ≡ [] → Appends (λ text. ClassText text c) old new → AreBytes new → (text : List ℕ) → AreBytes text → ClassText text c → new ≡ text
written_back c old new none a are text bytes spells =
    let whole : new ≡ a.text = a.parts ∙ ap (λ (l : List ℕ). l ++ a.text) none in
    whole ∙ one_class.same a.text text c (subst AreBytes whole are) bytes a.spells spells
