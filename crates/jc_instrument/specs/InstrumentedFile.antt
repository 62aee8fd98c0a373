-- What a class file becomes that is instrumented, or stays as it is.
use Rattle.std.specs.Prelude.{◌≡◌, ℕ, Bool, true, false, List, Some}
use Rattle.jc_bytes.specs.ByteLists.{AreBytes}
use Rattle.jc_methods.specs.VerificationTypes.{Names}
use Rattle.jc_pool.specs.Lookup.{class_name_of}
use Rattle.jc_class.specs.ClassId.{class_id}
use Rattle.jc_class.specs.ClassText.{ClassText}
use Rattle.jc_class.specs.declared.class_file.ClassFile.{ClassFile}
use Rattle.jc_plan.specs.Analysed.{all_probes}
use Rattle.jc_instrument.specs.Causes.{NoCause}
use Rattle.jc_instrument.specs.LeftAlone.{is_left_alone}
use Rattle.jc_instrument.specs.Refused.{probe_causes}
use Rattle.jc_instrument.specs.TwinText.{IsWritten}
use Rattle.jc_instrument.specs.BodiesWithStates.{BodyWithStates, bodies_of}
use Rattle.jc_instrument.specs.declared.whole.Instrumented.{Instrumented}

-- The bytes are the text of the twin class that is written for the class with this id. There are as many probes as the
-- bodies of the class have probed edges.
pub record HasProbes (id : ℕ) (c : ClassFile) (a : Instrumented) : Type 0 where
  pub names : Names
  pub array : ℕ
  pub works : List BodyWithStates
  pub twin : ClassFile
  pub written : IsWritten id names array works c twin
  pub are_bytes : AreBytes a.bytes
  pub text : ClassText a.bytes twin
  pub probes : a.probes ≡ all_probes (bodies_of works)
  pub changed : a.changed ≡ true

-- the bytes stay, and have no probes
pub record IsAsGiven (bytes : List ℕ) (a : Instrumented) : Type 0 where
  pub same : a.bytes ≡ bytes
  pub probes : a.probes ≡ 0
  pub changed : a.changed ≡ false

-- whether the class stays as it is
abbrev pub Becomes : Bool → List ℕ → ClassFile → Instrumented → Type 0
Becomes true bytes c a = IsAsGiven bytes a
Becomes false bytes c a = HasProbes (class_id bytes) c a

-- the bytes are a class file that no cause refuses, and this is what it becomes, with its id and the name of its class
pub record IsInstrumentedFile (bytes : List ℕ) (a : Instrumented) : Type 0 where
  pub file : ClassFile
  pub text : ClassText bytes file
  pub no_cause : NoCause (probe_causes (class_id bytes) file)
  pub id : a.id ≡ class_id bytes
  pub name : class_name_of file.pool file.this_class ≡ Some a.name
  pub becomes : Becomes (is_left_alone file) bytes file a
