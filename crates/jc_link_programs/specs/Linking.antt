-- The program of class files, or why they have none.
use Rattle.std.specs.Prelude.{◌≡◌, ⊤, ℕ, ◌<◌, List, [], ◌∷◌, Option, Some, None, All, slice_get}
use Rattle.jc_bytes.specs.declared.refusal.Refusal.{Refusal}
use Rattle.jc_methods.specs.VerificationTypes.{Names}
use Rattle.jc_programs.specs.declared.program.Program.{Program}
use Rattle.jc_programs.specs.declared.program.Linked.{Linked}
use Rattle.jc_programs.specs.declared.program.ProbeInit.{ProbeInit}
use Rattle.jc_pool.specs.Lookup.{class_name_of}
use Rattle.jc_class.specs.declared.class_file.ClassFile.{ClassFile}
use Rattle.jc_class.specs.ClassText.{ClassText}
use Rattle.jc_instrument.specs.Causes.{Cause, NoCause}
use Rattle.jc_instrument.specs.Reasons.{WrongVersion, code_causes, ReasonBy}
use Rattle.jc_instrument.specs.Steps.{AreCheckedUnder, HasStates}
use Rattle.jc_link_programs.specs.Pairs.{HaveOneName, HaveOneId, NoPair, IsFirstPair}
use Rattle.jc_link_programs.specs.ProbeInits.{AreProbes}
use Rattle.jc_link_programs.specs.Statics.{statics_of, has_clinit}
use Rattle.jc_link_programs.specs.declared.link_refusal.LinkClash.{LinkClash}
use Rattle.jc_link_programs.specs.declared.link_refusal.LinkClash.TheVariants as clashes
use Rattle.jc_link_programs.specs.declared.link_refusal.LinkRefusal.{LinkRefusal}
use Rattle.jc_link_programs.specs.declared.link_refusal.LinkRefusal.TheVariants as refusals

-- ---- a linked class

-- Why a class file isn't linked: its version, then a subroutine instruction, bad code, a missing frame, or states that
-- don't fit, whatever class it is.
abbrev pub link_causes : ClassFile → List Cause
link_causes c = WrongVersion c ∷ code_causes c

-- why bytes aren't linked, if they aren't
abbrev pub LinkReason : List ℕ → Option Refusal → Type 0
LinkReason = ReasonBy link_causes

-- what is linked of a class file, with the classes of its frames by their numbers in the list of names
pub record IsLinkedOf (names : Names) (file : ClassFile) (linked : Linked) : Type 0 where
  pub name : class_name_of file.pool file.this_class ≡ Some linked.name
  pub version : linked.version ≡ file.major
  -- the bodies of its methods, each of which passes the kind check
  pub bodies : AreCheckedUnder names file linked.bodies
  pub states : All (HasStates names) linked.bodies
  pub statics : linked.statics ≡ statics_of file
  pub clinit : linked.has_clinit ≡ has_clinit file
  pub probes : AreProbes file linked.name linked.bodies linked.probes

-- the bytes are a class file that no cause refuses, and this is linked of it
pub record IsLinkedClass (names : Names) (bytes : List ℕ) (linked : Linked) : Type 0 where
  pub file : ClassFile
  pub text : ClassText bytes file
  pub no_cause : NoCause (link_causes file)
  pub is : IsLinkedOf names file linked

-- one class for each file, in their order
abbrev pub AreLinkedClasses : Names → List (List ℕ) → List Linked → Type 0
AreLinkedClasses names [] [] = ⊤
AreLinkedClasses names (bytes ∷ files) (linked ∷ classes) = IsLinkedClass names bytes linked × AreLinkedClasses names files classes
AreLinkedClasses names _ _ = ⊥

-- ---- programs

-- the program of files: a class for each, no two of one name, and no two whose probes have one id
pub record IsProgramOf (files : List (List ℕ)) (p : Program) : Type 0 where
  pub classes : AreLinkedClasses p.names files p.classes
  pub one_each : NoPair (HaveOneName p.classes)
  pub ids : NoPair (HaveOneId p.classes)

-- the file isn't linked, and those before it are
pub record IsFirstRefused (files : List (List ℕ)) (index : ℕ) (refusal : Refusal) : Type 0 where
  pub bytes : List ℕ
  pub stands : slice_get files index ≡ Some bytes
  pub reason : LinkReason bytes (Some refusal)
  pub linked : (k : ℕ) (before : List ℕ) → k < index → slice_get files k ≡ Some before → LinkReason before None

-- Why files have no program: a class that isn't linked, then two of one name, then two whose probes have one id.
pub data IsLinkRefusal (files : List (List ℕ)) : LinkRefusal → Type 0 where
  refused : {index : ℕ} {refusal : Refusal} → IsFirstRefused files index refusal → IsLinkRefusal files (refusals.Class index refusal)
  one_name : {first second : ℕ} (names : Names) (classes : List Linked) → AreLinkedClasses names files classes
      → IsFirstPair (HaveOneName classes) first second → IsLinkRefusal files (refusals.SameName first second)
  one_id : {first second : ℕ} (names : Names) (classes : List Linked) → AreLinkedClasses names files classes
      → NoPair (HaveOneName classes) → IsFirstPair (HaveOneId classes) first second → IsLinkRefusal files (refusals.SameId first second)

-- ---- what two files have in common

-- the file at the index is of a class with this name
pub record HasName (files : List (List ℕ)) (index : ℕ) (name : List ℕ) : Type 0 where
  pub names : Names
  pub bytes : List ℕ
  pub linked : Linked
  pub stands : slice_get files index ≡ Some bytes
  pub is : IsLinkedClass names bytes linked
  pub named : name ≡ linked.name

-- the probes of the class of the file at the index have this id
pub record HasId (files : List (List ℕ)) (index : ℕ) (id : ℕ) : Type 0 where
  pub names : Names
  pub bytes : List ℕ
  pub linked : Linked
  pub init : ProbeInit
  pub stands : slice_get files index ≡ Some bytes
  pub is : IsLinkedClass names bytes linked
  pub probes : linked.probes ≡ Some init
  pub id_is : id ≡ init.id

abbrev pub HaveInCommon : List (List ℕ) → LinkClash → Type 0
HaveInCommon files (clashes.Class index refusal) = ⊤
HaveInCommon files (clashes.SameName first second name) = HasName files first name
HaveInCommon files (clashes.SameId first second id) = HasId files first id

-- the reason alone
abbrev pub plain : LinkClash → LinkRefusal
plain (clashes.Class index refusal) = refusals.Class index refusal
plain (clashes.SameName first second name) = refusals.SameName first second
plain (clashes.SameId first second id) = refusals.SameId first second

-- why files have no program, with what two of them have in common
pub record IsLinkClash (files : List (List ℕ)) (clash : LinkClash) : Type 0 where
  pub refusal : IsLinkRefusal files (plain clash)
  pub common : HaveInCommon files clash
