-- When accepted files are linked, but what was written of them isn't.
use Rattle.std.specs.Prelude.{◌≡◌, ℕ, ◌<◌, List, Some, slice_get}
use Rattle.jc_bytes.specs.declared.refusal.RefusalKind.TheVariants as kinds
use Rattle.jc_class.specs.ClassId.{class_id}
use Rattle.jc_class.specs.ClassText.{ClassText}
use Rattle.jc_class.specs.declared.class_file.ClassFile.{ClassFile}
use Rattle.jc_class.specs.declared.class_file.Member.{Member}
use Rattle.jc_body.specs.Coded.{IsCoded}
use Rattle.jc_body.specs.Faults.{TooWide}
use Rattle.jc_body.specs.declared.coded.Coded.{Coded}
use Rattle.jc_instrument.specs.Causes.{of_method}
use Rattle.jc_link_programs.specs.declared.link_refusal.LinkRefusal.{LinkRefusal}
use Rattle.jc_link_programs.specs.declared.link_refusal.LinkRefusal.TheVariants as refusals
use Rattle.jc_link_laws.specs.TwinFiles.{IsWrittenTwin}

-- a changed file at the place, and the text of its twin
pub record IsChangedAt (originals written : List (List ℕ)) (index : ℕ) (original text : List ℕ) : Type 0 where
  pub original_is : slice_get originals index ≡ Some original
  pub text_is : slice_get written index ≡ Some text
  pub twin : IsWrittenTwin original text

-- the code of the method with this number has more instructions times slots than the bound
pub record IsTooWide (c : ClassFile) (number : ℕ) : Type 0 where
  pub method : Member
  pub at : slice_get c.methods number ≡ Some method
  pub coded : Coded
  pub is : IsCoded c.pool method coded
  pub wide : TooWide coded 0

-- Either the new instructions and slots of a method of a twin are too many, or two changed classes have one id.
pub data IsSecondRefusal (originals written : List (List ℕ)) : LinkRefusal → Type 0 where
  too_wide : {index number : ℕ} (original text : List ℕ) (twin : ClassFile) → IsChangedAt originals written index original text → ClassText text twin
      → IsTooWide twin number → IsSecondRefusal originals written (refusals.Class index (of_method kinds.BadCode number 0))
  one_id : {first second : ℕ} (a b x y : List ℕ) → first < second → IsChangedAt originals written first a x → IsChangedAt originals written second b y
      → class_id a ≡ class_id b → IsSecondRefusal originals written (refusals.SameId first second)
