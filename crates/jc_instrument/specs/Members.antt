-- The methods of a class, in which those with instrumented code have it.
use Rattle.std.specs.Prelude.{◌≡◌, ⊤, ℕ, ◌<◌, List, [], ◌∷◌, Some, slice_get}
use Rattle.std.specs.List.{AllByRecursion}
use Rattle.jc_pool.specs.Adding.{IsFirst}
use Rattle.jc_pool.specs.Lookup.{utf8_of}
use Rattle.jc_pool.specs.Pool.{PoolValue}
use Rattle.jc_class.specs.ClassFormat.{HasText}
use Rattle.jc_class.specs.Writable.{IsAttribute}
use Rattle.jc_class.specs.declared.class_file.Attribute.{Attribute}
use Rattle.jc_class.specs.declared.class_file.Member.{Member}
use Rattle.jc_body.specs.Coded.{code_bodies}
use Rattle.jc_instrument_code.specs.TwinCode.{lines_name, vars_name, kind_vars_name}
use Rattle.jc_instrument_code.specs.declared.code.CodePlaces.{CodePlaces}
use Rattle.jc_instrument.specs.Ready.{method_of}
use Rattle.jc_instrument.specs.declared.ready.PlannedBody.{PlannedBody}

-- ---- what the writing relies on

-- the method has one Code attribute (JVM Specification 4.7.3)
pub record HasOneCode (pool : PoolValue) (method : Member) : Type 0 where
  pub bytes : List ℕ
  pub single : code_bodies pool method ≡ bytes ∷ []

-- the names of the attributes stand in the pool
abbrev pub AreNamedIn : PoolValue → List Attribute → Type 0
AreNamedIn pool attributes = AllByRecursion (IsAttribute (HasText pool)) attributes

-- the method with this number is one of these, and has one Code attribute
pub record IsCoded (pool : PoolValue) (methods : List Member) (number : ℕ) : Type 0 where
  pub method : Member
  pub at : slice_get methods number ≡ Some method
  pub one : HasOneCode pool method
  pub named : AreNamedIn pool method.attributes

-- each is of a method with one Code attribute, in the order of the methods
abbrev pub AreCoded : PoolValue → List Member → List PlannedBody → Type 0
AreCoded pool methods [] = ⊤
AreCoded pool methods (p ∷ planned) =
    IsCoded pool methods (method_of p) × AllByRecursion (λ q. method_of p < method_of q) planned × AreCoded pool methods planned

-- ---- places of texts

-- if the text stands in the pool, it stands first at this place
abbrev pub IsFirstIfAny : PoolValue → List ℕ → ℕ → Type 0
IsFirstIfAny pool text place = (at : ℕ) → utf8_of pool at ≡ Some text → IsFirst (utf8_of pool) text place

-- the places of the texts that Code attributes name (JVM Specification 4.7.12 to 4.7.14)
pub record AreTextPlaces (pool : PoolValue) (places : CodePlaces) : Type 0 where
  pub lines : IsFirstIfAny pool lines_name places.lines
  pub vars : IsFirstIfAny pool vars_name places.vars
  pub kind_vars : IsFirstIfAny pool kind_vars_name places.kind_vars
