-- Worlds looked at by classes: which references may stand where the kind check says a type of references.
use Rattle.std.specs.Prelude.{◌≡◌, ◌⊎◌, ℕ, true, List, Some}
use Rattle.jc_methods.specs.VerificationTypes.{VerificationType}
use Rattle.jc_methods.specs.VerificationTypes as verification
use Rattle.jc_programs.specs.declared.program.Program.{Program}
use Rattle.jc_machine_model.specs.Values.{Value, null}
use Rattle.jc_machine_model.specs.Heap.{HeapObject}
use Rattle.jc_machine_model.specs.Methods.{is_enterable}
use Rattle.jc_machine_model.specs.World.{World}
use Rattle.jc_machine_model.specs.Fits.{Typing, FitsWorldBy}
use Rattle.jc_refs_check.specs.Suits.{class_suits}
use Rattle.jc_refs_check.specs.Needs.{is_throwable}
use Rattle.jc_refs_check.specs.Wrong.{class_of}

-- it refers to something whose class suits this one
pub record IsOfClass (heap : List HeapObject) (v : Value) (name : List ℕ) : Type 0 where
  pub class : List ℕ
  pub is : class_of heap v ≡ Some class
  pub suits : class_suits class name ≡ true

-- it refers to a throwable of just this class
pub record IsFresh (heap : List HeapObject) (v : Value) (name : List ℕ) : Type 0 where
  pub is : class_of heap v ≡ Some name
  pub thrown : is_throwable name ≡ true

-- An object before its constructor is of just the class that its `new` makes. No reference is `this` before a constructor: the
-- machine enters static methods alone.
abbrev pub HoldsClass : List HeapObject → (ℕ → List ℕ) → Value → VerificationType → Type 0
HoldsClass heap made v verification.null = v ≡ null
HoldsClass heap made v (verification.object name) = (v ≡ null) ⊎ IsOfClass heap v name
HoldsClass heap made v (verification.uninit at) = IsFresh heap v (made at)
HoldsClass heap made v _ = ⊥

abbrev pub by_class : Typing
by_class = record { enters = is_enterable; holds = HoldsClass }

-- the world fits the program, and each reference is of a class that suits the type of its place
abbrev pub FitsByClass : Program → World → Type 0
FitsByClass program w = FitsWorldBy by_class program w
