-- What the check finds of a method and of a class.
use Rattle.std.specs.Prelude.{◌≡◌, ℕ, ◌<◌, length, true, Some, slice_get}
use Rattle.jc_bytes.specs.declared.fail.Fail.TheVariants as fails
use Rattle.jc_methods.specs.declared.body.Body.{Body}
use Rattle.jc_programs.specs.declared.program.Program.{Program}
use Rattle.jc_programs.specs.declared.program.Linked.{Linked}
use Rattle.jc_programs.specs.declared.run_end.Entry.{Entry}
use Rattle.jc_machine_model.specs.Methods.{is_enterable}
use Rattle.jc_refs_check.specs.declared.ref_refusal.RefRefusal.{RefRefusal}
use Rattle.jc_refs_check.specs.RefsOk.{IsSuited}
use Rattle.jc_refs_check.specs.Answers.{ref_refusal_of}

-- each reference suits what takes it, at each instruction of the method
abbrev pub IsMethodOk : Program → Entry → Body → Type 0
IsMethodOk program method b = (i : ℕ) → i < length b.code → IsSuited program method b i

-- the refusal names the first instruction of the method that isn't suited
pub record IsMethodRefusal (program : Program) (method : Entry) (b : Body) (refusal : RefRefusal) : Type 0 where
  pub place : ℕ
  pub within : place < length b.code
  pub fails : IsSuited program method b place → ⊥
  pub before : (i : ℕ) → i < place → IsSuited program method b i
  pub refusal_is : refusal ≡ ref_refusal_of method b place

-- the same of a method that threads may enter
pub record IsEnteredRefusal (program : Program) (method : Entry) (linked : Linked) (b : Body) (refusal : RefRefusal) : Type 0 where
  pub enterable : is_enterable linked b ≡ true
  pub refused : IsMethodRefusal program method b refusal

abbrev pub method_entry : (class method : ℕ) → Entry
method_entry class method = record { class = class; method = method }

-- the first so many methods of the class that threads may enter pass
abbrev pub AreMethodsOk : Program → (class : ℕ) → Linked → ℕ → Type 0
AreMethodsOk program class linked count =
    (method : ℕ) (b : Body) → method < count → slice_get linked.bodies method ≡ Some b → is_enterable linked b ≡ true → IsMethodOk program (method_entry class method) b

-- the refusal is of the first method that doesn't pass
pub record IsClassRefusal (program : Program) (class : ℕ) (linked : Linked) (refusal : RefRefusal) : Type 0 where
  pub method : ℕ
  pub body : Body
  pub body_is : slice_get linked.bodies method ≡ Some body
  pub enterable : is_enterable linked body ≡ true
  pub refused : IsMethodRefusal program (method_entry class method) body refusal
  pub before : AreMethodsOk program class linked method

-- the methods of the first so many classes pass
abbrev pub AreClassesOk : Program → ℕ → Type 0
AreClassesOk program count = (class : ℕ) (linked : Linked) → class < count → slice_get program.classes class ≡ Some linked → AreMethodsOk program class linked (length linked.bodies)
