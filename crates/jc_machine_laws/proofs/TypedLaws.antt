-- References by a typing.
use Rattle.std.proofs.Common.{ℕ, List, refl}
use Rattle.jc_methods.specs.declared.body.Body.{Body}
use Rattle.jc_methods.specs.VerificationTypes.{VerificationType}
use Rattle.jc_methods.specs.VerificationTypes as verification
use Rattle.jc_machine_model.specs.Values.{Value}
use Rattle.jc_machine_model.specs.Heap.{HeapObject}
use Rattle.jc_machine_model.specs.Fits.{Typing, IsReference, any_reference, made_in}
use Rattle.jc_machine_laws.specs.Typings.{IsHolding}

-- which references a type of references holds: no other values, and null
pub record References : Type 1 where
  pub holds : Value → VerificationType → Type 0
  pub reference : (v : Value) (h : VerificationType) → holds v h → IsReference v
  pub null_is : holds Value.null verification.null

abbrev pub any_references : References
any_references = record { holds = any_reference; reference = λ v h p. p; null_is = refl }

-- a typing whose references go where their types do, along a relation of types
pub record HoldingTyping : Type 1 where
  pub typing : Typing
  pub passes : VerificationType → VerificationType → Type 0
  pub holding : IsHolding typing passes

-- which references the types of a body hold, in a heap
abbrev pub held_in : HoldingTyping → List HeapObject → (ℕ → List ℕ) → References
held_in ty heap made = record {
  holds = ty.typing.holds heap made;
  reference = λ v h. ty.holding.reference heap made v h;
  null_is = ty.holding.null_is heap made;
}

-- the same in a body of which the `new` at a place makes objects of a class
abbrev pub holds_in : HoldingTyping → List HeapObject → Body → Value → VerificationType → Type 0
holds_in ty heap b = ty.typing.holds heap (made_in b)

abbrev pub references_in : HoldingTyping → List HeapObject → Body → References
references_in ty heap b = held_in ty heap (made_in b)
