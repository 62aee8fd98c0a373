-- What `emit` refuses.
use Rattle.std.specs.Prelude.{◌≡◌, ℕ, ◌<◌, ◌≤◌, Some}
use Rattle.jc_methods.specs.declared.body.Body.{Body}
use Rattle.jc_bytes.specs.declared.refusal.Refusal.{Refusal}
use Rattle.jc_bytes.specs.declared.refusal.RefusalKind.{RefusalKind}
use Rattle.jc_emit.specs.Straddling.{IsEmitReason}

-- the refusal names the method, and the reason
pub record IsEmitRefusal (b : Body) (refusal : Refusal) : Type 0 where
  pub method_is : refusal.method ≡ Some b.method
  pub reason : IsEmitReason b refusal.kind refusal.place

-- there is no reason to refuse the body
abbrev pub IsTaken : Body → Type 0
IsTaken b = (kind : RefusalKind) (place : ℕ) → IsEmitReason b kind place → ⊥

-- there is a number left for one more local variable, and room on the stack for the operands of a probe
pub record HasRoom (b : Body) : Type 0 where
  pub locals : b.max_locals < 65535
  pub stack : b.max_stack ≤ 65532
