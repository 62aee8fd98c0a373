-- The reasons for which a body isn't instrumented.
use Rattle.std.proofs.Common.{◌≡◌, ℕ, ◌+◌, ◌<◌, ◌≤◌, Some, None, ap, sym, ◌∙◌, arith}
use Rattle.jc_bytes.specs.Least.{IsLeast}
use Rattle.jc_methods.specs.declared.body.Body.{Body}
use Rattle.jc_bytes.specs.declared.refusal.RefusalKind.{RefusalKind}
use Rattle.jc_bytes.specs.declared.refusal.RefusalKind.TheVariants as refusals
use Rattle.jc_bytes.proofs.LeastLaws.{least_one}
use Rattle.jc_kinds.specs.StateShift.{IsStraddled}
use Rattle.jc_kinds.specs.Answers.{refusal_of}
use Rattle.jc_emit.specs.Straddling.{NoneStraddles, IsEmitReason}

module _ (b : Body) where
  -- where one straddles
  pub straddling_each : (p : ℕ) → IsLeast (IsStraddled b) p → (kind : RefusalKind) (place : ℕ) → IsEmitReason b kind place
      → Some (refusal_of b refusals.StraddlingLocal p) ≡ Some (refusal_of b kind place)
  straddling_each p is refusals.StraddlingLocal place r = ap (λ q. Some (refusal_of b refusals.StraddlingLocal q)) (least_one (IsStraddled b) p place is r)
  straddling_each p is refusals.LocalsFull place r = absurd (r.0 p is.there)
  straddling_each p is refusals.StackFull place r = absurd (r.0 p is.there)
  straddling_each p is kind place r = absurd r

  -- where none does and no number is left
  pub locals_each : NoneStraddles b → b.max_locals ≡ 65535 → (kind : RefusalKind) (place : ℕ) → IsEmitReason b kind place
      → Some (refusal_of b refusals.LocalsFull 65536) ≡ Some (refusal_of b kind place)
  locals_each clear full refusals.StraddlingLocal place r = absurd (clear place r.there)
  locals_each clear full refusals.LocalsFull place r = ap (λ q. Some (refusal_of b refusals.LocalsFull q)) (sym r.2)
  locals_each clear full refusals.StackFull place r = let lt = r.1 in absurd (omega (arith, full, lt))
  locals_each clear full kind place r = absurd r

  -- where there is a number, and no room on the stack
  pub stack_each : NoneStraddles b → b.max_locals < 65535 → (slots : ℕ) → slots ≡ b.max_stack + 3 → (kind : RefusalKind) (place : ℕ)
      → IsEmitReason b kind place → Some (refusal_of b refusals.StackFull slots) ≡ Some (refusal_of b kind place)
  stack_each clear few slots is refusals.StraddlingLocal place r = absurd (clear place r.there)
  stack_each clear few slots is refusals.LocalsFull place r = let full = r.1 in absurd (omega (arith, full, few))
  stack_each clear few slots is refusals.StackFull place r = ap (λ q. Some (refusal_of b refusals.StackFull q)) (is ∙ sym r.3)
  stack_each clear few slots is kind place r = absurd r

  -- where there is room
  pub none_each : NoneStraddles b → b.max_locals < 65535 → b.max_stack ≤ 65532 → (kind : RefusalKind) (place : ℕ) → IsEmitReason b kind place
      → None ≡ Some (refusal_of b kind place)
  none_each clear few low refusals.StraddlingLocal place r = absurd (clear place r.there)
  none_each clear few low refusals.LocalsFull place r = let full = r.1 in absurd (omega (arith, full, few))
  none_each clear few low refusals.StackFull place r = let high = r.2 in absurd (omega (arith, high, low))
  none_each clear few low kind place r = absurd r
