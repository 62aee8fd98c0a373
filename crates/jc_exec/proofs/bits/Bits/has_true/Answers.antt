use Rattle.std.proofs.Common.{◌==◌, not, ℕ, Bool, ◌∙◌, ap}
use Rattle.std.specs.List.{list_any}
use Rattle.jc_exec.specs.Packed.{unpack}
use Rattle.jc_exec.proofs.PackedLaws.{any_packed}
use Rattle.jc_exec.proofs.bits.Bits.has_true.Goals as goal

pub returns : goal.returns
returns c =
    c.has_some.ensures
    ∙ ap (list_any (λ (b : ℕ). not (b == 0))) (c.deref.ensures.value ∙ c.self.invariant)
    ∙ any_packed (unpack c.self.inside.count c.self.inside.bytes.items)
    ∙ ap (list_any (λ (b : Bool). b)) c.self.view_is
