use Rattle.std.proofs.Common.{◌++◌, ◌∙◌, ap, refl, List, ℕ}
use Rattle.jc_exec.specs.Packed.{packed}
use Rattle.jc_exec.proofs.PackedLaws.{made_own, made_seen}
use Rattle.jc_exec.proofs.bits.Bits.new.Goals as goal

pub invariant_of-result : goal.invariant_of-result
invariant_of-result c = made_own _ c.args.bits.now c.put_bits.new.out.items
    (c.in_ok-put_bits.ensures ∙ ap (λ (l : List ℕ). l ++ packed c.args.bits.now) c.in_ok-bytes.ensures.items) refl

pub returns : goal.returns
returns c = made_seen _ c.args.bits.now c.put_bits.new.out.items
    (c.in_ok-put_bits.ensures ∙ ap (λ (l : List ℕ). l ++ packed c.args.bits.now) c.in_ok-bytes.ensures.items) refl
