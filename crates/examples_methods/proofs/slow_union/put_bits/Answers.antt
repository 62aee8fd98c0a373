use Rattle.std.proofs.Common.{◌++◌, ◌∷◌, [], List, ℕ, sym, ◌∙◌, ap, append_assoc}
use Rattle.jc_exec.specs.Writing.{pack}
use Rattle.examples_methods.proofs.SlowLaws.{pack_more}
use Rattle.examples_methods.proofs.slow_union.put_bits.Goals as goal

pub packing-preserved : goal.packing-preserved
packing-preserved c =
    c.in_ok-push.ensures.items
    ∙ (λ j. c.packing.invariant j ++ c.byte_at.ensures j ∷ [])
    ∙ append_assoc c.args.out.now.items (pack c.packing.byte c.args.bits.now) _
    ∙ ap (λ (l : List ℕ). c.args.out.now.items ++ l) (sym (pack_more c.packing.byte c.args.bits.now))
