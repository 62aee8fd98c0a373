use Rattle.std.proofs.Common.{◌++◌, ◌∷◌, [], sym, ◌∙◌}
use Rattle.examples_methods.proofs.SlowLaws.{all_hits_none, all_hits_more}
use Rattle.examples_methods.proofs.slow_union.union_bits.Goals as goal

pub looking-init : goal.looking-init
looking-init c = c.new-bits.ensures.items ∙ all_hits_none c.args.records.now c.args.id

pub looking-preserved : goal.looking-preserved
looking-preserved c =
    c.in_ok-push.ensures.items
    ∙ (λ j. c.looking.invariant j ++ c.is_hit_in.ensures j ∷ [])
    ∙ sym (all_hits_more c.args.records.now c.args.id c.looking.index)
