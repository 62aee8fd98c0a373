use Rattle.std.proofs.Common.{List, Option, ℕ, ◌++◌, [], ◌∷◌, ap, ap₂, sym, ◌∙◌, arith}
use Rattle.std.proofs.lemmas.List.{map_more}
use Rattle.jc_refs_check.specs.Unguarded.{class_at}
use Rattle.jc_refs_check.proofs.columns.classes_of.Goals as goal

pub taking-preserved : goal.taking-preserved
taking-preserved c =
    c.in_ok-push.ensures.items
    ∙ ap₂ (λ (l : List (Option ℕ)) (x : Option ℕ). l ++ x ∷ []) c.taking.invariant (c.class_at.ensures ∙ ap (class_at c.args.slot) c.state-item.is)
    ∙ sym (map_more (class_at c.args.slot) c.args.states.now c.taking.state-index c.state-item.result (omega arith))
