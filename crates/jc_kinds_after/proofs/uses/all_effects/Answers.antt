use Rattle.std.proofs.Common.{List, take, sym, subst, ap, ◌∙◌, ◌∷◌, [], ◌++◌}
use Rattle.std.proofs.lemmas.List.{take_more}
use Rattle.jc_methods.specs.declared.body.Use.{Use}
use Rattle.jc_methods.proofs.MetNamesLaws.{grows_both}
use Rattle.jc_kinds_after.specs.Does.{AllSay}
use Rattle.jc_kinds_after.proofs.uses.all_effects.Goals as goal

pub reading-preserved : goal.reading-preserved
reading-preserved c =
    let i = c.reading.entry-index in let uses = c.args.uses.now in let u = c.entry-item.result in
    let more = take_more uses i u c.reading-test.true ∙ ap (λ (v : Use). take i uses ++ v ∷ []) (sym c.entry-item.is) in
    record {
      said = subst (λ (us : List Use). AllSay c.add_effect.new.names us c.add_effect.new.effects) (sym more)
          (c.in_ok-add_effect.ensures.effects (take i uses) c.reading.invariant.said);
      grown = grows_both _ _ _ c.reading.invariant.grown c.add_effect.ensures.names;
    }
