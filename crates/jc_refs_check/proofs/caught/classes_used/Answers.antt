use Rattle.std.proofs.Common.{List, take, sym, subst, ap, ◌∙◌, ◌∷◌, [], ◌++◌}
use Rattle.std.proofs.lemmas.List.{take_more}
use Rattle.jc_methods.specs.declared.body.Use.{Use}
use Rattle.jc_methods.proofs.MetNamesLaws.{grows_both}
use Rattle.jc_refs_check.specs.Unguarded.{AreUsedClasses}
use Rattle.jc_refs_check.proofs.caught.classes_used.Goals as goal

pub numbering-preserved : goal.numbering-preserved
numbering-preserved c =
    let i = c.numbering.entry-index in let uses = c.args.uses.now in let u = c.entry-item.result in
    let more = take_more uses i u c.numbering-test.true ∙ ap (λ (v : Use). take i uses ++ v ∷ []) (sym c.entry-item.is) in
    record {
      used = subst (λ (us : List Use). AreUsedClasses c.add_class.new.names us c.add_class.new.used) (sym more)
          (c.in_ok-add_class.ensures.used (take i uses) c.numbering.invariant.used);
      grown = grows_both _ _ _ c.numbering.invariant.grown c.add_class.ensures.names;
    }
