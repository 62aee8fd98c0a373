use Rattle.std.proofs.Common.{◌≡◌, ◌+◌, ◌∷◌, [], ℕ, List, length, length-append, sym, ap, ◌∙◌, subst}
use Rattle.jc_machine_code.specs.declared.index.ClassIndex.{ClassIndex}
use Rattle.jc_machine_code.specs.Prepared.{Correspond}
use Rattle.jc_machine_code.specs.Sites.{IsMade, IsPreparedFrom}
use Rattle.jc_machine_code.proofs.CorrespondLaws.{BuiltTo, built_more, built_all}
use Rattle.jc_machine_code.proofs.PrepareLaws.{item_of}
use Rattle.jc_machine_code.proofs.prepare.prepared_classes.Goals as goal

pub prepared_class-requires : goal.prepared_class-requires
prepared_class-requires c =
    item_of IsMade c.as_slice-all.result.now c.args.index.now.classes c.preparing.members-index c.members-item.result c.as_slice-all.ensures c.preparing-test.true c.members-item.is c.requires.made

pub preparing-preserved : goal.preparing-preserved
preparing-preserved c =
    let number : c.len-class.result ≡ c.preparing.members-index = c.len-class.ensures ∙ c.preparing.invariant.0 in (
      ap length c.in_ok-push.ensures.ok ∙ length-append c.preparing.classes (c.in_ok-prepared_class.field-0 ∷ []) ∙ ap (λ (m : ℕ). m + 1) c.preparing.invariant.0,
      λ program index.
          subst (BuiltTo (IsPreparedFrom program) c.as_slice-all.result.now (c.preparing.members-index + 1)) (sym c.in_ok-push.ensures.ok)
          (built_more (IsPreparedFrom program) c.as_slice-all.result.now c.preparing.members-index c.preparing.classes c.members-item.result c.in_ok-prepared_class.field-0
          c.preparing-test.true c.members-item.is
          (subst (λ (k : ℕ). IsPreparedFrom program k c.members-item.result c.in_ok-prepared_class.field-0) number (c.in_ok-prepared_class.ensures program index))
          (c.preparing.invariant.1 program index)),
    )

pub returns : goal.returns
returns c = λ program index.
    subst (λ (all : List ClassIndex). Correspond (IsPreparedFrom program) all c.preparing.classes) c.as_slice-all.ensures
    (built_all (IsPreparedFrom program) c.as_slice-all.result.now c.preparing.members-index c.preparing.classes c.preparing-test.false c.preparing.auto.members-index-end
    (c.preparing.invariant.1 program index))
