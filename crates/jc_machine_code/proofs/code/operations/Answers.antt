use Rattle.std.proofs.Common.{◌≡◌, ◌+◌, ◌∷◌, [], ℕ, length, length-append, refl, sym, ap, ◌∙◌, subst}
use Rattle.jc_machine_code.specs.Prepared.{TellsInsn}
use Rattle.jc_machine_code.proofs.CorrespondLaws.{BuiltTo, built_more, built_all}
use Rattle.jc_machine_code.proofs.SiteLaws.{at_place, site_at}
use Rattle.jc_machine_code.proofs.code.operations.Goals as goal

pub preparing-preserved : goal.preparing-preserved
preparing-preserved c =
    let number : c.len-place.result ≡ c.preparing.insn-index = c.len-place.ensures ∙ c.preparing.invariant.0 in (
      ap length c.in_ok-push.ensures.ok ∙ length-append c.preparing.operations (c.prepared.result ∷ []) ∙ ap (λ (m : ℕ). m + 1) c.preparing.invariant.0,
      λ program at site.
          subst (BuiltTo (TellsInsn program at.class at.linked at.body) c.args.code.now (c.preparing.insn-index + 1)) (sym c.in_ok-push.ensures.ok)
          (built_more (TellsInsn program at.class at.linked at.body) c.args.code.now c.preparing.insn-index c.preparing.operations c.insn-item.result
          c.prepared.result c.preparing-test.true c.insn-item.is
          (subst (λ (k : ℕ). TellsInsn program at.class at.linked at.body k c.insn-item.result c.prepared.result) number
          (c.prepared.ensures program (at_place at c.len-place.result) (site_at program at c.args.site.now c.len-place.result site) refl))
          (c.preparing.invariant.1 program at site)),
    )

pub returns : goal.returns
returns c = λ program at site.
    built_all (TellsInsn program at.class at.linked at.body) c.args.code.now c.preparing.insn-index c.preparing.operations c.preparing-test.false
    c.preparing.auto.insn-index-end (c.preparing.invariant.1 program at site)
