use Rattle.std.proofs.Common.{◌≡◌, subst}
use Rattle.jc_methods.specs.Flow.{flow_of}
use Rattle.jc_methods.specs.Insn.{IsWellFormed}
use Rattle.jc_methods.specs.declared.insn.Insn.{Insn}
use Rattle.jc_methods.specs.declared.insn.Flow.TheVariants as flows
use Rattle.jc_emit.proofs.ConditionalBranchLaws.{test_op}
use Rattle.jc_emit.proofs.image.inverted.Goals as goal

pub inverse-requires : goal.inverse-requires
inverse-requires c =
    test_op c.in-Jump.op c.in-Jump.to (subst IsWellFormed c.in-Jump.is c.requires.formed)
    (subst (λ (insn : Insn). flow_of insn ≡ flows.Branches) c.in-Jump.is c.requires.test)
