use Rattle.std.proofs.Common.{rules, tests}
use Rattle.std.proofs.lemmas.Iterator.{YieldsList-from_slice}
use Rattle.jc_methods.specs.InsnUse.{LocalsWithin}
use Rattle.jc_body.proofs.FirstLaws.{first_by_position}
use Rattle.jc_body.proofs.checks.first_local_outside.Goals as goal

pub returns : goal.returns
returns c = first_by_position (λ insn. LocalsWithin c.args.max_locals insn → ⊥) _ _ _ c.position.ensures.ran
    (YieldsList-from_slice c.args.insns.now c.iter.ensures.rest) (λ y q k. search (rules, tests)) (λ y q k. search (rules, tests))
