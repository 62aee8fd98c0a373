use Rattle.std.proofs.Common.{rules, tests}
use Rattle.std.proofs.lemmas.Iterator.{YieldsList-from_slice}
use Rattle.jc_body.specs.Standing.{HasRightEntry}
use Rattle.jc_body.proofs.FirstLaws.{first_by_position}
use Rattle.jc_body.proofs.checks.first_wrong_entry.Goals as goal

pub returns : goal.returns
returns c = first_by_position (λ insn. HasRightEntry c.args.major c.args.pool.now insn → ⊥) _ _ _ c.position.ensures.ran
    (YieldsList-from_slice c.args.insns.now c.iter.ensures.rest) (λ y q k. search (rules, tests)) (λ y q k. search (rules, tests))
