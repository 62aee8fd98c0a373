use Rattle.std.proofs.Common.{List, ℕ, inr, refl, subst}
use Rattle.jc_command_work.specs.Step.{outside, counts}
use Rattle.jc_command_work.specs.Ending.{Says}
use Rattle.jc_command_work.proofs.message.report_usage.Goals as goal

pub returns-clause-does : goal.returns-clause-does
returns-clause-does g c contents failed out reads writes outs =
    let E = g.E.Sink in
    inr (
      refl,
      subst (λ (t : List ℕ). Says t (outside contents failed out (E.told c.args.err.now)) (outside contents failed out (E.told c.say.new.err))
          (counts reads writes outs (E.faults c.args.err.now)) (counts reads writes outs (E.faults c.say.new.err))) c.as_bytes.ensures.value (c.say.ensures contents failed out reads writes outs),
    )
