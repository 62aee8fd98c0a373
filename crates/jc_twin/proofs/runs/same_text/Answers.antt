use Rattle.jc_twin_simulation.proofs.ProgramRunLaws.{runs_are_same}
use Rattle.jc_twin.proofs.TextLaws.{same_text}
use Rattle.jc_twin.proofs.runs.same_text.Goals as goal

pub returns : goal.returns
returns c =
    let before = c.args.before.now in
    let after = c.args.after.now in
    record {
      worlds = λ marks twin w w' same k. same_text before after marks twin w w' same k;
      text = λ marks twin are entries begin k turns. same_text before after marks twin _ _ (runs_are_same before after marks twin are c.args.case.now entries begin turns) k;
    }
