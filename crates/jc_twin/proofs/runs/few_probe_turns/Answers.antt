use Rattle.jc_twin_simulation.proofs.ProgramRunLaws.{probe_turns_are_few, probe_turns_are_fewer}
use Rattle.jc_twin.proofs.runs.few_probe_turns.Goals as goal

pub returns : goal.returns
returns c = record {
  most = λ marks twin are entries begin. probe_turns_are_few c.args.before.now c.args.after.now marks twin are c.args.case.now entries begin;
  by_constant = λ marks twin are entries begin. probe_turns_are_fewer c.args.before.now c.args.after.now marks twin are c.args.case.now entries begin;
}
