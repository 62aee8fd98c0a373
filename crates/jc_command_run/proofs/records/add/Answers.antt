use Rattle.jc_command_run.proofs.HitStoreLaws.{added}
use Rattle.jc_command_run.proofs.records.add.Goals.{in-Ok, in-Err}
use Rattle.jc_command_run.proofs.records.add.Goals as goal

pub returns : goal.returns
returns c = elim c.match-add.branch [
  | in-Ok w ↦ rw w.result-is (λ one fresh. added c.args.store.now c.add.new.self c.args.class_hits.now one fresh w.in-Ok.ensures.union)
  | in-Err w ↦ rw w.result-is tt
]
