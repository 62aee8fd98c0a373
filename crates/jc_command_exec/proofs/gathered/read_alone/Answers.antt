use Rattle.jc_command_exec.proofs.GatheredLaws.{gathered_alone}
use Rattle.jc_command_exec.proofs.gathered.read_alone.Goals as goal

pub returns : goal.returns
returns g c =
    let d = c.read_on.ensures in
    (d.0, d.1, gathered_alone c.args.path c.new.result d.0 c.read_on.result c.new.ensures.union d.2)
