use Rattle.jc_command_sample.proofs.coverage.counted.Goals as goal

pub returns : goal.returns
returns c = (c.in_ok-coverage.coverage, c.in_ok-coverage.ensures.told, c.in_ok-counted.ensures)
