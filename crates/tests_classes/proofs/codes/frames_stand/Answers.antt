use Rattle.tests_classes.proofs.StandingLaws.{frames_stand}
use Rattle.tests_classes.proofs.codes.frames_stand.Goals as goal

pub returns : goal.returns
returns c = λ stand. frames_stand c.args.pool.now c.args.names.now c.args.frames.now (c.each_stands.ensures stand)
