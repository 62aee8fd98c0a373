use Rattle.jc_refs_laws.proofs.SoundLaws.{sound}
use Rattle.jc_refs_laws.proofs.laws.refs_sound.Goals as goal

pub returns : goal.returns
returns c = sound c.args.program.now c.args.case.now
