use Rattle.jc_refs_laws.proofs.KeptLaws.{kept}
use Rattle.jc_refs_laws.proofs.laws.refs_kept.Goals as goal

pub returns : goal.returns
returns c = kept c.args.before.now c.args.after.now
