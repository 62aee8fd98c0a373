use Rattle.std.proofs.Common.{rules}
use Rattle.jc_refs_check.proofs.NameLaws.{known_beyond}
use Rattle.jc_refs_check.proofs.classes.Classes.known_at.Goals as goal

pub returns-in-None : goal.returns-in-None
returns-in-None c = known_beyond c.args.self.now.names c.args.self.now.known.items c.deref.result.now c.args.class c.requires.known c.deref.ensures.value (search rules)
