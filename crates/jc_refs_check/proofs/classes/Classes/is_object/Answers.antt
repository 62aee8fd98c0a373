use Rattle.std.proofs.Common.{◌∙◌, ap}
use Rattle.jc_refs_check.specs.KnownSuits.{is_object_known}
use Rattle.jc_refs_check.specs.Classes.{name_at}
use Rattle.jc_refs_check.proofs.KnownLaws.{object_known}
use Rattle.jc_refs_check.proofs.classes.Classes.is_object.Goals as goal

pub returns : goal.returns
returns c = c.is_object_known.ensures ∙ ap is_object_known c.known_at.ensures ∙ object_known (name_at c.args.self.now.names c.args.class)
