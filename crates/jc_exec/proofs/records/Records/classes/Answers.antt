use Rattle.std.proofs.Common.{sym, ◌∙◌, ap}
use Rattle.jc_exec.specs.Store.{classes_of}
use Rattle.jc_exec.proofs.EntriesLaws.{classes_are}
use Rattle.jc_exec.proofs.records.Records.classes.Goals as goal

pub returns : goal.returns
returns c = c.deref.ensures.value ∙ sym (classes_are c.self.inside.classes.items) ∙ ap classes_of c.self.view_is
