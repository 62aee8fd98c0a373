use Rattle.jc_kinds_after.proofs.ElementsLaws.{no_elements}
use Rattle.jc_kinds_after.proofs.elements.Elements.new.Goals as goal

pub returns : goal.returns
returns c = λ names. no_elements names _ c.new.ensures.empty
