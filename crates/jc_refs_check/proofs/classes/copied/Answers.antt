use Rattle.jc_refs_check.proofs.NameLaws.{copied_on}
use Rattle.jc_refs_check.proofs.classes.copied.Goals as goal

pub copying-preserved : goal.copying-preserved
copying-preserved c = copied_on c.args.names.now c.copying.number c.copying.copy c.number.new.self c.text.result.now c.text.ensures.names c.copying.invariant
    c.text.ensures.text c.in_ok-number.ensures.names
