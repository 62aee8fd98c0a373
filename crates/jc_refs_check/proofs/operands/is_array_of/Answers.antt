use Rattle.std.proofs.Common.{sym, ◌∙◌, ap}
use Rattle.jc_refs_check.proofs.KnownNeedLaws.{is_array_known, array_known_is, array_not}
use Rattle.jc_refs_check.proofs.operands.is_array_of.Goals as goal

pub returns-in-Array : goal.returns-in-Array
returns-in-Array c = λ name e.
    c.are_elements.ensures ∙ ap (is_array_known c.args.elements) (sym c.in-Array.is ∙ e) ∙ array_known_is c.args.elements name

pub returns-in_default : goal.returns-in_default
returns-in_default c = λ name e.
    sym (array_not c.args.elements c.args.known c.in_default.not-Array) ∙ ap (is_array_known c.args.elements) e ∙ array_known_is c.args.elements name
