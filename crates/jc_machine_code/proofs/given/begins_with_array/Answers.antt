use Rattle.std.proofs.Common.{Some, None, sym, ◌∙◌}
use Rattle.jc_machine_code.proofs.SiteLaws.{got}
use Rattle.jc_machine_code.proofs.GivenLaws.{first_begins, none_begins}
use Rattle.jc_machine_code.proofs.given.begins_with_array.Goals as goal

pub returns-in-Some : goal.returns-in-Some
returns-in-Some c = λ at given whats.
    c.begins_by.ensures at given whats
    ∙ first_begins at c.args.code.now c.in-Some.insn.now (sym (got c.args.code.now 0 (Some c.in-Some.insn) c.in-Some.ensures.lookup))

pub returns-in-None : goal.returns-in-None
returns-in-None c = λ at given whats. none_begins at c.args.code.now (sym (got c.args.code.now 0 None c.in-None.ensures.lookup))
