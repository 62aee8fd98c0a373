use Rattle.std.proofs.Common.{Option, subst}
use Rattle.jc_command_work.specs.declared.stop.Stop.{Stop}
use Rattle.jc_command_exec.specs.Informing.{ListsAll}
use Rattle.jc_command_exec.proofs.InfoLaws.{info_lines, info_refusal}
use Rattle.jc_command_exec.proofs.exec_info.answer_of.Goals as goal

pub returns-in-None : goal.returns-in-None
returns-in-None c = λ paths texts is.
    info_lines paths texts c.args.listed.listing is.0 (subst (λ (o : Option Stop). ListsAll paths texts o c.args.listed.listing) c.in-None.is is.1)

pub returns : goal.returns
returns c = λ paths texts is.
    info_refusal paths texts c.args.listed.listing c.in-Some.stop (subst (λ (o : Option Stop). ListsAll paths texts o c.args.listed.listing) c.in-Some.is is.1)
