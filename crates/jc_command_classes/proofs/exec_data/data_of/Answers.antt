use Rattle.std.proofs.Common.{List, ℕ, Option, None, Ok, sym, subst}
use Rattle.jc_command_classes.specs.declared.exec_data.ExecInput.{ExecInput}
use Rattle.jc_command_classes.specs.ReportSteps.{exec_path, IsReadOf, TakesData}
use Rattle.jc_command_classes.proofs.ReportRunLaws.{takes_none, takes_union, takes_stop}
use Rattle.jc_command_classes.proofs.exec_data.data_of.Goals as goal

pub returns-in_default : goal.returns-in_default
returns-in_default c = λ (read : List (List ℕ)) is.
    subst (λ (exec : Option ExecInput). TakesData (exec_path exec) read (Ok None)) (sym c.in_default.is)
    (takes_none read (subst (λ (exec : Option ExecInput). IsReadOf exec read) c.in_default.is is))
