use Rattle.std.proofs.Common.{◌∙◌}
use Rattle.jc_machine_code.proofs.index.ProgramIndex.class_named.Goals as goal

pub returns : goal.returns
returns c = λ program index. c.copied.ensures ∙ c.get.ensures.value ∙ index.names c.args.name
