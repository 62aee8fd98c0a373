use Rattle.std.proofs.Common.{◌∙◌}
use Rattle.jc_machine.proofs.IntegralLaws.{letter_there, none_there}
use Rattle.jc_machine.proofs.integral_fields.is_integral.Goals as goal

pub returns-in-empty : goal.returns-in-empty
returns-in-empty c = none_there c.args.desc.now c.in-empty.len_below

pub returns-in-len1-up : goal.returns-in-len1-up
returns-in-len1-up c = c.is_integral_letter.ensures ∙ letter_there c.args.desc.now 0 c.in-len1-up.len_at_least
