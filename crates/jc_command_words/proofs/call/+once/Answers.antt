use Rattle.std.proofs.Common.{◌∙◌, sym}
use Rattle.jc_command_words.proofs.FormLaws.{once_twice, once_first}
use Rattle.jc_command_words.proofs.call.+once.Goals as goal

pub returns-then-is_used : goal.returns-then-is_used
returns-then-is_used t c =
    once_twice (λ u. u.name.now) c.args.uses.now c.in-Some.first.now c.in-Some.rest.now c.in-Some.ensures.cases.0 (sym c.is_used.ensures ∙ c.if-is_used.true)

pub returns-else-is_used : goal.returns-else-is_used
returns-else-is_used t c =
    c.once.ensures ∙ once_first (λ u. u.name.now) c.args.uses.now c.in-Some.first.now c.in-Some.rest.now c.in-Some.ensures.cases.0 (sym c.is_used.ensures ∙ c.if-is_used.false)
