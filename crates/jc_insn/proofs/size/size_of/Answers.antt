use Rattle.std.proofs.Common.{◌∙◌}
use Rattle.jc_insn.proofs.SpelledInsnLaws.{is_shortest, layout_size}
use Rattle.jc_insn.proofs.size.size_of.Goals as goal

pub returns-clause-shortest : goal.returns-clause-shortest
returns-clause-shortest c = λ other. is_shortest c.args.at c.args.insn.now c.by_form.result
    (c.by_form.ensures ∙ layout_size c.args.at c.args.wide c.args.insn.now other)
