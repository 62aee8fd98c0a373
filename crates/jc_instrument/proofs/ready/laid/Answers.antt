use Rattle.std.proofs.Common.{◌≤◌, List, sym, ◌∙◌, ap, subst}
use Rattle.jc_methods.specs.declared.insn.Insn.{Insn}
use Rattle.jc_methods.specs.Widened.{listed}
use Rattle.jc_insn.specs.Sizes.{StartAt}
use Rattle.jc_layout.specs.Layout.{IsChosen, chosen_length, chosen_text}
use Rattle.jc_instrument_code.proofs.LaidLaws.{is_laid}
use Rattle.jc_instrument.proofs.ready.laid.Goals as goal

pub returns-in-Ok-clause-laid : goal.returns-in-Ok-clause-laid
returns-in-Ok-clause-laid c = λ e same.
    let is = c.in-Ok.ensures in
    let l = c.in-Ok.laid in
    let here = sym same in
    is_laid e l (subst (λ (code : List Insn). IsChosen code l.wide) here is.chosen)
    (subst (λ (code : List Insn). StartAt (listed l.wide) code l.starts) here is.starts)
    (is.text ∙ ap chosen_text here) (is.size ∙ ap chosen_length here)
    (subst (λ (code : List Insn). chosen_length code ≤ 65535) here is.taken)
