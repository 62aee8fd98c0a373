use Rattle.std.proofs.Common.{◌++◌, List, ℕ, ap, ◌∙◌}
use Rattle.jc_command_run.proofs.TextLaws.{text_put}
use Rattle.jc_command_run.proofs.texts.texts_of.Goals as goal

pub printing-preserved : goal.printing-preserved
printing-preserved c =
    text_put c.args.program.now c.args.ends.now c.printing.text.items c.extend_from_slice.new.self.items c.in_ok-piece.piece.items c.printing.index
    c.index-ends-index.result c.printing-test.true c.index-ends-index.is c.printing.invariant c.in_ok-piece.ensures
    (c.in_ok-extend_from_slice.ensures.items ∙ ap (λ (l : List ℕ). c.printing.text.items ++ l) c.deref.ensures.value)
