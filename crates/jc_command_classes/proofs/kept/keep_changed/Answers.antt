use Rattle.std.proofs.Common.{refl, sym, ◌∙◌}
use Rattle.std.proofs.lemmas.Bool.{not-true}
use Rattle.jc_command_classes.proofs.kept.keep_changed.Goals as goal

pub returns-in_ok-push : goal.returns-in_ok-push
returns-in_ok-push g c =
    let other = not-true _ (sym c.in_ok-is_new.ensures.added ∙ c.if-is_new.true) in
    record {
      lines = refl;
      made = c.in_ok-push.ensures.items ∙ rw other refl;
      ids = c.in_ok-is_new.ensures.keys ∙ rw other refl;
    }
