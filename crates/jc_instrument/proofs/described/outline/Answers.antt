use Rattle.std.proofs.Common.{sym, subst}
use Rattle.std.specs.Prelude.{All}
use Rattle.std.proofs.lemmas.List.Elements.{All-from_recursion}
use Rattle.jc_class.specs.ClassFormat.{HasClass}
use Rattle.jc_instrument.proofs.described.outline.Goals as goal

pub class_names_at-requires : goal.class_names_at-requires
class_names_at-requires c =
    let pool = c.args.class.now.pool in
    subst (All (HasClass pool)) (sym c.deref.ensures) (All-from_recursion (HasClass pool) c.args.class.now.interfaces c.requires.class.interfaces.each)
