use Rattle.std.proofs.Common.{refl, sym, ◌∙◌}
use Rattle.std.proofs.lemmas.Option.{none-some}
use Rattle.jc_link_programs.proofs.linking.class_name.Goals as goal

pub unreachable-requires : goal.unreachable-requires
unreachable-requires c =
    let has = c.requires.this_class in
    none-some has.0 (sym (c.in-Err.ensures.bad.0 refl) ∙ has.1)
