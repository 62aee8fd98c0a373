use Rattle.std.proofs.Common.{refl, sym, ◌∙◌}
use Rattle.std.proofs.lemmas.Option.{none-some}
use Rattle.jc_instrument.proofs.described.class_name_at.Goals as goal

pub unreachable-requires : goal.unreachable-requires
unreachable-requires c = none-some c.requires.0 (sym (c.in-Err.ensures.bad.0 refl) ∙ c.requires.1)
