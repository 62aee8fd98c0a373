use Rattle.std.proofs.Common.{sym, ◌∙◌}
use Rattle.jc_kinds_after.proofs.UsesLaws.{all_say_later, said_before, said_more}
use Rattle.jc_kinds_after.proofs.uses.add_effect.Goals as goal

pub returns-then-contains_key-clause-effects : goal.returns-then-contains_key-clause-effects
returns-then-contains_key-clause-effects c = λ uses all.
    said_before c.args.names.now uses c.args.effects.now c.args.entry.now all (sym c.contains_key.ensures ∙ c.if-contains_key.true)

pub returns-clause-effects : goal.returns-clause-effects
returns-clause-effects c = λ uses all.
    said_more c.effect_of.new.names uses c.args.effects.now c.insert.new.self c.args.entry.now c.in_ok-effect.effect
    (all_say_later c.args.names.now c.effect_of.new.names uses c.args.effects.now c.effect_of.ensures.names all) c.in_ok-effect.ensures.says
    (sym c.contains_key.ensures ∙ c.if-contains_key.false) c.in_ok-insert.ensures.updates.0
