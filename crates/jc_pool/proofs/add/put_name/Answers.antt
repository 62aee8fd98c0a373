use Rattle.std.proofs.Common.{ℕ, Option, length, subst}
use Rattle.jc_pool.specs.Index.{IsFirstBelow}
use Rattle.jc_pool.specs.Lookup.{utf8_of}
use Rattle.jc_pool.proofs.AddingLaws.{unnamed_nowhere, text_has}
use Rattle.jc_pool.proofs.add.put_name.Goals as goal

pub put_text-requires-clause-new : goal.put_text-requires-clause-new
put_text-requires-clause-new c =
    unnamed_nowhere c.args.slots.now.items c.args.text.now
    (subst (λ (r : Option ℕ). IsFirstBelow (length c.args.slots.now.items) (utf8_of c.args.slots.now.items) c.args.text.now r) c.in-None.is c.requires.named)

pub returns-in-None-clause-has : goal.returns-in-None-clause-has
returns-in-None-clause-has c =
    text_has c.args.slots.now.items c.put_text.new.slots.items c.args.text.now c.put_text.result
    (unnamed_nowhere c.args.slots.now.items c.args.text.now
    (subst (λ (r : Option ℕ). IsFirstBelow (length c.args.slots.now.items) (utf8_of c.args.slots.now.items) c.args.text.now r) c.in-None.is c.requires.named))
    c.put_text.ensures.put
