use Rattle.jc_pool.specs.Adding.{HasUtf8}
use Rattle.jc_pool.proofs.AddingLaws.{IsAdded, added, utf8_extends}
use Rattle.jc_pool.proofs.pool.Pool.add_utf8.Goals as goal

pub returns-clause-extends : goal.returns-clause-extends
returns-clause-extends c =
    let old = c.self.inside.slots.items in
    let new = c.add_text-added.new.slots.items in
    let answer : IsAdded (HasUtf8 c.args.self.now c.args.text.now) c.args.self.now new c.add_text-added.result =
    added (λ l. HasUtf8 l c.args.text.now) old c.args.self.now new c.add_text-added.result (utf8_extends old new c.args.text.now) c.self.view_is
    c.add_text-added.ensures.ok c.add_text-added.ensures.full c.add_text-added.ensures.err in
    answer.extends
