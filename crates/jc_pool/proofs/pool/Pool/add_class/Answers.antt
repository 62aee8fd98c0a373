use Rattle.jc_pool.specs.declared.index.Naming.TheVariants as naming
use Rattle.jc_pool.specs.Adding.{HasClass}
use Rattle.jc_pool.specs.Index.{HasNaming}
use Rattle.jc_pool.proofs.AddingLaws.{IsAdded, added, has_naming_extends}
use Rattle.jc_pool.proofs.pool.Pool.add_class.Goals as goal

answer : (c : goal.Joined-self) → IsAdded (HasClass c.args.self.now c.args.name.now) c.args.self.now c.add_naming-added.new.slots.items c.add_naming-added.result
answer c =
    let old = c.self.inside.slots.items in
    let new = c.add_naming-added.new.slots.items in
    added (λ l. HasNaming naming.Class l c.args.name.now) old c.args.self.now new c.add_naming-added.result
    (has_naming_extends naming.Class old new c.args.name.now) c.self.view_is
    c.add_naming-added.ensures.ok c.add_naming-added.ensures.full c.add_naming-added.ensures.err

pub returns-clause-ok : goal.returns-clause-ok
returns-clause-ok c = (answer c).ok

pub returns-clause-full : goal.returns-clause-full
returns-clause-full c = (answer c).full

pub returns-clause-extends : goal.returns-clause-extends
returns-clause-extends c = (answer c).extends
