use Rattle.std.proofs.Common.{w64, to_z, of_z}
use Rattle.std.proofs.Math.Facts.{to_z-of_z}
use Rattle.jc_pool.specs.declared.entry.Entry.TheVariants as entry
use Rattle.jc_pool.specs.declared.index.Key.TheVariants as key
use Rattle.jc_pool.specs.Lookup.{long_of}
use Rattle.jc_pool.specs.Adding.{HasLong}
use Rattle.jc_pool.specs.Index.{key_at}
use Rattle.jc_pool.proofs.KeyPlaceLaws.{long_as_one}
use Rattle.jc_pool.proofs.AddingLaws.{IsAdded, number_added}
use Rattle.jc_pool.proofs.pool.Pool.add_long.Goals as goal

answer : (c : goal.Joined-self) → IsAdded (HasLong c.args.self.now c.args.value) c.args.self.now c.add_number-added.new.slots.items c.add_number-added.result
answer c =
    let old = c.self.inside.slots.items in
    let firsts = c.in_ok-index.index.firsts.items in
    number_added long_of entry.Long (key_at firsts) key.Long old c.args.self.now c.add_number-added.new.slots.items
    (to_z w64 (of_z w64 c.args.value)) c.args.value c.add_number-added.result (to_z-of_z c.ranges.value) (long_as_one old firsts c.args.value) c.self.view_is
    c.add_number-added.ensures.ok c.add_number-added.ensures.full c.add_number-added.ensures.err

pub returns-clause-ok : goal.returns-clause-ok
returns-clause-ok c = (answer c).ok

pub returns-clause-full : goal.returns-clause-full
returns-clause-full c = (answer c).full

pub returns-clause-extends : goal.returns-clause-extends
returns-clause-extends c = (answer c).extends
