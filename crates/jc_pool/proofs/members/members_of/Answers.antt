use Rattle.std.proofs.Common.{ap, refl, arith}
use Rattle.jc_pool.specs.Index.{key_place}
use Rattle.jc_pool.proofs.MemberTableLaws.{none_read, one_more_read, all_read}
use Rattle.jc_pool.proofs.members.members_of.Goals as goal

pub reading-init : goal.reading-init
reading-init c = none_read c.args.slots.now c.args.firsts.now 0 (key_place c.new-keys.result.entries) refl (λ k. ap (λ es. key_place es k) c.new-keys.ensures.empty)

pub reading-preserved : goal.reading-preserved
reading-preserved c =
    let told = c.in_ok-note_slot.ensures in
    let within = c.if-not-branch.false in
    one_more_read c.args.slots.now c.args.firsts.now c.reading.place (key_place c.reading.keys.entries) (key_place c.note_slot.new.members.entries)
    (told.within within) (told.noted within) c.reading.invariant

pub returns : goal.returns
returns c = λ _. all_read c.args.slots.now c.args.firsts.now c.reading.place (key_place c.reading.keys.entries) (omega arith) c.reading.invariant
