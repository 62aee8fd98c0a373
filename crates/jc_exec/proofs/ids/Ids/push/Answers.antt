use Rattle.std.proofs.Common.{◌≡◌, ◌≢◌, ◌<◌, ℕ, List, length, slice_index, sym, subst, arith}
use Rattle.jc_exec.specs.Places.{Reaches, ReachesAll, AreIndexed}
use Rattle.jc_exec.proofs.PlacesLaws.{still_reached, indexed_push}
use Rattle.jc_exec.proofs.ids.Ids.push.Goals as goal

pub invariant_of-self-2 : goal.invariant_of-self-2
invariant_of-self-2 c =
    let ids = c.self.inside.ids.items in
    let absent : (place : ℕ) → place < length ids → slice_index ids place ≢ c.args.id =
    subst (λ (l : List ℕ). (place : ℕ) → place < length l → slice_index l place ≢ c.args.id) (sym c.self.view_is) c.requires in
    let made = subst (λ (l : List ℕ). ReachesAll c.make_room.new.slots.items c.make_room.new.others l (length l)) c.deref.ensures.value c.in_ok-make_room.ensures.reaches in
    let all = still_reached ids c.make_room.new.slots.items c.lay.new.slots.items c.make_room.new.others c.lay.new.others c.args.id absent made c.in_ok-lay.ensures.rest in
    let here : c.len-place.result ≡ length ids = omega (arith, c.len-place.ensures) in
    let own = subst (λ (n : ℕ). Reaches c.lay.new.slots.items c.lay.new.others c.args.id n) here c.in_ok-lay.ensures.own in
    subst (λ (l : List ℕ). AreIndexed l c.lay.new.slots.items c.lay.new.others) (sym c.in_ok-push.ensures.items)
    (indexed_push ids c.lay.new.slots.items c.lay.new.others c.args.id (omega (arith, c.in_ok-make_room.ensures.room, c.in_ok-lay.ensures.length))
    (omega (arith, here, c.if-place-ge4294967295.false)) absent c.self.invariant.apart all own)
