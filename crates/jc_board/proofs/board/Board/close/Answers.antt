use Rattle.std.proofs.Common.{ℕ, List, ap, sym, ◌∙◌, subst}
use Rattle.std.specs.Prelude.{Contains}
use Rattle.std.specs.Slots.{slots_items}
use Rattle.jc_board.specs.Seen.{SeatSeen}
use Rattle.jc_programs.specs.Probes.{InRange}
use Rattle.jc_board.specs.Rule.{IsSet}
use Rattle.jc_board.proofs.ClosingLaws.{hit_in_range, hit_is_set, set_is_hit}
use Rattle.jc_board.proofs.board.Board.close.Goals as goal

pub returns-clause-hits : goal.returns-clause-hits
returns-clause-hits c d i h =
    let f = c.close_with-closed.ensures.values.2 in
    let mine = subst (λ (hits : List (ℕ × ℕ)). Contains hits (d, i)) (sym (ap (λ (s : SeatSeen). s.hits) c.seat.view_is)) h in
    let same = c.self.invariant.ruled ∙ sym c.deref-2.ensures.value in
    c.copy.ensures.gained d i
    (hit_in_range _ _ _ _ _ f d i mine).1
    (subst (λ (counts : List ℕ). InRange counts d i) same (hit_in_range _ _ _ _ _ f d i mine).0)
    (subst (λ (counts : List ℕ). IsSet counts (slots_items c.close_with-closed.result.words) d i) same (hit_is_set _ _ _ _ _ f d i mine))

pub returns-clause-whole : goal.returns-clause-whole
returns-clause-whole c whole d i h =
    let f = c.close_with-closed.ensures.values.2 in
    let t = c.copy.ensures.hits d i h in
    let same = sym (c.self.invariant.ruled ∙ sym c.deref-2.ensures.value) in
    subst (λ (hits : List (ℕ × ℕ)). Contains hits (d, i)) (ap (λ (s : SeatSeen). s.hits) c.seat.view_is)
    (set_is_hit _ _ _ _ _ f (ap (λ (s : SeatSeen). s.part) c.seat.view_is ∙ whole) d i
    (subst (λ (counts : List ℕ). InRange counts d i) same t.0)
    (subst (λ (counts : List ℕ). IsSet counts (slots_items c.close_with-closed.result.words) d i) same t.1))
