use Rattle.std.proofs.Common.{◌≡◌, ℕ, ◌⊎◌, List, true, sym, ◌∙◌, subst}
use Rattle.std.specs.Prelude.{Contains, ◌↔◌}
use Rattle.std.specs.Slots.{slots_items}
use Rattle.jc_programs.specs.Probes.{InRange, IsHit}
use Rattle.jc_board.specs.Rule.{IsSet}
use Rattle.jc_board.specs.Views.{whole}
use Rattle.jc_dump_board.specs.Seen.{DumpSeatSeen}
use Rattle.jc_dump_board.proofs.ClosingLaws.{closed_settled, closed_whole, closed_alone}
use Rattle.jc_dump_board.proofs.board.DumpBoard.close.Goals as goal

pub returns-clause-settled : goal.returns-clause-settled
returns-clause-settled c =
    let same = c.self.invariant.ruled ∙ sym c.deref-2.ensures.value in
    let words = slots_items c.close_with-closed.result.words in
    subst (λ (s : DumpSeatSeen). s.part ≡ whole → (d i : ℕ) → Contains s.settled (d, i) → Contains s.taken (d, i)) c.seat.view_is
    (closed_settled _ _ _ _ _ c.close_with-closed.ensures.values.2 c.copy.new.into
    (λ d i h. let t = c.copy.ensures.hits d i h in (subst (λ (l : List ℕ). InRange l d i) (sym same) t.0, subst (λ (l : List ℕ). IsSet l words d i) (sym same) t.1))
    (λ d i low r s. c.copy.ensures.gained d i low (subst (λ (l : List ℕ). InRange l d i) same r) (subst (λ (l : List ℕ). IsSet l words d i) same s)))

pub returns-clause-whole : goal.returns-clause-whole
returns-clause-whole c =
    let same = c.self.invariant.ruled ∙ sym c.deref-2.ensures.value in
    let words = slots_items c.close_with-closed.result.words in
    subst (λ (s : DumpSeatSeen). s.part ≡ whole → (d i : ℕ) → Contains s.hits (d, i) ↔ (Contains s.taken (d, i) ⊎ IsHit c.copy.new.into d i)) c.seat.view_is
    (closed_whole _ _ _ _ _ c.close_with-closed.ensures.values.2 c.copy.new.into
    (λ d i h. let t = c.copy.ensures.hits d i h in (subst (λ (l : List ℕ). InRange l d i) (sym same) t.0, subst (λ (l : List ℕ). IsSet l words d i) (sym same) t.1))
    (λ d i low r s. c.copy.ensures.gained d i low (subst (λ (l : List ℕ). InRange l d i) same r) (subst (λ (l : List ℕ). IsSet l words d i) same s)))

pub returns-clause-alone : goal.returns-clause-alone
returns-clause-alone c =
    let same = c.self.invariant.ruled ∙ sym c.deref-2.ensures.value in
    let words = slots_items c.close_with-closed.result.words in
    subst (λ (s : DumpSeatSeen). s.alone ≡ true → (d i : ℕ) → IsHit c.copy.new.into d i ↔ Contains s.pending (d, i)) c.seat.view_is
    (closed_alone _ _ _ _ _ c.close_with-closed.ensures.values.2 c.copy.new.into
    (λ d i h. let t = c.copy.ensures.hits d i h in (subst (λ (l : List ℕ). InRange l d i) (sym same) t.0, subst (λ (l : List ℕ). IsSet l words d i) (sym same) t.1))
    (λ d i low r s. c.copy.ensures.gained d i low (subst (λ (l : List ℕ). InRange l d i) same r) (subst (λ (l : List ℕ). IsSet l words d i) same s)))
