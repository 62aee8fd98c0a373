use Rattle.std.proofs.Common.{◌≡◌, ℕ, ◌<◌, ◌⊎◌, true, arith, subst}
use Rattle.std.specs.Prelude.{Contains, ◌↔◌}
use Rattle.jc_programs.specs.Probes.{IsHit}
use Rattle.jc_board.specs.Views.{whole}
use Rattle.jc_dump_board.specs.Seen.{DumpSeatSeen}
use Rattle.jc_dump_board.proofs.TakenLaws.{all_pending, all_settled, all_whole, all_alone, probe_within}
use Rattle.jc_dump_board.proofs.board.DumpSeat.take.Goals as goal

pub returns-clause-pending : goal.returns-clause-pending
returns-clause-pending c =
    let layout = c.board.invariant.layout in
    let some : 0 < c.word_count.result = omega (arith, c.word_count.ensures, layout.some_word) in
    let within = probe_within _ _ _ _ c.deref-2.ensures.value layout.enough c.word_count.ensures in
    all_pending _ _ _ _ _ _ some within c.take_all.ensures.taken

pub returns-clause-settled : goal.returns-clause-settled
returns-clause-settled c =
    let layout = c.board.invariant.layout in
    let some : 0 < c.word_count.result = omega (arith, c.word_count.ensures, layout.some_word) in
    let within = probe_within _ _ _ _ c.deref-2.ensures.value layout.enough c.word_count.ensures in
    subst (λ (s : DumpSeatSeen). (d i : ℕ) → Contains c.take_all.new.seat.me.0.settled (d, i) ↔ (Contains s.settled (d, i) ⊎ Contains s.hits (d, i))) c.self.view_is
    (all_settled _ _ _ _ _ _ some within c.take_all.ensures.taken)

pub returns-clause-whole : goal.returns-clause-whole
returns-clause-whole c =
    let layout = c.board.invariant.layout in
    let some : 0 < c.word_count.result = omega (arith, c.word_count.ensures, layout.some_word) in
    let within = probe_within _ _ _ _ c.deref-2.ensures.value layout.enough c.word_count.ensures in
    let now = c.take_all.new.seat.me.0 in
    subst (λ (s : DumpSeatSeen). s.part ≡ whole → (d i : ℕ) → Contains now.taken (d, i) ↔ Contains now.hits (d, i)) c.self.view_is
    (all_whole _ _ _ _ _ _ some within c.take_all.ensures.taken)

pub returns-clause-alone : goal.returns-clause-alone
returns-clause-alone c =
    let layout = c.board.invariant.layout in
    let some : 0 < c.word_count.result = omega (arith, c.word_count.ensures, layout.some_word) in
    let within = probe_within _ _ _ _ c.deref-2.ensures.value layout.enough c.word_count.ensures in
    subst (λ (s : DumpSeatSeen). s.alone ≡ true → (d i : ℕ) → IsHit c.take_all.new.into d i ↔ (IsHit c.args.into.now d i ⊎ Contains s.pending (d, i))) c.self.view_is
    (all_alone _ _ _ _ _ _ some within c.take_all.ensures.taken)
