use Rattle.std.proofs.Common.{ap, sym, ◌∙◌, subst, inl, inr, ⊎_elim}
use Rattle.std.specs.Prelude.{Contains}
use Rattle.jc_board.specs.Seen.{BoardSeen}
use Rattle.jc_dump_board.specs.Seen.{DumpSeatSeen}
use Rattle.jc_dump.proofs.seat.run_from.Goals as goal

pub returns-clause-gained : goal.returns-clause-gained
returns-clause-gained g c =
    let run = c.in_ok-end.ensures in
    let first = c.new-sink.ensures.seat in
    let last = c.into_parts-seat.ensures.seat in
    λ class id. (
      λ h. ⊎_elim
          (λ old. inl (subst (λ (s : DumpSeatSeen). Contains s.pending (class, id)) first old))
          (λ new. inr new)
          (run.others class id (subst (λ (s : DumpSeatSeen). Contains s.pending (class, id)) last h)),
      λ t. subst (λ (s : DumpSeatSeen). Contains s.pending (class, id)) (sym last) (⊎_elim
          (λ old. run.kept class id (subst (λ (s : DumpSeatSeen). Contains s.pending (class, id)) (sym first) old))
          (λ new. run.gained class id new)
          t),
    )

pub returns-clause-known : goal.returns-clause-known
returns-clause-known g c =
    c.into_parts-seat.ensures.known.same_counts ∙ (c.in_ok-end.ensures.counts ∙ ap (λ (b : BoardSeen). b.counts) c.new-sink.ensures.board)
