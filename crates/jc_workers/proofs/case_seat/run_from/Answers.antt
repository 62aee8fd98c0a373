use Rattle.std.proofs.Common.{ℕ, List, ◌++◌, ◌∷◌, [], ap, sym, ◌∙◌, subst}
use Rattle.std.specs.Prelude.{Contains}
use Rattle.jc_board.specs.Seen.{BoardSeen, SeatSeen}
use Rattle.jc_board.specs.Known.{Remembers}
use Rattle.jc_workers.specs.Ran.{HitsOf}
use Rattle.jc_workers.proofs.NumberLaws.{has_new, has_old, has_one}
use Rattle.jc_workers.proofs.RanLaws.{more_hits}
use Rattle.jc_workers.proofs.case_seat.run_from.Goals as goal

pub returns-clause-hits : goal.returns-clause-hits
returns-clause-hits g c =
    let runner = c.args.runner.now in
    let k = c.args.case in
    let n = g.C.CaseRunner.cases runner in
    let hit_by = g.C.CaseRunner.hits runner in
    let run = c.in_ok-end.ensures in
    let first = c.new-sink.ensures.seat in
    λ cases ran. subst (λ (s : SeatSeen). HitsOf n hit_by (Contains (cases ++ k ∷ [])) s.hits) (sym c.into_parts-seat.ensures.seat)
    (more_hits n (Contains cases) (Contains (cases ++ k ∷ [])) k c.requires.case.1 (λ j _ h. has_old cases k j h) (λ j _ h. has_one cases k j h)
    (has_new cases k) hit_by c.new-sink.result.seat.hits _
    (subst (λ (s : SeatSeen). HitsOf n hit_by (Contains cases) s.hits) (sym first) ran) run.gained run.kept run.others)

pub returns-clause-known : goal.returns-clause-known
returns-clause-known g c = subst (λ (l : List ℕ). Remembers l c.into_parts-seat.result.0.hits c.into_parts-seat.result.1)
    (c.in_ok-end.ensures.counts ∙ ap (λ (b : BoardSeen). b.counts) c.new-sink.ensures.board) c.into_parts-seat.ensures.known
