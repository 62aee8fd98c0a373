use Rattle.std.proofs.Common.{◌++◌, sym, subst}
use Rattle.std.specs.Prelude.{Contains}
use Rattle.std.proofs.lemmas.List.Elements.{Contains-append_left, Contains-append_right, Contains-append_cases}
use Rattle.jc_workers.specs.Ran.{HitsOf}
use Rattle.jc_workers.proofs.RanLaws.{both_hits}
use Rattle.jc_workers.proofs.case_seat.SeatCaseSeat.join.Goals as goal

pub returns-clause-ran : goal.returns-clause-ran
returns-clause-ran g c = λ runner xs ys ran more.
    let n = g.C.CaseRunner.cases runner in
    let hit_by = g.C.CaseRunner.hits runner in
    subst (HitsOf n hit_by (Contains (xs ++ ys))) (sym c.join.ensures.hits)
    (both_hits n hit_by (Contains xs) (Contains ys) (Contains (xs ++ ys)) c.args.self.now.hits c.args.other.hits
    (λ k _ r. Contains-append_left xs ys k r) (λ k _ r. Contains-append_right xs ys k r) (λ k _ r. Contains-append_cases xs ys k r) ran more)
