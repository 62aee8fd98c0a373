use Rattle.std.proofs.Common.{ℕ, ◌≡◌, ◌<◌, List, length, arith, ap, sym, subst}
use Rattle.std.proofs.lemmas.List.{length-replicate}
use Rattle.std.proofs.lemmas.List.Kept.{IsStrictlyIncreasing-filter}
use Rattle.std.specs.Prelude.{Contains, Option, None, nat_lt}
use Rattle.jc_workers.specs.Claims.{AreThoseBelow}
use Rattle.jc_workers.specs.Ran.{AreEnds}
use Rattle.jc_workers.specs.Drawing.{cases_in}
use Rattle.jc_workers.proofs.RanLaws.{all_there}
use Rattle.jc_workers.proofs.NumberLaws.{all_below, each_once, in_turn}
use Rattle.jc_workers.proofs.results.collect_one.Given.{Over}
use Rattle.jc_workers.proofs.results.collect_one.Goals as goal
use Rattle.jc_workers.proofs.results.collect_one.Goals.{After-close}

-- all numbers below one were drawn
all_drawn : (g : Over) (c : After-close g) → (n : ℕ) × AreThoseBelow n c.args.only.drawer.numbers
all_drawn g c = let i = c.requires in c.close.ensures (omega (arith, i.only.3, i.budget))

drawn : (g : Over) (c : After-close g) (k : ℕ) → k < g.C.CaseRunner.cases c.args.runner.now → Contains c.args.only.drawer.numbers k
drawn g c k lt =
    let past = c.requires.only.4 in
    let all = all_drawn g c in
    all_below c.args.only.drawer.numbers all.0 (g.C.CaseRunner.cases c.args.runner.now) past.0 k all.1 past.1 past.2 lt

pub place-requires : goal.place-requires
place-requires g c =
    let empty : Option g.row.C-End.Denot = None in
    λ k e h. let t = c.requires.only.5.each k e h in (
      omega (arith, t.0, ap length c.in_ok-ends.ensures, length-replicate c.case_count.result empty, c.case_count.ensures, c.in_ok-ends.ends.ok.0),
      t.1,
    )

pub returns-clause-ends : goal.returns-clause-ends
returns-clause-ends g c =
    let at = (goal.at.returns-clause-ends g c).After-close in
    let end_of = g.C.CaseRunner.end_of c.args.runner.now in
    let cases = g.C.CaseRunner.cases c.args.runner.now in
    let empty : Option g.row.C-End.Denot = None in
    let ends = c.place.new.ends.items in
    let len : length ends ≡ cases = omega (
      arith,
      c.place.ensures.len,
      c.place.new.ends.ok.0,
      ap length c.in_ok-ends.ensures,
      length-replicate c.case_count.result empty,
      c.case_count.ensures,
      c.in_ok-ends.ends.ok.0,
    ) in
    let there = all_there end_of ends (λ k lt.
    c.place.ensures.placed k (end_of k) (c.requires.only.5.all k (omega (arith, lt, len)) (drawn g at k (omega (arith, lt, len))))) in
    subst (λ (n : ℕ). AreEnds n end_of c.in_ok-all_ends.field-0.items) len
    (subst (λ (l : List g.row.C-End.Denot). AreEnds (length ends) end_of l) (sym c.in_ok-all_ends.ensures) there)

pub returns-clause-ran : goal.returns-clause-ran
returns-clause-ran g c =
    let at = (goal.at.returns-clause-ran g c).After-close in
    let all = all_drawn g at in
    let past = c.requires.only.4 in
    let numbers = c.args.only.drawer.numbers in
    let cases = g.C.CaseRunner.cases c.args.runner.now in
    let once = each_once numbers all.0 cases past.0 all.1 past.1 past.2 in (
      cases_in cases numbers,
      once,
      c.requires.only.1,
      in_turn (cases_in cases numbers) cases (IsStrictlyIncreasing-filter (λ k. nat_lt k cases) numbers c.requires.only.6) once,
    )

pub returns-clause-passed : goal.returns-clause-passed
returns-clause-passed g c = let at = (goal.at.returns-clause-passed g c).After-close in λ k lt all. c.requires.only.7 k lt (drawn g at k lt)
