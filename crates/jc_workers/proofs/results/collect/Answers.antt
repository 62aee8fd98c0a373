use Rattle.std.proofs.Common.{ℕ, zero, suc, ◌≡◌, ◌+◌, ◌*◌, ◌<◌, List, [], ◌∷◌, ◌++◌, length}
use Rattle.std.proofs.Common.{vec_len, arith, refl, ap, sym, ◌∙◌, subst, get_or, inl, inr, ⊎_elim, Result, length-append}
use Rattle.std.proofs.lemmas.List.{length-replicate}
use Rattle.std.proofs.lemmas.List.Elements.{Contains-append_right, Contains-append_cases}
use Rattle.std.specs.Prelude.{IfOk, Contains, Option, None}
use Rattle.jc_bytes.specs.declared.fail.Memory.{Memory}
use Rattle.jc_workers.specs.declared.pool.Drew.{Drew}
use Rattle.jc_workers.specs.Claims.{AreThoseBelow}
use Rattle.jc_workers.specs.Ran.{AreEnds}
use Rattle.jc_workers.specs.Drawing.{DidDraw, AllDrew, GoesPast, cases_in}
use Rattle.jc_workers.proofs.RanLaws.{nothing, all_there}
use Rattle.jc_workers.proofs.NumberLaws.{all_below, cases_both, each_once}
use Rattle.jc_workers.proofs.results.collect.Given.{Over}
use Rattle.jc_workers.proofs.results.collect.Goals as goal
use Rattle.jc_workers.proofs.results.collect.Goals.{In_ok-done, After-close}

at_end : {A : Type 0} (l : List A) (a d : A) → get_or (l ++ a ∷ []) (length l) d ≡ a
at_end [] a d = refl
at_end (x ∷ xs) a d = at_end xs a d

in_front : {A : Type 0} (l : List A) (a d : A) (i : ℕ) → i < length l → get_or (l ++ a ∷ []) i d ≡ get_or l i d
in_front [] a d i h = absurd (omega (arith, h))
in_front (x ∷ xs) a d zero h = refl
in_front (x ∷ xs) a d (suc i) h = in_front xs a d i (omega (arith, h))

pub joining-init : goal.joining-init
joining-init g c =
    let i = c.requires in
    let cases = g.C.CaseRunner.cases c.args.runner.now in
    let empty : Option g.row.C-End.Denot = None in
    let none : (k : ℕ) → Contains c.args.own.drawer.numbers k → ⊥ = λ k h. nothing k (subst (λ (l : List ℕ). Contains l k) i.drawer.1 h) in (
      i.seat.0,
      i.seat.2,
      subst (λ (l : List ℕ). g.S.CaseSeat.ran c.args.own.seat c.args.board.now c.args.runner.now (cases_in cases l)) (sym i.drawer.1) i.seat.1,
      i.gave.1,
      i.drawer.0,
      omega (arith, ap length i.drawer.1, i.drawer.2, i.drawer.3),
      inl i.gave.0,
      omega (arith, ap length c.in_ok-ends.ensures, length-replicate c.case_count.result empty, c.case_count.ensures, c.in_ok-ends.ends.ok.0),
      λ k lt h. absurd (none k h),
      λ k lt h. absurd (none k h),
    )

-- what the last worker of the list gave back
abbrev Did : (g : Over) (c : In_ok-done g) → Drew g.row.C-End.Denot g.row.S.Denot → Type 0
Did g c = DidDraw (λ s. g.S.CaseSeat.at s c.args.board.now × (g.S.CaseSeat.part s ≡ 2048))
    (λ s cases. g.S.CaseSeat.ran s c.args.board.now c.args.runner.now cases) c.args.claims.table (g.C.CaseRunner.cases c.args.runner.now)
    (g.C.CaseRunner.end_of c.args.runner.now) (g.G.Gate.passed c.args._gate.now)

did : (g : Over) (c : In_ok-done g) → Did g c c.in_ok-done.field-0
did g c =
    let xs = c.pop.new.self.items in
    let r = c.in-Some.result in
    let All : List (Result (Drew g.row.C-End.Denot g.row.S.Denot) Memory) → Type 0 =
    AllDrew (λ s. g.S.CaseSeat.at s c.args.board.now × (g.S.CaseSeat.part s ≡ 2048))
    (λ s cases. g.S.CaseSeat.ran s c.args.board.now c.args.runner.now cases) c.args.claims.table (g.C.CaseRunner.cases c.args.runner.now)
    (g.C.CaseRunner.end_of c.args.runner.now) (g.G.Gate.passed c.args._gate.now) in
    let all = subst All c.in-Some.ensures.items c.joining.invariant.3 in
    subst (λ (x : Result (Drew g.row.C-End.Denot g.row.S.Denot) Memory). IfOk x (Did g c)) (at_end xs r r ∙ c.in_ok-done.was)
    (all (length xs) r (omega (arith, length-append xs (r ∷ []))))

fewer : (g : Over) (c : In_ok-done g) → vec_len c.joining.gave ≡ vec_len c.pop.new.self + 1
fewer g c = omega (
  arith,
  c.joining.gave.ok.0,
  c.pop.new.self.ok.0,
  ap length c.in-Some.ensures.items,
  length-append c.pop.new.self.items
      (c.in-Some.result ∷ []),
)

pub join-requires : goal.join-requires
join-requires g c = let d = did g (goal.at.join-requires g c).In_ok-done in record { board = (c.joining.invariant.0, d.0.0) }

pub join-requires-in-Some : goal.join-requires-in-Some
join-requires-in-Some g c = let d = did g (goal.at.join-requires-in-Some g c).In_ok-done in record { claims = (c.joining.invariant.4, d.2) }

pub place-requires : goal.place-requires
place-requires g c =
    let d = did g (goal.at.place-requires g c).In_ok-done in
    λ k e h. let t = d.5.each k e h in (omega (arith, t.0, c.joining.invariant.7), t.1)

pub joining-preserved : goal.joining-preserved
joining-preserved g c =
    let at = (goal.at.joining-preserved g c).In_ok-done in
    let d = did g at in
    let less = fewer g at in
    let i = c.joining.invariant in
    let runner = c.args.runner.now in
    let board = c.args.board.now in
    let cases = g.C.CaseRunner.cases runner in
    let end_of = g.C.CaseRunner.end_of runner in
    let xs = c.pop.new.self.items in
    let olds = c.joining.drawer.numbers in
    let news = c.in_ok-done.field-0.drawer.numbers in
    let nums = c.join-in-Some.ensures.numbers in
    let m = cases + 1 in
    let product : vec_len c.joining.gave * m ≡ vec_len c.pop.new.self * m + m = ap (λ n. n * m) less ∙ omega arith in (
      c.in_ok-join.ensures.seat.0,
      omega (arith, c.in_ok-join.ensures.seat.1, d.0.1, i.1, less),
      subst (λ (l : List ℕ). g.S.CaseSeat.ran c.join.new.self board runner l) (sym (ap (cases_in cases) nums ∙ cases_both cases olds news))
          (c.in_ok-join.ensures.ran runner (cases_in cases olds) (cases_in cases news) i.2 d.1),
      λ w x lt. subst (λ (r : Result (Drew g.row.C-End.Denot g.row.S.Denot) Memory). IfOk r (Did g at))
          (ap (λ l. get_or l w x) c.in-Some.ensures.items ∙ in_front xs c.in-Some.result x w lt)
          (i.3 w x (omega (arith, lt, less, c.pop.new.self.ok.0, c.joining.gave.ok.0))),
      c.join-in-Some.ensures.claims ∙ i.4,
      omega (arith, ap length nums, length-append olds news, c.join-in-Some.ensures.budget, d.3, i.5, product),
      inr (d.4.0, subst (λ (l : List ℕ). Contains l d.4.0) (sym nums) (Contains-append_right olds news d.4.0 d.4.1), d.4.2),
      omega (arith, c.place.ensures.len, i.7),
      λ k lt h. ⊎_elim
          (λ was. c.place.ensures.kept k (i.8 k lt was))
          (λ is. c.place.ensures.placed k (end_of k) (d.5.all k lt is))
          (Contains-append_cases olds news k (subst (λ (l : List ℕ). Contains l k) nums h)),
      λ k lt h. ⊎_elim (λ was. i.9 k lt was) (λ is. d.7 k lt is) (Contains-append_cases olds news k (subst (λ (l : List ℕ). Contains l k) nums h)),
    )

pub close-requires : goal.close-requires
close-requires g c = c.joining.invariant.4

-- all numbers below one were drawn, and one that is no case
all_drawn : (g : Over) (c : After-close g) → ((n : ℕ) × AreThoseBelow n c.joining.drawer.numbers)
    × GoesPast (g.C.CaseRunner.cases c.args.runner.now) c.joining.drawer.numbers
all_drawn g c =
    let i = c.joining.invariant in
    let cases = g.C.CaseRunner.cases c.args.runner.now in
    let none = c.in_default.ensures.cases.0 in
    let gone : vec_len c.joining.gave * (cases + 1) ≡ 0 = ap (λ n. n * (cases + 1)) none ∙ omega arith in (
      c.close.ensures (omega (arith, i.5, gone)),
      ⊎_elim (λ some_left. absurd (omega (arith, some_left, none))) (λ t. t) i.6,
    )

-- every case was drawn
drawn : (g : Over) (c : After-close g) (k : ℕ) → k < g.C.CaseRunner.cases c.args.runner.now → Contains c.joining.drawer.numbers k
drawn g c k lt =
    let cases = g.C.CaseRunner.cases c.args.runner.now in
    let all = all_drawn g c in
    all_below c.joining.drawer.numbers all.0.0 cases all.1.0 k all.0.1 all.1.1 all.1.2 lt

pub returns-clause-ends : goal.returns-clause-ends
returns-clause-ends g c =
    let at = (goal.at.returns-clause-ends g c).After-close in
    let i = c.joining.invariant in
    let end_of = g.C.CaseRunner.end_of c.args.runner.now in
    let cases = g.C.CaseRunner.cases c.args.runner.now in
    let ends = c.joining.ends.items in
    let len : length ends ≡ cases = omega (arith, i.7, c.joining.ends.ok.0) in
    let there = all_there end_of ends (λ k lt. i.8 k (omega (arith, lt, len)) (drawn g at k (omega (arith, lt, len)))) in
    subst (λ (n : ℕ). AreEnds n end_of c.in_ok-all_ends.field-0.items) len
    (subst (λ (l : List g.row.C-End.Denot). AreEnds (length ends) end_of l) (sym c.in_ok-all_ends.ensures) there)

pub returns-clause-seat : goal.returns-clause-seat
returns-clause-seat g c = let none = c.in_default.ensures.cases.0 in let i = c.joining.invariant in (i.0, omega (arith, i.1, none))

pub returns-clause-ran : goal.returns-clause-ran
returns-clause-ran g c =
    let at = (goal.at.returns-clause-ran g c).After-close in
    let all = all_drawn g at in
    let numbers = c.joining.drawer.numbers in
    let cases = g.C.CaseRunner.cases c.args.runner.now in
    (cases_in cases numbers, each_once numbers all.0.0 cases all.1.0 all.0.1 all.1.1 all.1.2, c.joining.invariant.2)

pub returns-clause-passed : goal.returns-clause-passed
returns-clause-passed g c = let at = (goal.at.returns-clause-passed g c).After-close in λ k lt all. c.joining.invariant.9 k lt (drawn g at k lt)
