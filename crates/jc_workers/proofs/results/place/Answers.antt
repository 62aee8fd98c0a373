use Rattle.std.proofs.Common.{arith, sym, subst, ⊎_elim}
use Rattle.std.specs.Prelude.{Contains}
use Rattle.jc_workers.proofs.RanLaws.{has_last, put_more}
use Rattle.jc_workers.proofs.results.place.Goals as goal

pub index_mut-requires : goal.index_mut-requires
index_mut-requires g c =
    let i = c.placing.invariant in
    let mine = c.requires c.in-Some.case c.in-Some.end (i.2 c.in-Some.case c.in-Some.end
    (subst (λ l. Contains l (c.in-Some.case, c.in-Some.end)) (sym c.in-Some.ensures.items)
    (has_last c.pop.new.self.items (c.in-Some.case, c.in-Some.end)))) in
    omega (arith, mine.0, i.0)

pub placing-preserved : goal.placing-preserved
placing-preserved g c =
    let i = c.placing.invariant in
    let more = put_more (g.C.CaseRunner.end_of c.args._runner.now) c.args.ends.now.items c.placing.ends.items c.args.done.items c.placing.done.items
    c.pop.new.self.items c.in-Some.case c.in-Some.end
    (λ k x h. let t = c.requires k x h in (omega (arith, t.0, i.0, c.placing.ends.ok.0), t.1)) c.in-Some.ensures.items i.1 i.2 i.3 in
    (i.0, more.0, more.1, more.2)

pub placing-preserved-in-Some : goal.placing-preserved-in-Some
placing-preserved-in-Some g c =
    let i = c.placing.invariant in
    let more = put_more (g.C.CaseRunner.end_of c.args._runner.now) c.args.ends.now.items c.placing.ends.items c.args.done.items c.placing.done.items
    c.pop.new.self.items c.in-Some.case c.in-Some.end
    (λ k x h. let t = c.requires k x h in (omega (arith, t.0, i.0, c.placing.ends.ok.0), t.1)) c.in-Some.ensures.items i.1 i.2 i.3 in
    (i.0, more.0, more.1, more.2)

pub returns-clause-placed : goal.returns-clause-placed
returns-clause-placed g c k e h =
    let i = c.placing.invariant in
    ⊎_elim (λ left. absurd (omega (arith, left.1, c.in_default.ensures.cases.0, c.placing.done.ok.0))) (λ there. there) (i.3 k e h)
