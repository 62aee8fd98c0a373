use Rattle.std.proofs.Common.{◌≡◌, Contains, IfSome, IsSomeAnd, subst}
use Rattle.jc_exec.specs.declared.hits.ClassHits.{ClassHits}
use Rattle.jc_exec.specs.Store.{Store}
use Rattle.jc_exec.proofs.RecordLaws.{got, got_only, got_fits}
use Rattle.jc_exec.proofs.store.ExecStore.get.Goals as goal

pub returns-clause-found : goal.returns-clause-found
returns-clause-found c =
    subst (λ (s : Store). IfSome c.get.result (λ x. Contains s.classes x.now × (x.now.id ≡ c.args.id))) c.self.view_is
    (got c.get.result c.args.id c.self.inside.records c.self.invariant.1 c.get.ensures)

pub returns-clause-only : goal.returns-clause-only
returns-clause-only c =
    subst (λ (s : Store). (x : ClassHits) → Contains s.classes x → x.id ≡ c.args.id → IsSomeAnd c.get.result (λ d. d.now ≡ x)) c.self.view_is
    (got_only c.get.result c.args.id c.self.inside.records c.self.invariant.1 c.get.ensures)

pub returns-clause-fits : goal.returns-clause-fits
returns-clause-fits c = got_fits c.get.result c.args.id c.self.inside.records c.self.invariant.1 c.get.ensures
