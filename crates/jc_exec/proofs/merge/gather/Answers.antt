use Rattle.std.proofs.Common.{◌≡◌, ℕ, None, nat_eq, sym, ◌∙◌, ap, subst}
use Rattle.std.specs.Map.{lookup}
use Rattle.std.proofs.lemmas.Result.{err_from_is_err_and}
use Rattle.indexmap.specs.IndexMap.{insert_entry}
use Rattle.jc_exec.specs.declared.hits.ClassHits.{ClassHits}
use Rattle.jc_exec.specs.Adding.{Held}
use Rattle.jc_exec.specs.Store.{IsSmall}
use Rattle.jc_exec.proofs.RecordBitsLaws.{small_either}
use Rattle.jc_exec.proofs.RecordLaws.{found, gathered_ok, gathered_err, merges_new, merges_known, refuses_known}
use Rattle.jc_exec.proofs.merge.gather.Goals as goal
use Rattle.jc_exec.proofs.merge.gather.Goals.{in-None+in_ok-push-in-None, in-Some-get+in_ok-merged-in-Some-get+in_ok-push-in-Some-get}

pub returns-in-Some-clause-merges : goal.returns-in-Some-clause-merges
returns-in-Some-clause-merges g c =
    let s = c.in-Some.ensures.some in
    gathered_ok c.in-Some.merged c.args.known.now (g.T.Table.held c.args.fresh.now).records (g.T.Table.held c.merge.new.self).records s.0 s.1 c.args.hits
    c.requires.known c.requires.fresh c.requires.hits c.requires.text s.2 s.3 (ap (λ (h : Held). h.records) s.4)

pub returns-in-Some-clause-refused : goal.returns-in-Some-clause-refused
returns-in-Some-clause-refused g c =
    let s = c.in-Some.ensures.some in
    gathered_err c.in-Some.merged c.args.known.now (g.T.Table.held c.args.fresh.now).records s.0 s.1 c.args.hits c.requires.known c.requires.fresh s.2 s.3

pub push-requires-clause-none : goal.push-requires-clause-none
push-requires-clause-none g c =
    subst (λ (h : Held). lookup (nat_eq c.args.hits.id) h.records ≡ None) (sym c.in_default.ensures.none.1) c.in_default.ensures.none.0

pub merged-requires-clause-there : goal.merged-requires-clause-there
merged-requires-clause-there g c = (found c.args.hits.id c.args.known.now c.in-Some-get.there.now c.requires.known (sym c.in-Some-get.ensures)).small

pub merged-requires-clause-same_id : goal.merged-requires-clause-same_id
merged-requires-clause-same_id g c = (found c.args.hits.id c.args.known.now c.in-Some-get.there.now c.requires.known (sym c.in-Some-get.ensures)).id

pub push-requires-in-Some-get-clause-none : goal.push-requires-in-Some-get-clause-none
push-requires-in-Some-get-clause-none g c =
    let there = (found c.args.hits.id c.args.known.now c.in-Some-get.there.now c.requires.known (sym c.in-Some-get.ensures)).id in
    let same : c.in_ok-merged-in-Some-get.field-0.id ≡ c.args.hits.id = ap (λ (h : ClassHits). h.id) c.in_ok-merged-in-Some-get.ensures.1 ∙ there in
    subst (λ (n : ℕ). lookup (nat_eq n) (g.T.Table.held c.merge.new.self).records ≡ None) (sym same)
    (subst (λ (h : Held). lookup (nat_eq c.args.hits.id) h.records ≡ None) (sym c.in_default.ensures.none.1) c.in_default.ensures.none.0)

pub push-requires-in-Some-get-clause-hits : goal.push-requires-in-Some-get-clause-hits
push-requires-in-Some-get-clause-hits g c =
    let there = (found c.args.hits.id c.args.known.now c.in-Some-get.there.now c.requires.known (sym c.in-Some-get.ensures)).small in
    subst IsSmall (sym c.in_ok-merged-in-Some-get.ensures.1) (small_either c.in-Some-get.there.now c.args.hits there c.in_ok-merged-in-Some-get.ensures.0)

pub returns-in_err-merged-in-Some-get-clause-refused : goal.returns-in_err-merged-in-Some-get-clause-refused
returns-in_err-merged-in-Some-get-clause-refused g c =
    let p = err_from_is_err_and c.from_residual-in_err-merged-in-Some-get.result c.from_residual-in_err-merged-in-Some-get.ensures.1 in
    rw (p.1, p.2) (refuses_known c.args.known.now (g.T.Table.held c.args.fresh.now).records c.in-Some-get.there.now c.args.hits c.in_err-merged-in-Some-get.field-0.0
    c.requires.known c.requires.fresh c.in_default.ensures.none.0 (sym c.in-Some-get.ensures) c.in_err-merged-in-Some-get.ensures)

pub returns-clause-merges : goal.returns-clause-merges
returns-clause-merges g c = elim c.match-get.branch [
  | in-None+in_ok-push-in-None w ↦
      rw w.fresh-is (merges_new c.args.known.now (g.T.Table.held c.args.fresh.now).records c.args.hits c.requires.known c.requires.fresh c.requires.hits c.requires.text
      (g.T.Table.held w.push.new.self).records
      c.in_default.ensures.none.0 (sym w.in-None.ensures)
      (ap (λ (h : Held). h.records) w.in_ok-push-in-None.ensures ∙ (λ i. insert_entry nat_eq (ap (λ (h : Held). h.records) c.in_default.ensures.none.1 i) c.args.hits.id c.args.hits)))
  | in-Some-get+in_ok-merged-in-Some-get+in_ok-push-in-Some-get w ↦
      rw w.fresh-is (merges_known c.args.known.now (g.T.Table.held c.args.fresh.now).records c.args.hits c.requires.known c.requires.fresh c.requires.hits
      c.requires.text w.in-Some-get.there.now w.in_ok-merged-in-Some-get.field-0 (g.T.Table.held w.push-in-Some-get.new.self).records
      c.in_default.ensures.none.0 (sym w.in-Some-get.ensures) w.in_ok-merged-in-Some-get.ensures
      (ap (λ (h : Held). h.records) w.in_ok-push-in-Some-get.ensures
      ∙ (λ i. insert_entry nat_eq (ap (λ (h : Held). h.records) c.in_default.ensures.none.1 i) w.in_ok-merged-in-Some-get.field-0.id w.in_ok-merged-in-Some-get.field-0)))
]
