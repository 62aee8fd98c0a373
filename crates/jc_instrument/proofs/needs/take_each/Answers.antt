use Rattle.std.proofs.Common.{◌≡◌, ℕ, List, suc, get_or, ◌++◌, ◌∷◌, [], take, drop, sym, ◌∙◌, subst, arith}
use Rattle.std.proofs.lemmas.List.{length-map, take_all}
use Rattle.std.proofs.lemmas.Result.{err_from_is_err_and}
use Rattle.jc_pool.proofs.AddingLaws.{extends_more}
use Rattle.jc_instrument.specs.Contents.{Content, TakesEach}
use Rattle.jc_instrument.specs.Needed.{signed_id}
use Rattle.jc_instrument.specs.Taking.{content_needed, contents_of, RefusesEach}
use Rattle.jc_instrument.specs.declared.needs.Need.{Need}
use Rattle.jc_instrument.specs.declared.needs.Need.TheVariants as needs
use Rattle.jc_instrument.proofs.TakingLaws.{next_contents, refused_here, split_contents, takes_both, takes_count, takes_one}
use Rattle.jc_instrument.proofs.needs.take_each.Goals as goal

pub taking-preserved : goal.taking-preserved
taking-preserved c =
    let old = c.args.pool.now in
    let owner = c.args.owner.now in
    let id = signed_id c.args.id in
    let list = c.args.needs.now in
    let i = c.taking.need-index in
    let need = content_needed owner id (get_or list i needs.DataName) in
    let front = contents_of owner id (take i list) in
    let one = takes_one c.taking.pool c.take.new.pool need c.in_ok-place.place c.in_ok-place.ensures.ok in
    let both = takes_both old c.taking.pool c.take.new.pool front (need ∷ []) c.taking.places.items (c.in_ok-place.place ∷ [])
    c.taking.invariant.takes one in
    record {
      takes = subst (λ (cs : List Content). TakesEach old cs c.take.new.pool c.push.new.self.items)
          (sym (next_contents owner id list i needs.DataName c.taking-test.true))
          (subst (TakesEach old (front ++ (need ∷ [])) c.take.new.pool) (sym c.in_ok-push.ensures.items) both);
      extends = extends_more old c.taking.pool c.take.new.pool c.taking.invariant.extends c.in_ok-place.ensures.extends;
    }

pub returns-in_err-place-clause-refused : goal.returns-in_err-place-clause-refused
returns-in_err-place-clause-refused c =
    let old = c.args.pool.now in
    let owner = c.args.owner.now in
    let id = signed_id c.args.id in
    let list = c.args.needs.now in
    let i = c.taking.need-index in
    let e = c.in_err-place.field-0.0 in
    let p = err_from_is_err_and c.from_residual.result c.from_residual.ensures.1 in
    let rest = drop (suc i) list in
    let here = refused_here old c.taking.pool (contents_of owner id (take i list)) (contents_of owner id rest) c.taking.places.items
    (content_needed owner id (get_or list i needs.DataName)) e c.taking.invariant.takes c.in_err-place.ensures.full in
    rw (p.1, p.2) (subst (λ (cs : List Content). RefusesEach old cs e) (sym (split_contents owner id list i needs.DataName c.taking-test.true)) here)

pub returns-in_err-place-clause-extends : goal.returns-in_err-place-clause-extends
returns-in_err-place-clause-extends c =
    extends_more c.args.pool.now c.taking.pool c.take.new.pool c.taking.invariant.extends c.in_err-place.ensures.extends

pub returns-in_err-push-clause-extends : goal.returns-in_err-push-clause-extends
returns-in_err-push-clause-extends c =
    extends_more c.args.pool.now c.taking.pool c.take.new.pool c.taking.invariant.extends c.in_ok-place.ensures.extends

pub returns-clause-ok : goal.returns-clause-ok
returns-clause-ok c =
    let list = c.args.needs.now in
    subst (λ (l : List Need). TakesEach c.args.pool.now (contents_of c.args.owner.now (signed_id c.args.id) l) c.taking.pool c.taking.places.items)
    (take_all c.taking.need-index list (omega arith)) c.taking.invariant.takes

pub returns-clause-count : goal.returns-clause-count
returns-clause-count c =
    let list = c.args.needs.now in
    takes_count c.args.pool.now c.taking.pool (contents_of c.args.owner.now (signed_id c.args.id) list) c.taking.places.items (returns-clause-ok c)
    ∙ length-map list (content_needed c.args.owner.now (signed_id c.args.id))
