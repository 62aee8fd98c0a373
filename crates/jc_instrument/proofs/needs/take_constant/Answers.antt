use Rattle.std.proofs.Common.{ℕ, List, [], ◌∷◌, Err, sym, subst}
use Rattle.std.proofs.lemmas.Result.{err_from_is_err_and}
use Rattle.jc_methods.specs.declared.probe_members.Fetch.{Fetch}
use Rattle.jc_instrument.specs.Contents.{computed_entry, TakesEach}
use Rattle.jc_instrument.specs.Needed.{constant_needs}
use Rattle.jc_instrument.specs.Taking.{RefusesEach}
use Rattle.jc_instrument_reread.specs.Written.{array_constant}
use Rattle.jc_instrument.proofs.TakingLaws.{one_refused, takes_one}
use Rattle.jc_instrument.proofs.needs.take_constant.Goals as goal

pub returns-in_err-add_dynamic-in-Constant-clause-refused : goal.returns-in_err-add_dynamic-in-Constant-clause-refused
returns-in_err-add_dynamic-in-Constant-clause-refused c =
    let p = err_from_is_err_and c.from_residual.result c.from_residual.ensures.1 in
    let e = c.in_err-add_dynamic-in-Constant.field-0.0 in
    rw (p.1, p.2) (subst (λ (f : Fetch). RefusesEach c.args.pool.now (constant_needs f c.args.bootstrap) e) (sym c.in-Constant.is)
    (one_refused c.args.pool.now (computed_entry (array_constant c.args.bootstrap)) (Err e) c.in_err-add_dynamic-in-Constant.ensures.full))

pub returns-in_ok-add_dynamic-in-Constant-clause-ok : goal.returns-in_ok-add_dynamic-in-Constant-clause-ok
returns-in_ok-add_dynamic-in-Constant-clause-ok c =
    let place = c.in_ok-add_dynamic-in-Constant.field-0 in
    subst (λ (f : Fetch). (places : List ℕ) × TakesEach c.args.pool.now (constant_needs f c.args.bootstrap) c.add_dynamic.new.self places) (sym c.in-Constant.is) (
      place ∷ [],
      takes_one c.args.pool.now c.add_dynamic.new.self (computed_entry (array_constant c.args.bootstrap)) place c.in_ok-add_dynamic-in-Constant.ensures.ok,
    )
