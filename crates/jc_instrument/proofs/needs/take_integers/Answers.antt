use Rattle.std.proofs.Common.{◌≡◌, ℕ, ℤ, ◌+◌, ◌-◌, ◌<◌, List, Err, subst, w32, arith}
use Rattle.std.proofs.lemmas.Int.{to_z_pos}
use Rattle.std.proofs.lemmas.Result.{err_from_is_err_and}
use Rattle.jc_bytes.specs.PlainLists.{numbers_from}
use Rattle.jc_methods.specs.ProbeMembers.{most_short}
use Rattle.jc_pool.specs.Adding.{HasInteger, RefusesFull}
use Rattle.jc_pool.proofs.AddingLaws.{extends_more}
use Rattle.jc_instrument.specs.Contents.{TakesEach}
use Rattle.jc_instrument.proofs.TakingLaws.{integers, refuses_below, takes_below}
use Rattle.jc_instrument.proofs.needs.take_integers.Goals as goal

pub returns-in_err-add_int-clause-refused : goal.returns-in_err-add_int-clause-refused
returns-in_err-add_int-clause-refused c =
    let n = c.taking.id in
    let most = c.requires in
    let less = c.taking-test.true in
    let value = to_z_pos w32 n (let small : n < 2147483648 = omega (arith, most, less) in small) in
    let e = c.in_err-add_int.field-0.0 in
    let p = err_from_is_err_and c.from_residual.result c.from_residual.ensures.1 in
    rw (p.1, p.2) (refuses_below c.args.pool.now c.taking.pool (most_short + 1) n c.args.count e (omega arith) less c.taking.invariant.takes
    (subst (λ (v : ℤ). RefusesFull {X = ℕ} (HasInteger c.taking.pool v) (Err e)) value c.in_err-add_int.ensures.full))

pub taking-preserved : goal.taking-preserved
taking-preserved c =
    let n = c.taking.id in
    let most = c.requires in
    let less = c.taking-test.true in
    let place = c.in_ok-add_int.field-0 in
    let value = to_z_pos w32 n (let small : n < 2147483648 = omega (arith, most, less) in small) in
    record {
      takes = takes_below c.args.pool.now c.taking.pool c.add_int.new.self (most_short + 1) n place (omega arith) c.taking.invariant.takes
          (subst (λ (v : ℤ). HasInteger c.taking.pool v c.add_int.new.self place) value c.in_ok-add_int.ensures.ok);
      within = omega (arith, less);
      extends = extends_more c.args.pool.now c.taking.pool c.add_int.new.self c.taking.invariant.extends c.in_ok-add_int.ensures.extends;
    }

pub returns-clause-ok : goal.returns-clause-ok
returns-clause-ok c =
    let within = c.taking.invariant.within in
    let end : c.taking.id - (most_short + 1) ≡ c.args.count - (most_short + 1) = omega (arith, within) in
    subst (λ (many : ℕ). (places : List ℕ) × TakesEach c.args.pool.now (integers (numbers_from (most_short + 1) many)) c.taking.pool places) end
    c.taking.invariant.takes
