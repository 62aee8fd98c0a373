use Rattle.std.proofs.Common.{◌≡◌, ℕ, ◌+◌, length, Err, subst, rules}
use Rattle.std.proofs.lemmas.Result.{err_from_is_err_and}
use Rattle.jc_pool.specs.Pool.{PoolValue}
use Rattle.jc_pool.specs.Lookup.{handle_of, member}
use Rattle.jc_pool.specs.Adding.{PutsHandle}
use Rattle.jc_pool.specs.Index.{GrowsBy, CountsTo, handle}
use Rattle.jc_pool.proofs.MemberLaws.{growth_refused}
use Rattle.jc_pool.proofs.add_linked.add_new_handle.Goals as goal

pub returns-in_err-check_room-clause-full : goal.returns-in_err-check_room-clause-full
returns-in_err-check_room-clause-full c =
    let old = c.args.slots.now.items in
    let what = handle c.args.kind (member c.args.m.now) in
    let lacks = subst (λ (l : PoolValue). GrowsBy l (PutsHandle l what) c.missing_handle.result) c.deref.ensures.value (c.missing_handle.ensures.lacks c.args.kind) in
    let size : c.len-count.result ≡ length old = search rules in
    let counts = subst (λ (n : ℕ). CountsTo {X = Unit {0}} (Err c.in_err-check_room.field-0.0) (n + c.missing_handle.result)) size c.in_err-check_room.ensures.full in
    let p = err_from_is_err_and c.from_residual.result c.from_residual.ensures.1 in
    rw (p.1, p.2) (growth_refused (Unit {0}) ℕ handle_of what old (PutsHandle old what) c.missing_handle.result c.in_err-check_room.field-0.0 c.requires.new lacks counts)
