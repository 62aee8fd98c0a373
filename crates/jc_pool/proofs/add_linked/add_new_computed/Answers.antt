use Rattle.std.proofs.Common.{◌≡◌, ℕ, ◌+◌, length, Err, subst, rules}
use Rattle.std.proofs.lemmas.Result.{err_from_is_err_and}
use Rattle.jc_pool.specs.Pool.{PoolValue}
use Rattle.jc_pool.specs.Lookup.{computed_of}
use Rattle.jc_pool.specs.Adding.{PutsComputed}
use Rattle.jc_pool.specs.Index.{GrowsBy, CountsTo, computed}
use Rattle.jc_pool.proofs.MemberLaws.{growth_refused}
use Rattle.jc_pool.proofs.add_linked.add_new_computed.Goals as goal

pub returns-in_err-check_room-clause-full : goal.returns-in_err-check_room-clause-full
returns-in_err-check_room-clause-full c =
    let old = c.args.slots.now.items in
    let what = computed c.args.c.now in
    let lacks = subst (λ (l : PoolValue). GrowsBy l (PutsComputed l what) c.missing_computed.result) c.deref.ensures.value c.missing_computed.ensures.lacks in
    let size : c.len-count.result ≡ length old = search rules in
    let counts = subst (λ (n : ℕ). CountsTo {X = Unit {0}} (Err c.in_err-check_room.field-0.0) (n + c.missing_computed.result)) size c.in_err-check_room.ensures.full in
    let p = err_from_is_err_and c.from_residual.result c.from_residual.ensures.1 in
    rw (p.1, p.2) (growth_refused (Unit {0}) ℕ computed_of what old (PutsComputed old what) c.missing_computed.result c.in_err-check_room.field-0.0 c.requires.new lacks counts)
