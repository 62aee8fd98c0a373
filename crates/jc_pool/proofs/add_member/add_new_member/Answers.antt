use Rattle.std.proofs.Common.{◌≡◌, ℕ, ◌+◌, length, Err, subst, rules}
use Rattle.std.proofs.lemmas.Result.{err_from_is_err_and}
use Rattle.jc_pool.specs.Pool.{PoolValue}
use Rattle.jc_pool.specs.Lookup.{member, member_of}
use Rattle.jc_pool.specs.Adding.{PutsMember}
use Rattle.jc_pool.specs.Index.{Lacks, CountsTo}
use Rattle.jc_pool.proofs.MemberLaws.{growth_refused}
use Rattle.jc_pool.proofs.add_member.add_new_member.Goals as goal

pub returns-in_err-check_room-clause-full : goal.returns-in_err-check_room-clause-full
returns-in_err-check_room-clause-full c =
    let lacks = subst (λ (l : PoolValue). Lacks l (member c.args.m.now) c.missing_member.result) c.deref.ensures.value c.missing_member.ensures.lacks in
    let size : c.len-count.result ≡ length c.args.slots.now.items = search rules in
    let counts = subst (λ (n : ℕ). CountsTo {X = Unit {0}} (Err c.in_err-check_room.field-0.0) (n + c.missing_member.result)) size c.in_err-check_room.ensures.full in
    let p = err_from_is_err_and c.from_residual.result c.from_residual.ensures.1 in
    rw (p.1, p.2) (growth_refused (Unit {0}) ℕ member_of (member c.args.m.now) c.args.slots.now.items (PutsMember c.args.slots.now.items (member c.args.m.now)) c.missing_member.result
    c.in_err-check_room.field-0.0 c.requires.new lacks counts)
