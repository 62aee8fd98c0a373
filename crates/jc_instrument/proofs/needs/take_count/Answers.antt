use Rattle.std.proofs.Common.{ℕ, ℤ, pos, ◌<◌, List, sym, subst, IfErr, w32, arith}
use Rattle.std.proofs.lemmas.Int.{to_z_pos}
use Rattle.jc_pool.specs.Adding.{HasInteger, RefusesFull}
use Rattle.jc_instrument.specs.Contents.{Content, integer_entry}
use Rattle.jc_instrument.specs.Taking.{RefusesEach}
use Rattle.jc_instrument.proofs.TakingLaws.{count_needed, one_refused}
use Rattle.jc_instrument.proofs.needs.take_count.Goals as goal

pub returns-clause-refused : goal.returns-clause-refused
returns-clause-refused c =
    let n = c.args.count in
    let most = c.requires in
    let value = to_z_pos w32 n (let small : n < 2147483648 = omega (arith, most) in small) in
    subst (λ (cs : List Content). IfErr c.add_int.result (RefusesEach c.args.pool.now cs)) (sym (count_needed n (omega arith)))
    (one_refused c.args.pool.now (integer_entry (pos n)) c.add_int.result
    (subst (λ (v : ℤ). RefusesFull (HasInteger c.args.pool.now v) c.add_int.result) value c.add_int.ensures.full))
