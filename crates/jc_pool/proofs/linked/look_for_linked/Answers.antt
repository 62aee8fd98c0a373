use Rattle.std.proofs.Common.{◌≡◌, ⊎_elim, arith, subst, sym}
use Rattle.std.proofs.lemmas.Bool.{cases_lt}
use Rattle.jc_pool.specs.Index.{linked_key_at}
use Rattle.std.specs.Prelude.{Some}
use Rattle.jc_pool.proofs.linked.look_for_linked.Goals as goal

pub finding-preserved : goal.finding-preserved
finding-preserved c = λ place below found.
    ⊎_elim (λ less. c.finding.invariant place less found)
    (λ above.
    let same : place ≡ c.finding.place = omega (arith, below, above) in
    let there = c.is_linked_there.ensures.1 (subst (λ at. linked_key_at c.args.firsts.now c.args.slots.now at ≡ Some c.args.key) same found) in
    let no = c.if-is_linked_there.false in absurd cc)
    (cases_lt place c.finding.place)
