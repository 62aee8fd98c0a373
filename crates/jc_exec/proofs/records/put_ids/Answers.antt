use Rattle.std.proofs.Common.{length, take, ◌∙◌, ap, arith}
use Rattle.jc_exec.proofs.EntriesLaws.{ids_next, ids_stay}
use Rattle.jc_exec.proofs.records.put_ids.Goals as goal

pub putting-preserved : goal.putting-preserved
putting-preserved c = ids_next c.args.ids.now c.putting.ids c.put_id.new.ids c.args.gathered.now c.putting.hits-index c.hits-item.result
    c.putting.invariant (omega (arith, c.putting-test.true)) c.hits-item.is c.in_ok-put_id.ensures.ok

pub returns-in_err-put_id-clause-front : goal.returns-in_err-put_id-clause-front
returns-in_err-put_id-clause-front c =
    ap (take (length c.args.ids.now)) (c.in_err-put_id.ensures.err ∙ c.putting.invariant) ∙ ids_stay c.args.ids.now (take c.putting.hits-index c.args.gathered.now)

pub returns-clause-front : goal.returns-clause-front
returns-clause-front c = ap (take (length c.args.ids.now)) c.putting.invariant ∙ ids_stay c.args.ids.now (take c.putting.hits-index c.args.gathered.now)
