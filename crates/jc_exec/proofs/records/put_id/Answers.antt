use Rattle.std.proofs.Common.{sym, ◌∙◌}
use Rattle.std.proofs.lemmas.Result.{on_ok_weaker}
use Rattle.jc_bytes.proofs.OptionLaws.{some_none}
use Rattle.jc_exec.proofs.EntriesLaws.{with_present, with_absent}
use Rattle.jc_exec.proofs.records.put_id.Goals as goal

pub push-requires : goal.push-requires
push-requires c = λ k lt same. some_none (sym (c.place.ensures.only k lt same) ∙ c.in-None.is)

pub returns-in-Some-clause-ok : goal.returns-in-Some-clause-ok
returns-in-Some-clause-ok c = sym (with_present c.args.ids.now c.args.id c.in-Some.field-0 c.in-Some.ensures.found.0 c.in-Some.ensures.found.1)

pub returns-in-None-clause-ok : goal.returns-in-None-clause-ok
returns-in-None-clause-ok c = on_ok_weaker c.push.result
    (λ is. is ∙ sym (with_absent c.args.ids.now c.args.id (λ k lt same. some_none (sym (c.place.ensures.only k lt same) ∙ c.in-None.is)))) c.push.ensures.ok
