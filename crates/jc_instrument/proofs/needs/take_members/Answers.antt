use Rattle.std.proofs.Common.{[], IfOk, IfErr, sym, subst}
use Rattle.jc_methods.specs.declared.probe_members.Fetch.{Fetch}
use Rattle.jc_instrument.specs.Contents.{TakesEach}
use Rattle.jc_instrument.specs.Needed.{member_needs, place_list, signed_id}
use Rattle.jc_instrument.specs.Taking.{RefusesEach}
use Rattle.jc_instrument.proofs.needs.take_members.Goals as goal

pub returns-in-Member-clause-ok : goal.returns-in-Member-clause-ok
returns-in-Member-clause-ok c =
    subst (λ (f : Fetch). IfOk c.take_field_members.result (λ places. TakesEach c.args.pool.now (member_needs f c.args.owner.now (signed_id c.args.id) c.args.count [])
    c.take_field_members.new.pool (place_list f c.args.count [] places))) (sym c.in-Member.is) c.take_field_members.ensures.ok

pub returns-in-Member-clause-refused : goal.returns-in-Member-clause-refused
returns-in-Member-clause-refused c =
    subst (λ (f : Fetch). IfErr c.take_field_members.result (RefusesEach c.args.pool.now (member_needs f c.args.owner.now (signed_id c.args.id) c.args.count [])))
    (sym c.in-Member.is) c.take_field_members.ensures.refused

pub returns-in-Constant-clause-ok : goal.returns-in-Constant-clause-ok
returns-in-Constant-clause-ok c =
    subst (λ (f : Fetch). IfOk c.take_bootstrap_members.result (λ places. TakesEach c.args.pool.now (member_needs f c.args.owner.now (signed_id c.args.id) c.args.count [])
    c.take_bootstrap_members.new.pool (place_list f c.args.count [] places))) (sym c.in-Constant.is) c.take_bootstrap_members.ensures.ok
