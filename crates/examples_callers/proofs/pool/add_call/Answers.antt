use Rattle.std.proofs.Common.{lit≤}
use Rattle.jc_pool.specs.declared.index.Naming.TheVariants as naming
use Rattle.jc_pool.proofs.AddedLaws.{naming_there, naming_kept}
use Rattle.jc_pool.proofs.AddedMemberLaws.{member_there}
use Rattle.examples_callers.proofs.pool.add_call.Goals as goal

pub returns-clause-text : goal.returns-clause-text
returns-clause-text c =
    let there = naming_there naming.String c.args.pool.now c.add_string.new.self c.args.text.now c.in_ok-text.text c.in_ok-text.ensures.ok in
    naming_kept naming.String c.add_string.new.self c.add_member.new.self c.args.text.now c.in_ok-text.text c.in_ok-method.ensures.extends there

pub returns-clause-method : goal.returns-clause-method
returns-clause-method c =
    member_there c.add_string.new.self c.add_member.new.self _ c.in_ok-method.method (lit≤ tt, lit≤ tt) c.in_ok-method.ensures.ok
