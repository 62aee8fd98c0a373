use Rattle.jc_workers.proofs.RanLaws.{filtered_some, filtered_none}
use Rattle.jc_workers.proofs.results.all_ends.Goals as goal

pub taking-preserved-in-Continue-branch-2 : goal.taking-preserved-in-Continue-branch-2
taking-preserved-in-Continue-branch-2 g c = filtered_some c.taking.yielded c.in-Some.end c.in-Some-end.end c.taking.all.items c.push.new.self.items
    c.in-Some-end.is c.taking.invariant c.in_ok-push.ensures.items

pub taking-preserved : goal.taking-preserved
taking-preserved g c = filtered_none c.taking.yielded c.in-Some.end c.taking.all.items c.in_default.is c.taking.invariant
