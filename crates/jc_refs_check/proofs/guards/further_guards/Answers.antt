use Rattle.std.proofs.Common.{◌≤◌, ◌∙◌, arith}
use Rattle.std.proofs.lemmas.List.{get_or_default}
use Rattle.jc_refs_check.proofs.GuardLaws.{no_guard, guard_at}
use Rattle.jc_refs_check.proofs.FurtherLaws.{kept_on, all_kept}
use Rattle.jc_refs_check.proofs.guards.further_guards.Goals as goal

pub keeping-preserved : goal.keeping-preserved
keeping-preserved c =
    let rows = c.args.guards.now in let i = c.keeping.guard-index in let guard = guard_at rows i in
    let size = c.keeping.invariant.size in
    let low : guard.frame ≤ c.args.count = c.requires.within i no_guard c.keeping-test.true in
    record {
      kept = kept_on rows i guard c.requires.starts c.keeping-test.true (get_or_default rows i no_guard guard c.keeping-test.true) c.keeping.kept.items c.keeping.ends.items
          c.keeping.invariant.kept c.keep_further.new.kept.items c.keep_further.new.ends.items (omega (arith, size, low)) c.in_ok-keep_further.ensures.further
          c.in_ok-keep_further.ensures.near;
      size = c.in_ok-keep_further.ensures.room ∙ size;
    }

pub returns : goal.returns
returns c = all_kept c.args.guards.now c.keeping.kept.items c.keeping.guard-index c.keeping.ends.items c.keeping-test.false c.keeping.invariant.kept
