use Rattle.std.proofs.Common.{length, rules}
use Rattle.std.proofs.lemmas.Iterator.Adapters.{YieldsList-from_vec}
use Rattle.std.proofs.lemmas.Iterator.Consumers.{YieldsList-turn}
use Rattle.std.proofs.lemmas.List.{length_push}
use Rattle.jc_command_work.proofs.OnceLaws.{kept_next}
use Rattle.jc_command_work.proofs.folders.once.Goals as goal

pub keeping-preserved : goal.keeping-preserved
keeping-preserved c =
    let paths = c.args.paths.items in
    let path = c.in-Some.path in
    let turn = YieldsList-turn (YieldsList-from_vec paths (cc) (search rules)) c.keeping.yielded c.keeping.path-iterator c.keeping.yielded_by
    c.next.result c.next.new.self path c.in-Some.is c.next.ensures.steps in
    rw (length_push c.keeping.yielded path)
    (kept_next paths c.keeping.seen.keys c.insert_full.new.self.keys (length c.keeping.yielded) path turn.0 turn.1 c.in_ok-insert_full.ensures.keys c.keeping.invariant)
