use Rattle.std.proofs.Common.{◌≡◌, ◌+◌, ◌∷◌, [], ◌++◌, take, sym, ap, ◌∙◌, subst}
use Rattle.std.proofs.lemmas.List.{take_more}
use Rattle.tests_workers.specs.Begin.{Begin}
use Rattle.tests_workers.proofs.BeginLaws.{one_more_begins}
use Rattle.tests_workers.proofs.work.begin.Goals as goal

pub seeking-preserved : goal.seeking-preserved
seeking-preserved c =
    let program = c.args.program.now in
    let threads = c.args.threads.now in
    let k = c.seeking.thread-index in
    let item = c.thread-item.result in
    let more : take (k + 1) threads ≡ take k threads ++ item ∷ [] =
    take_more threads k item c.seeking-test.true ∙ ap (λ x. take k threads ++ x ∷ []) (sym c.thread-item.is) in
    subst (Begin program) (sym more)
    (one_more_begins program (take k threads) item c.in-Some._method c.seeking.invariant (sym c.entry.ensures ∙ c.in-Some.is))
