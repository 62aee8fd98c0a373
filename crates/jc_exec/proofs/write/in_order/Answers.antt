use Rattle.std.proofs.Common.{rules, refl, ◌∙◌, ap}
use Rattle.std.proofs.lemmas.Iterator.Consumers.{map_from_collect}
use Rattle.std.proofs.lemmas.Iterator.{YieldsList-from_slice}
use Rattle.std.proofs.lemmas.List.Sorted.{answers_always}
use Rattle.std.proofs.lemmas.Result.{IfOk-at_ok}
use Rattle.jc_exec.specs.Writing.{by_dump}
use Rattle.jc_exec.proofs.SessionLaws.{sorted_by_dump, lent_at}
use Rattle.jc_exec.proofs.write.in_order.Goals as goal

pub returns : goal.returns
returns c =
    let keys = answers_always _ _ _ (λ f a r next called. search rules) in
    sorted_by_dump (λ s. s.now) lent_at (λ time. refl) _ _ (c.in_ok-sort_by_key.ensures.sorted (λ s. s.now.dump) keys) (c.in_ok-sort_by_key.ensures.stable (λ s. s.now.dump) keys)
    ∙ ap by_dump (IfOk-at_ok _ c.in_ok-order.was (map_from_collect _ c.collect.ensures.ran (YieldsList-from_slice c.args.sessions.now c.iter.ensures.rest)))
