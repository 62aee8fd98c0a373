use Rattle.std.proofs.Common.{◌≡◌, ◌++◌, ℕ, List, sym, subst}
use Rattle.std.specs.Prelude.{OnOk}
use Rattle.jc_instrument_code.proofs.InitLaws.{count_small, count_big}
use Rattle.jc_instrument_code.proofs.init.put_count.Goals as goal

pub returns-then-count-le-MOST_SHORT : goal.returns-then-count-le-MOST_SHORT
returns-then-count-le-MOST_SHORT c =
    subst (λ (text : List ℕ). OnOk c.put_push.result (c.put_push.new.into.items ≡ c.args.into.now.items ++ text))
    (sym (count_small c.args.integer c.args.count c.if-count-le-MOST_SHORT.true)) c.put_push.ensures

pub returns-else-count-le-MOST_SHORT : goal.returns-else-count-le-MOST_SHORT
returns-else-count-le-MOST_SHORT c =
    subst (λ (text : List ℕ). OnOk c.put_with_short.result (c.put_with_short.new.into.items ≡ c.args.into.now.items ++ text))
    (sym (count_big c.args.integer c.args.count c.if-count-le-MOST_SHORT.false)) c.put_with_short.ensures
