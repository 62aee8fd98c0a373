use Rattle.std.proofs.Common.{ℕ, List, ◌∷◌, [], ◌++◌, sym, subst, arith}
use Rattle.jc_bytes.specs.BigNumbers.{short}
use Rattle.jc_bootstraps.specs.Bootstraps.{bootstraps, without_arguments}
use Rattle.jc_bootstraps.proofs.BootstrapLaws.{first_one, one_more, put_parts}
use Rattle.jc_bootstraps.proofs.bootstraps.push_bootstrap.Goals as goal

pub returns-clause-body : goal.returns-clause-body
unfolding short
returns-clause-body c =
    put_parts c.args.handle c.args.count c.args.body.now _ _ _ _ _ _ _ c.new-bytes.ensures.items c.in_ok-put_short.ensures
    c.behind_count.ensures c.in_ok-put_bytes.ensures.ok c.in_ok-put_short-2.ensures c.in_ok-put_short-3.ensures c.from_vec.ensures

pub returns-clause-more : goal.returns-clause-more
unfolding short
returns-clause-more c = λ entries text is.
    let made =
    put_parts c.args.handle c.args.count c.args.body.now _ _ _ _ _ _ _ c.new-bytes.ensures.items c.in_ok-put_short.ensures
    c.behind_count.ensures c.in_ok-put_bytes.ensures.ok c.in_ok-put_short-2.ensures c.in_ok-put_short-3.ensures c.from_vec.ensures in
    subst (λ (l : List ℕ). bootstraps.Text l (entries ++ without_arguments c.args.handle ∷ [])) (sym made)
    (one_more c.args.handle c.args.count c.args.body.now entries (omega (arith, c.ranges.handle)) c.requires.few text is)

pub returns-clause-first : goal.returns-clause-first
unfolding short
returns-clause-first c = λ empty none.
    let made =
    put_parts c.args.handle c.args.count c.args.body.now _ _ _ _ _ _ _ c.new-bytes.ensures.items c.in_ok-put_short.ensures
    c.behind_count.ensures c.in_ok-put_bytes.ensures.ok c.in_ok-put_short-2.ensures c.in_ok-put_short-3.ensures c.from_vec.ensures in
    subst (λ (l : List ℕ). bootstraps.Text l (without_arguments c.args.handle ∷ [])) (sym made)
    (first_one c.args.handle c.args.count c.args.body.now (omega (arith, c.ranges.handle)) empty none)
