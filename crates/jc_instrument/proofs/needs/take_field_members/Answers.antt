use Rattle.std.proofs.Common.{◌≡◌, ℕ, ◌<◌, List, [], ◌∷◌, ◌++◌, get_or, length, sym, subst, ◌∙◌, ap, arith}
use Rattle.std.proofs.lemmas.List.{get_or_default}
use Rattle.std.proofs.lemmas.Result.{err_from_is_err_and}
use Rattle.jc_instrument.specs.Contents.{Content, TakesEach}
use Rattle.jc_instrument.specs.Needed.{count_needs, count_places, signed_id}
use Rattle.jc_instrument.specs.Taking.{contents_of}
use Rattle.jc_instrument.specs.declared.needs.TheConstants as constants
use Rattle.jc_instrument.proofs.TakingLaws.{all_items, items_from, refused_before, refused_behind, takes_both}
use Rattle.jc_instrument.proofs.needs.take_field_members.Goals as goal

pub returns-in_err-places-clause-refused : goal.returns-in_err-places-clause-refused
returns-in_err-places-clause-refused c =
    let p = err_from_is_err_and c.from_residual.result c.from_residual.ensures.1 in
    rw (p.1, p.2) (refused_before c.args.pool.now (contents_of c.args.owner.now (signed_id c.args.id) constants.FIELD_NEEDS) (count_needs c.args.count)
    c.in_err-places.field-0.0 c.in_err-places.ensures.refused)

pub returns-in_err-take_count-clause-refused : goal.returns-in_err-take_count-clause-refused
returns-in_err-take_count-clause-refused c =
    let p = err_from_is_err_and c.from_residual-in_err-take_count.result c.from_residual-in_err-take_count.ensures.1 in
    rw (p.1, p.2) (refused_behind c.args.pool.now c.take_each.new.pool (contents_of c.args.owner.now (signed_id c.args.id) constants.FIELD_NEEDS)
    (count_needs c.args.count) c.in_ok-places.places.items c.in_err-take_count.field-0.0 c.in_ok-places.ensures.ok c.in_err-take_count.ensures.refused)

pub returns-clause-ok : goal.returns-clause-ok
returns-clause-ok c =
    let l = c.in_ok-places.places.items in
    let count : length l ≡ 12 = c.in_ok-places.ensures.count in
    let at : (n a : ℕ) → n < 12 → a ≡ get_or l n a → get_or l n 0 ≡ a = λ n a less is.
    get_or_default l n 0 a (let m : n < length l = omega (arith, less, count) in m) ∙ sym is in
    let are : items_from 12 0 l
    ≡ c.index.result.now
    ∷ c.index-2.result.now
    ∷ c.index-3.result.now
    ∷ c.index-4.result.now
    ∷ c.index-5.result.now
    ∷ c.index-6.result.now
    ∷ c.index-7.result.now
    ∷ c.index-8.result.now
    ∷ c.index-9.result.now
    ∷ c.index-10.result.now
    ∷ c.index-11.result.now
    ∷ c.index-12.result.now
    ∷ [] = λ i.
    at 0 c.index.result.now (omega arith) c.index.ensures i
    ∷ at 1 c.index-2.result.now (omega arith) c.index-2.ensures i
    ∷ at 2 c.index-3.result.now (omega arith) c.index-3.ensures i
    ∷ at 3 c.index-4.result.now (omega arith) c.index-4.ensures i
    ∷ at 4 c.index-5.result.now (omega arith) c.index-5.ensures i
    ∷ at 5 c.index-6.result.now (omega arith) c.index-6.ensures i
    ∷ at 6 c.index-7.result.now (omega arith) c.index-7.ensures i
    ∷ at 7 c.index-8.result.now (omega arith) c.index-8.ensures i
    ∷ at 8 c.index-9.result.now (omega arith) c.index-9.ensures i
    ∷ at 9 c.index-10.result.now (omega arith) c.index-10.ensures i
    ∷ at 10 c.index-11.result.now (omega arith) c.index-11.ensures i
    ∷ at 11 c.index-12.result.now (omega arith) c.index-12.ensures i
    ∷ [] in
    let needs = contents_of c.args.owner.now (signed_id c.args.id) constants.FIELD_NEEDS in
    let both = takes_both c.args.pool.now c.take_each.new.pool c.take_count.new.pool needs (count_needs c.args.count) l
    (count_places c.args.count c.in_ok-take_count.field-0) c.in_ok-places.ensures.ok c.in_ok-take_count.ensures.ok in
    subst (λ (places : List ℕ). TakesEach c.args.pool.now (needs ++ count_needs c.args.count) c.take_count.new.pool
    (places ++ count_places c.args.count c.in_ok-take_count.field-0))
    (sym (all_items l) ∙ ap (λ (n : ℕ). items_from n 0 l) count ∙ are) both
