use Rattle.std.proofs.Common.{Bool, false, List, [], ◌∷◌, ◌++◌, length, map, take, drop, get_or, sym, ◌∙◌, ap, arith, length-append}
use Rattle.std.proofs.lemmas.List.{drop_all, append-nil}
use Rattle.std.proofs.lemmas.List.Elements.{All-take, All-get_or}
use Rattle.jc_methods.specs.declared.kind.Kind.{Kind}
use Rattle.jc_methods.specs.declared.kind.Kind.TheVariants as kinds
use Rattle.jc_methods.specs.VerificationTypes.{verification_type, IsNumbered}
use Rattle.jc_frames.specs.Frames.{values_from}
use Rattle.jc_frames.specs.FullTable.{IsPlaced}
use Rattle.jc_frames.proofs.BuildingLaws.{one_at_end}
use Rattle.jc_frames.proofs.EntryValuesLaws.{listed_with, skipped, listed_one}
use Rattle.jc_frames.proofs.running.kinds_in_locals.Goals as goal
use Rattle.jc_frames.proofs.running.kinds_in_locals.Goals.{then-skips, else-skips+in_ok-push}

pub listing-preserved : goal.listing-preserved
listing-preserved c =
    let xs = take c.end_of_values.result c.args.locals.now in
    let i = c.listing.kind-index in
    let ks = c.listing.kinds.items in
    let x = get_or xs i kinds.Top in
    elim c.if-skips.branch [
      | then-skips w ↦ rw (w.kinds-is, w.skips-is) (record {
        values = λ names. c.listing.invariant.values names ∙ ap (λ (b : Bool). listed_with names ks b (drop i xs)) w.if-skips.true ∙ skipped names ks xs i c.listing-test.true;
        few = omega (arith, c.listing.invariant.few);
        numbered = c.listing.invariant.numbered;
        placed = c.listing.invariant.placed;
      })
      | else-skips+in_ok-push w ↦ let pushed = w.in_ok-push.ensures.items in rw (w.kinds-is, w.skips-is) (record {
        values = λ names. c.listing.invariant.values names ∙ ap (λ (b : Bool). listed_with names ks b (drop i xs)) w.if-skips.false
            ∙ listed_one names ks w.push.new.self.items xs i w.is_wide-skips.result c.listing-test.true pushed (w.is_wide-skips.ensures names);
        few = let e = ap (λ (l : List Kind). length l) pushed in omega (arith, e, length-append ks (x ∷ []), c.listing.invariant.few);
        numbered = λ count all. one_at_end (IsNumbered count) ks w.push.new.self.items x pushed (c.listing.invariant.numbered count all)
            (All-get_or (IsNumbered count) xs i kinds.Top c.listing-test.true all);
        placed = λ count all. one_at_end (IsPlaced count) ks w.push.new.self.items x pushed (c.listing.invariant.placed count all) (All-get_or (IsPlaced count) xs i kinds.Top c.listing-test.true all);
      })
    ]

pub returns-clause-values : goal.returns-clause-values
returns-clause-values c names =
    let xs = take c.end_of_values.result c.args.locals.now in
    sym (append-nil (map (verification_type names) c.listing.kinds.items))
    ∙ ap (λ (l : List Kind). map (verification_type names) c.listing.kinds.items ++ values_from c.listing.skips (map (verification_type names) l))
    (sym (drop_all c.listing.kind-index xs c.listing-test.false))
    ∙ sym (c.listing.invariant.values names)
    ∙ ap (values_from false) (sym (c.end_of_values.ensures.trimmed names))

pub returns-clause-numbered : goal.returns-clause-numbered
returns-clause-numbered c count all = c.listing.invariant.numbered count (All-take (IsNumbered count) c.end_of_values.result c.args.locals.now all)

pub returns-clause-placed : goal.returns-clause-placed
returns-clause-placed c count all = c.listing.invariant.placed count (All-take (IsPlaced count) c.end_of_values.result c.args.locals.now all)
