use Rattle.std.proofs.Common.{◌∙◌, ap, get_or, sym, subst, Option, None, Some, IfSome}
use Rattle.std.proofs.lemmas.List.{append-nil}
use Rattle.jc_methods.specs.declared.body.What.{What}
use Rattle.jc_methods.specs.WellMade.{HasShortTexts}
use Rattle.jc_body.proofs.UsesLaws.{lists_more, short_more}
use Rattle.jc_body.proofs.uses.listed_uses.Goals.{in-Some+in_ok-push, in_default}
use Rattle.jc_body.proofs.uses.listed_uses.Goals as goal

pub listing-preserved : goal.listing-preserved
listing-preserved c =
    let more = lists_more c.args.pool.now c.args.places.now c.listing.place-index c.listing.uses.items c.match-branch-3.uses.items in
    let short = short_more (get_or c.args.places.now c.listing.place-index 0) c.listing.uses.items c.match-branch-3.uses.items in
    elim c.match-branch-3.branch [
      | in-Some+in_ok-push w ↦
          (let put = ap (λ v. v.items) w.uses-is ∙ w.in_ok-push.ensures.items in (
            more (Some w.in-Some.what) c.listing-test.true (sym w.in-Some.is ∙ c.in_ok-what.ensures.what) c.listing.invariant.0 put,
            short (Some w.in-Some.what) c.listing.invariant.1 (subst (λ (o : Option What). IfSome o HasShortTexts) w.in-Some.is c.in_ok-what.ensures.short) put,
          ))
      | in_default w ↦
          (let put = ap (λ v. v.items) w.uses-is ∙ sym (append-nil c.listing.uses.items) in
          (more None c.listing-test.true (sym w.in_default.is ∙ c.in_ok-what.ensures.what) c.listing.invariant.0 put, short None c.listing.invariant.1 tt put))
    ]
