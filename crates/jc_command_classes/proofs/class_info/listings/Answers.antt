use Rattle.std.proofs.Common.{rules, ℕ, List, Result, Vec, length, sym, ◌∙◌, subst, ap, arith}
use Rattle.std.proofs.lemmas.Iterator.Adapters.{YieldsList-from_vec}
use Rattle.std.proofs.lemmas.Iterator.Consumers.{YieldsList-from_enumerate, YieldsList-turn, YieldsList-end}
use Rattle.std.proofs.lemmas.List.{length_push}
use Rattle.std.proofs.lemmas.List.FromFn.{length-enumerate_from}
use Rattle.std.specs.List.{AllZip}
use Rattle.std.specs.declared.alloc.Global.{Global}
use Rattle.jc_bytes.specs.declared.fail.Fail.{Fail}
use Rattle.jc_bytes.specs.declared.refusal.Refusal.{Refusal}
use Rattle.jc_command_classes.specs.ClassInfo.{IsListing}
use Rattle.jc_command_classes.proofs.EachLaws.{at_place}
use Rattle.jc_command_classes.proofs.ListingLaws.{no_lines, listing_put, listing_refused, listing_done}
use Rattle.jc_command_classes.proofs.class_info.listings.Goals as goal

pub listing-init : goal.listing-init
listing-init g c = no_lines c.args.inputs.now.texts c.new-writes.result.items c.new-writes.ensures.items

pub listing-preserved : goal.listing-preserved
listing-preserved g c =
    let answers = c.in_ok-answers.answers.items in
    let each = subst (λ (ts : List (List ℕ)). AllZip IsListing ts answers) c.texts.ensures.texts c.in_ok-answers.ensures.each in
    let n = length c.listing.yielded in
    let item : ℕ × Result (Vec ℕ Global) (Fail Refusal) = (c.in-Some.index, c.in-Some.answer) in
    let turn = YieldsList-turn (YieldsList-from_enumerate (YieldsList-from_vec answers (cc) (search rules)) (cc))
    c.listing.yielded c.listing.index-iterator c.listing.yielded_by c.next.result c.next.new.self item c.in-Some.is c.next.ensures.steps in
    rw (length_push c.listing.yielded item)
    (listing_put c.args.inputs.now.texts answers each c.listing.writes.items n c.in-Some.index c.in-Some.answer c.listing.invariant
    (at_place answers n c.in-Some.index c.in-Some.answer turn.0 turn.1) c.keep.new.writes.items c.in-Ok.text c.in-Ok.is c.in_ok-keep-in-Ok.ensures)

pub returns-in-Err : goal.returns-in-Err
returns-in-Err g c =
    let answers = c.in_ok-answers.answers.items in
    let each = subst (λ (ts : List (List ℕ)). AllZip IsListing ts answers) c.texts.ensures.texts c.in_ok-answers.ensures.each in
    let n = length c.listing.yielded in
    let item : ℕ × Result (Vec ℕ Global) (Fail Refusal) = (c.in-Some.index, c.in-Some.answer) in
    let turn = YieldsList-turn (YieldsList-from_enumerate (YieldsList-from_vec answers (cc) (search rules)) (cc))
    c.listing.yielded c.listing.index-iterator c.listing.yielded_by c.next.result c.next.new.self item c.in-Some.is c.next.ensures.steps in
    rw c.class_stop.ensures
    (listing_refused c.args.inputs.now.texts answers each c.listing.writes.items n c.in-Some.index c.in-Some.answer c.listing.invariant
    (at_place answers n c.in-Some.index c.in-Some.answer turn.0 turn.1) c.args.inputs.now.paths c.in-Err.fail c.path.result
    (sym c.texts.ensures.each ∙ ap length c.texts.ensures.texts) c.in-Err.is c.path.ensures)

pub returns : goal.returns
returns g c =
    let answers = c.in_ok-answers.answers.items in
    let end = YieldsList-end (YieldsList-from_enumerate (YieldsList-from_vec answers (cc) (search rules)) (cc))
    c.listing.yielded c.listing.index-iterator c.listing.yielded_by c.next.result c.next.new.self c.in-None.is c.next.ensures.steps in
    listing_done c.args.inputs.now.paths c.args.inputs.now.texts c.listing.writes (length c.listing.yielded) c.listing.invariant
    (omega (arith, end.1, length-enumerate_from 0 answers, c.in_ok-answers.ensures.len, ap length c.texts.ensures.texts))
