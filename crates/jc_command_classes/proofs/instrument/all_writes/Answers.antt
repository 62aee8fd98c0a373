use Rattle.std.proofs.Common.{◌≡◌, ◌<◌, rules, ℕ, List, Bor, length, min, sym, ◌∙◌, ap, subst, arith}
use Rattle.std.specs.List.{AllZip, zip}
use Rattle.std.proofs.lemmas.Iterator.{YieldsList-from_zip}
use Rattle.std.proofs.lemmas.Iterator.Adapters.{YieldsList-from_vec}
use Rattle.std.proofs.lemmas.Iterator.Consumers.{YieldsList-at, YieldsList-from_enumerate, YieldsList-turn, YieldsList-end}
use Rattle.std.proofs.lemmas.List.FromFn.{length-enumerate_from}
use Rattle.std.proofs.lemmas.Slice.Zip.{AllZip-long, length-zip}
use Rattle.std.proofs.lemmas.List.{length_push, length-map}
use Rattle.jc_command_work.specs.Step.{FilesRead}
use Rattle.jc_command_classes.specs.declared.instrument.Decided.{Decided}
use Rattle.jc_command_classes.specs.Instrument.{IsDecision, decision_seen}
use Rattle.jc_command_classes.proofs.EachLaws.{AtPlace, at_place}
use Rattle.jc_command_classes.proofs.InstrumentLaws.{path_at, decided_written, all_written}
use Rattle.jc_command_classes.proofs.instrument.all_writes.Goals as goal

pub instrumenting-preserved : goal.instrumenting-preserved
instrumenting-preserved g c =
    let all = c.in_ok-all.all.items in
    let inputs = c.args.targeted.inputs in
    let same = c.into_parts-inputs.ensures.inputs in
    let targets = c.into_parts-inputs.result.1.items in
    let paths = c.into_parts-paths.result.0.items in
    let read = c.into_parts-paths.result.1.items in
    let texts_are = c.texts.ensures.texts ∙ ap (λ (f : FilesRead). f.texts) same in
    let paths_are = c.into_parts-paths.ensures.paths ∙ ap (λ (f : FilesRead). f.paths) same in
    let read_are = c.into_parts-paths.ensures.texts ∙ ap (λ (f : FilesRead). f.texts) same in
    let as_many : length targets ≡ length inputs.texts = c.into_parts-inputs.ensures.each ∙ ap (λ (f : FilesRead). length f.texts) same in
    let many : length inputs.texts ≡ length inputs.paths = sym (ap length texts_are) ∙ c.texts.ensures.each ∙ ap (λ (f : FilesRead). length f.paths) same in
    let listed : length c.args.targeted.targets ≡ length inputs.paths =
    sym (ap length c.into_parts-inputs.ensures.targets) ∙ length-map targets (λ (t : Bor (List ℕ)). t.now) ∙ as_many ∙ many in
    let n = length c.instrumenting.yielded in
    let item : ℕ × (Decided × List ℕ) = (c.in-Some.index, (c.in-Some.decided, c.in-Some.bytes)) in
    let pairs = YieldsList-from_zip (YieldsList-at c.zip.ensures.first (YieldsList-from_vec all c.into_iter.ensures.rest (search rules)))
    (YieldsList-from_vec read c.zip.ensures.second.0 (search rules)) in
    let turn = YieldsList-turn
    (YieldsList-at c.into_iter-index-iterator.ensures.into_iter_gives
    (YieldsList-from_enumerate (YieldsList-at c.enumerate-index-items.ensures.source pairs) c.enumerate-index-items.ensures.count))
    c.instrumenting.yielded c.instrumenting.index-iterator c.instrumenting.yielded_by c.next.result c.next.new.self item c.in-Some.is c.next.ensures.steps in
    let place = at_place (zip all read) n c.in-Some.index (c.in-Some.decided, c.in-Some.bytes) turn.0 turn.1 in
    let zipped : n < min (length all) (length read) = subst (λ (k : ℕ). n < k) (length-zip all read) place.within in
    let inside : c.in-Some.index < length paths = (let each = c.into_parts-paths.ensures.each in let at = place.index_is in omega (arith, zipped, each, at)) in
    let aimed : c.in-Some.index < length targets = (let each = ap length read_are in let at = place.index_is in omega (arith, zipped, each, at, as_many)) in
    rw (length_push c.instrumenting.yielded item)
    (decided_written c.args.targeted.targets inputs.paths inputs.texts all n c.in-Some.index c.in-Some.decided c.in-Some.bytes
    c.index.result.now.now c.index-in-instrumenting.result.now.now c.instrumenting.writes.items c.put_file.new.writes.items
    (subst (λ (ts : List (List ℕ)). AllZip (λ t d. IsDecision t (decision_seen d)) ts all) texts_are c.in_ok-all.ensures)
    listed many (subst (λ (ts : List (List ℕ)). AtPlace (zip all ts) n c.in-Some.index (c.in-Some.decided, c.in-Some.bytes)) read_are place)
    (path_at targets c.args.targeted.targets c.in-Some.index c.index.result.now c.into_parts-inputs.ensures.targets aimed c.index.ensures)
    (path_at paths inputs.paths c.in-Some.index c.index-in-instrumenting.result.now paths_are inside c.index-in-instrumenting.ensures) c.instrumenting.invariant c.in_ok-put_file.ensures)

pub returns : goal.returns
returns g c =
    let all = c.in_ok-all.all.items in
    let inputs = c.args.targeted.inputs in
    let same = c.into_parts-inputs.ensures.inputs in
    let targets = c.into_parts-inputs.result.1.items in
    let read = c.into_parts-paths.result.1.items in
    let texts_are = c.texts.ensures.texts ∙ ap (λ (f : FilesRead). f.texts) same in
    let listed : length c.args.targeted.targets ≡ length inputs.texts =
    sym (ap length c.into_parts-inputs.ensures.targets) ∙ length-map targets (λ (t : Bor (List ℕ)). t.now)
    ∙ c.into_parts-inputs.ensures.each ∙ ap (λ (f : FilesRead). length f.texts) same in
    let n = length c.instrumenting.yielded in
    let pairs = YieldsList-from_zip (YieldsList-at c.zip.ensures.first (YieldsList-from_vec all c.into_iter.ensures.rest (search rules)))
    (YieldsList-from_vec read c.zip.ensures.second.0 (search rules)) in
    let end = YieldsList-end
    (YieldsList-at c.into_iter-index-iterator.ensures.into_iter_gives
    (YieldsList-from_enumerate (YieldsList-at c.enumerate-index-items.ensures.source pairs) c.enumerate-index-items.ensures.count))
    c.instrumenting.yielded c.instrumenting.index-iterator c.instrumenting.yielded_by c.next.result c.next.new.self c.in-None.is c.next.ensures.steps in
    let each = subst (λ (ts : List (List ℕ)). AllZip (λ t d. IsDecision t (decision_seen d)) ts all) texts_are c.in_ok-all.ensures in
    let long = AllZip-long _ inputs.texts all each in
    let many : length inputs.texts ≡ length inputs.paths = sym (ap length texts_are) ∙ c.texts.ensures.each ∙ ap (λ (f : FilesRead). length f.paths) same in
    let read_long : length read ≡ length inputs.texts = ap length c.into_parts-paths.ensures.texts ∙ ap (λ (f : FilesRead). length f.texts) same in
    let made : n ≡ min (length all) (length read) = end.1 ∙ length-enumerate_from 0 (zip all read) ∙ length-zip all read in
    all_written c.args.targeted.targets inputs.paths inputs.texts n c.instrumenting.writes.items (omega (arith, made, read_long, long, listed))
    (omega (arith, made, read_long, long, many)) (omega (arith, made, read_long, long)) c.instrumenting.invariant
