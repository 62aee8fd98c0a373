use Rattle.std.proofs.Common.{List, ℕ, [], Some, sym, ◌∙◌, ap, subst}
use Rattle.std.proofs.lemmas.Option.{get_or_from_slice_get}
use Rattle.jc_pool.specs.Adding.{IsFirst}
use Rattle.jc_pool.specs.Lookup.{class_name_of}
use Rattle.jc_frames.proofs.TakenLaws.{known_more, known_place}
use Rattle.jc_frames.proofs.full_frames.class_place.Goals as goal

pub returns-in-Some-clause-place : goal.returns-in-Some-clause-place
returns-in-Some-clause-place c =
    known_place c.args.pool.now c.args.names.now c.args.known.now c.args.number c.in-Some.place.now c.requires.known c.in-Some.ensures.value

pub unreachable-requires : goal.unreachable-requires
unreachable-requires c =
    let name = get_or_from_slice_get c.args.names.now c.args.number c.text.result.now [] c.text.ensures.text in
    let has = c.requires.stands in
    c.in_default-find_class.ensures.none has.place (has.stands ∙ ap (λ (t : List ℕ). Some t) name)

pub returns-clause-place : goal.returns-clause-place
returns-clause-place c =
    let name = get_or_from_slice_get c.args.names.now c.args.number c.text.result.now [] c.text.ensures.text in
    subst (λ (t : List ℕ). IsFirst (class_name_of c.args.pool.now) t c.in-Some-find_class.place) (sym name) c.in-Some-find_class.ensures.first

pub returns-clause-known : goal.returns-clause-known
returns-clause-known c =
    known_more c.args.pool.now c.args.names.now c.args.known.now c.insert.new.self c.args.number c.in-Some-find_class.place
    (returns-clause-place c) c.in_ok-insert.ensures.updates.0 c.requires.known
