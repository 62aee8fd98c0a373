use Rattle.std.proofs.Common.{ℕ, List, [], ◌∷◌, get_or, sym, ◌∙◌, subst}
use Rattle.std.proofs.lemmas.Option.{get_or_from_slice_get}
use Rattle.std.proofs.lemmas.Result.{err_from_is_err_and}
use Rattle.jc_frames.specs.FullTable.{RefusesClasses, TakesClass}
use Rattle.jc_frames.proofs.TakenLaws.{refused_single, taken_more, takes_again, takes_one, takes_single}
use Rattle.jc_frames.proofs.full_classes.take_class_of.Goals as goal

pub returns-then-contains-clause-classes : goal.returns-then-contains-clause-classes
returns-then-contains-clause-classes c =
    let pool = c.args.pool.now in
    let name = get_or c.args.names.now c.in-Object.number [] in
    rw c.in-Object.is (takes_single pool pool name (takes_again pool name (c.requires.taken.at c.in-Object.number (sym c.contains.ensures ∙ c.if-contains.true))))

pub returns-in_err-place_of_class-clause-refused : goal.returns-in_err-place_of_class-clause-refused
returns-in_err-place_of_class-clause-refused c =
    let pool = c.args.pool.now in
    let new = c.place_of_class.new.pool in
    let name = get_or_from_slice_get c.args.names.now c.in-Object.number c.text.result.now [] c.text.ensures.text in
    let e = c.in_err-place_of_class.field-0.0 in
    let p = err_from_is_err_and c.from_residual.result c.from_residual.ensures.1 in
    rw (p.1, p.2, c.in-Object.is) (subst (λ (t : List ℕ). RefusesClasses pool (t ∷ []) new e) (sym name)
    (refused_single pool new c.text.result.now e c.in_err-place_of_class.ensures.err c.in_err-place_of_class.ensures.full))

pub returns-clause-classes : goal.returns-clause-classes
returns-clause-classes c =
    let pool = c.args.pool.now in
    let new = c.place_of_class.new.pool in
    let name = get_or_from_slice_get c.args.names.now c.in-Object.number c.text.result.now [] c.text.ensures.text in
    let taken = takes_one pool new c.text.result.now c.in_ok-place_of_class.field-0 c.in_ok-place_of_class.ensures.ok c.in_ok-place_of_class.ensures.fits in
    rw c.in-Object.is (takes_single pool new (get_or c.args.names.now c.in-Object.number []) (subst (λ (t : List ℕ). TakesClass pool t new) (sym name) taken))

pub returns-clause-taken : goal.returns-clause-taken
returns-clause-taken c =
    let pool = c.args.pool.now in
    let new = c.place_of_class.new.pool in
    let name = get_or_from_slice_get c.args.names.now c.in-Object.number c.text.result.now [] c.text.ensures.text in
    let taken = takes_one pool new c.text.result.now c.in_ok-place_of_class.field-0 c.in_ok-place_of_class.ensures.ok c.in_ok-place_of_class.ensures.fits in
    taken_more pool new c.args.names.now c.args.met.now c.insert.new.self c.in-Object.number (subst (λ (t : List ℕ). TakesClass pool t new) (sym name) taken)
    c.in_ok-insert.ensures.updates.0 c.requires.taken
