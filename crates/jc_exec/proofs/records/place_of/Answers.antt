use Rattle.std.proofs.Common.{◌≡◌, None, nat_eq, sym, ◌∙◌, arith}
use Rattle.std.specs.Map.{lookup}
use Rattle.std.proofs.lemmas.Option.{same_Some}
use Rattle.jc_bytes.proofs.OptionLaws.{some_none}
use Rattle.jc_exec.specs.Store.{entries_of}
use Rattle.jc_exec.proofs.EntriesLaws.{place_found, place_none, if_none}
use Rattle.jc_exec.proofs.records.place_of.Goals as goal

pub returns-in_err-place-clause-none : goal.returns-in_err-place-clause-none
returns-in_err-place-clause-none c = if_none c.from_residual.result (lookup (nat_eq c.args.id) (entries_of c.args.classes.now) ≡ None)
    (place_none c.args.ids.now c.args.classes.now c.args.id c.place.result c.requires c.place.ensures.only (λ k lt same. some_none (sym same ∙ c.in_err-place.was)))

pub returns-then-place-classes-clause-place : goal.returns-then-place-classes-clause-place
returns-then-place-classes-clause-place c =
    place_found c.args.ids.now c.args.classes.now c.args.id c.in_ok-place.place c.place.result c.requires c.in_ok-place.was c.place.ensures.only c.if-place-classes.true c.in_ok-place.ensures.found.1

pub returns-clause-none : goal.returns-clause-none
returns-clause-none c =
    place_none c.args.ids.now c.args.classes.now c.args.id c.place.result c.requires c.place.ensures.only
    (λ k lt same. (let two : c.in_ok-place.place ≡ k = same_Some c.in_ok-place.place k (sym c.in_ok-place.was ∙ same) in omega (arith, two, lt, c.if-place-classes.false)))
