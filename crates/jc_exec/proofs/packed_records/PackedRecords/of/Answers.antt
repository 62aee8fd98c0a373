use Rattle.std.proofs.Common.{◌≡◌, None, nat_eq, sym, ◌∙◌, ap, subst, arith}
use Rattle.std.specs.Map.{lookup}
use Rattle.indexmap.specs.IndexMap.{insert_entry}
use Rattle.jc_exec.specs.Adding.{Entries}
use Rattle.jc_exec.specs.Store.{IsSmall}
use Rattle.jc_exec.proofs.EntriesLaws.{none_in_front, entries_next, small_at}
use Rattle.jc_exec.proofs.packed_records.PackedRecords.of.Goals as goal

pub push-requires-clause-none : goal.push-requires-clause-none
push-requires-clause-none c = subst (λ (es : Entries). lookup (nat_eq c.hits-item.result.id) es ≡ None) (sym c.packing.invariant)
    (none_in_front c.args.classes.now c.packing.hits-index c.hits-item.result c.requires (omega (arith, c.packing-test.true)) (sym c.hits-item.is))

pub push-requires-clause-hits : goal.push-requires-clause-hits
push-requires-clause-hits c = subst IsSmall (sym c.hits-item.is)
    (small_at c.args.classes.now c.packing.hits-index c.hits-item.result c.requires (omega (arith, c.packing-test.true)))

pub packing-preserved : goal.packing-preserved
packing-preserved c = c.in_ok-push.ensures.ok
    ∙ ap (λ (es : Entries). insert_entry nat_eq es c.hits-item.result.id c.hits-item.result) c.packing.invariant
    ∙ entries_next c.args.classes.now c.packing.hits-index c.hits-item.result c.requires (omega (arith, c.packing-test.true)) (sym c.hits-item.is)
