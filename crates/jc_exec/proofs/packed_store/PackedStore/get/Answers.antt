use Rattle.std.proofs.Common.{nat_eq, sym, ◌∙◌, ap}
use Rattle.std.specs.Map.{lookup}
use Rattle.jc_exec.specs.Store.{Store, entries_of}
use Rattle.jc_exec.proofs.RecordLaws.{entries_again, found_fits}
use Rattle.jc_exec.proofs.packed_store.PackedStore.get.Goals as goal

pub returns-clause-found : goal.returns-clause-found
returns-clause-found c =
    c.in_ok-get.ensures
    ∙ ap (lookup (nat_eq c.args.id)) (sym (entries_again c.self.inside.records c.self.invariant.1))
    ∙ ap (λ (s : Store). lookup (nat_eq c.args.id) (entries_of s.classes)) c.self.view_is

pub returns-clause-fits : goal.returns-clause-fits
returns-clause-fits c = found_fits c.in_ok-get.field-0 c.args.id c.self.inside.records c.self.invariant.1 c.in_ok-get.ensures
