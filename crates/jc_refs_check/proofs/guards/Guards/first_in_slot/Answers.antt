use Rattle.std.proofs.Common.{length, sym, subst}
use Rattle.jc_refs_check.specs.Unguarded.{AreNumberedClasses}
use Rattle.jc_refs_check.proofs.GuardLaws.{numbered_column}
use Rattle.jc_refs_check.proofs.guards.Guards.first_in_slot.Goals as goal

pub first_in_column-first-requires-clause-numbers : goal.first_in_column-first-requires-clause-numbers
first_in_column-first-requires-clause-numbers c =
    let count = length c.args.self.now.classes.now.names in
    subst (AreNumberedClasses count) (sym c.in_ok-column.ensures.classes) (numbered_column count c.args.slot c.args.states.now c.requires.states)
