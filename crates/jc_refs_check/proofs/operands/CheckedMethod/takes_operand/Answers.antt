use Rattle.std.proofs.Common.{sym, subst}
use Rattle.std.specs.List.{All, AllByRecursion}
use Rattle.jc_methods.specs.VerificationTypes.{IsNumbered}
use Rattle.jc_methods.specs.WellMade.{IsKind}
use Rattle.jc_refs_check.proofs.operands.CheckedMethod.takes_operand.Goals as goal

pub is_taken-requires-clause-kind : goal.is_taken-requires-clause-kind
is_taken-requires-clause-kind c =
    c.operand.ensures.numbered _ (subst (AllByRecursion (IsNumbered _)) (sym c.deref.ensures) c.requires.state.numbered.stack)

pub is_taken-requires-clause-made : goal.is_taken-requires-clause-made
is_taken-requires-clause-made c =
    c.operand.ensures.made c.args.self.now.body.now.code (subst (All (IsKind c.args.self.now.body.now.code)) (sym c.deref.ensures) c.requires.state.well_made.stack_kinds)
