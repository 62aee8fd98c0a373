use Rattle.std.proofs.Common.{length, IfOk, IfSome, sym, subst}
use Rattle.jc_methods.specs.declared.kind.State.{State}
use Rattle.jc_kinds_after.specs.Answers.{IsStateOf, IsWhole, LeavesState}
use Rattle.jc_kinds_after.specs.Effects.{body_of}
use Rattle.jc_kinds_after.proofs.effects.Effects.after.Goals as goal

pub advance-requires-clause-state : goal.advance-requires-clause-state
advance-requires-clause-state c = subst (IsStateOf (length c.args.names.now) (body_of c.args.self.now)) (sym c.in_ok-copy.ensures) c.requires.state

pub returns-clause-after : goal.returns-clause-after
returns-clause-after c =
    subst (λ (s : State). IfOk c.advance.result
    (λ after. LeavesState c.args.names.now c.advance.new.names (body_of c.args.self.now) c.args.i s after)) c.in_ok-copy.ensures c.advance.ensures.after

pub returns-clause-whole : goal.returns-clause-whole
returns-clause-whole c =
    subst (λ (s : State). IfOk c.advance.result
    (λ after. IfSome after (λ t. IsWhole (body_of c.args.self.now) s → IsWhole (body_of c.args.self.now) t))) c.in_ok-copy.ensures c.advance.ensures.whole
