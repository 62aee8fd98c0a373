use Rattle.std.proofs.Common.{List, Option, map, length, false, IsTrue, ◌↔◌, option_copied, sym, ◌∙◌, ap, subst}
use Rattle.std.specs.List.{AllByRecursion}
use Rattle.jc_methods.specs.declared.kind.Kind.{Kind}
use Rattle.jc_methods.specs.declared.kind.State.{State}
use Rattle.jc_methods.specs.VerificationTypes.{VerificationType, verification_type, IsNumbered}
use Rattle.jc_kinds.specs.Checked.{caught}
use Rattle.jc_kinds.proofs.FrameLaws.{frame_numbered}
use Rattle.jc_refs_check.specs.RefsOk.{TakesCaught}
use Rattle.jc_refs_check.specs.Unguarded.{FrameTakes}
use Rattle.jc_refs_check.proofs.caught.Caught.is_taken.Goals as goal

pub takes_caught-requires-clause-stack : goal.takes_caught-requires-clause-stack
takes_caught-requires-clause-stack c =
    let count = length c.args.classes.now.names in
    subst (AllByRecursion (IsNumbered count)) (sym c.deref.ensures)
    (frame_numbered count c.args.body.now.frames c.requires.frames c.args.row.target c.in-Some.frame.now (sym c.frame_at.ensures ∙ ap option_copied c.in-Some.is)).stack

pub returns-in-Some : goal.returns-in-Some
returns-in-Some c =
    let names = c.args.classes.now.names in let b = c.args.body.now in let row = c.args.row in let takes = c.takes_caught.result in
    subst (λ (o : Option State). IsTrue takes ↔ FrameTakes names b row o) c.in-Some.ensures
    (subst (λ (stack : List Kind). IsTrue takes ↔ TakesCaught (caught b row) (map (verification_type names) stack)) c.deref.ensures
    (subst (λ (a : VerificationType). IsTrue takes ↔ TakesCaught a (map (verification_type names) c.deref.result.now)) c.class.ensures.class c.takes_caught.ensures))

pub returns-in-None : goal.returns-in-None
returns-in-None c =
    subst (λ (o : Option State). IsTrue false ↔ FrameTakes c.args.classes.now.names c.args.body.now c.args.row o) c.in-None.ensures (λ t. t, λ t. t)
