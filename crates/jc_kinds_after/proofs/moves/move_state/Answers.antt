use Rattle.std.proofs.Common.{refl}
use Rattle.jc_kinds_after.specs.Shapes.{moved_in, form_of}
use Rattle.jc_kinds_after.proofs.MovesLaws.{put_some, put_none}
use Rattle.jc_kinds_after.proofs.moves.move_state.Goals as goal

pub returns-in-Some : goal.returns-in-Some
returns-in-Some c names =
    put_some names c.args.state (record { locals = c.args.state.locals; stack = c.in-Some.stack }) c.in_ok-stack.field-0 c.in-Some.stack c.args.state.stack
    (moved_in c.args.most (form_of names c.args.wants.now c.args.gives.now)) c.in-Some.is refl (c.in_ok-stack.ensures names) refl refl

pub returns-in-None : goal.returns-in-None
returns-in-None c names = put_none names c.args.state c.in_ok-stack.field-0 c.args.state.stack
    (moved_in c.args.most (form_of names c.args.wants.now c.args.gives.now)) c.in-None.is refl (c.in_ok-stack.ensures names)
