use Rattle.std.proofs.Common.{rules, ◌≡◌, List, length, get_or, subst}
use Rattle.jc_methods.specs.declared.body.FrameAt.{FrameAt}
use Rattle.jc_kinds.proofs.FrameLaws.{behind_all, no_frame, a_frame}
use Rattle.jc_kinds.proofs.frames.frame_at.Goals as goal

pub returns-in_err-number : goal.returns-in_err-number
returns-in_err-number c =
    let b = c.args.framed.now.body.now in let numbers = c.args.framed.now.numbers.now in
    rw c.from_residual.ensures (behind_all b.frames (length b.code) c.args.at numbers c.requires (search rules))

pub returns-in_err-frame : goal.returns-in_err-frame
returns-in_err-frame c =
    let b = c.args.framed.now.body.now in let numbers = c.args.framed.now.numbers.now in
    rw c.from_residual-in_err-frame.ensures (no_frame b.frames (length b.code) c.args.at c.in_ok-number.number.now numbers c.requires
    (search rules) (search rules) (search rules))

pub returns : goal.returns
returns c =
    let b = c.args.framed.now.body.now in let numbers = c.args.framed.now.numbers.now in
    a_frame b.frames (length b.code) c.args.at c.in_ok-number.number.now numbers c.in_ok-frame.frame.now c.requires
    (search rules) (search rules) (search rules)
    (subst (λ (frames : List FrameAt). c.in_ok-frame.frame.now ≡ get_or frames c.in_ok-number.number.now c.in_ok-frame.frame.now) c.deref.ensures c.in_ok-frame.ensures.lookup.1)
