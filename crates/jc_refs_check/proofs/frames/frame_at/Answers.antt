use Rattle.std.proofs.Common.{rules, ◌≡◌, List, get_or, subst}
use Rattle.jc_methods.specs.declared.body.FrameAt.{FrameAt}
use Rattle.jc_refs_check.proofs.FrameNumberLaws.{none_behind_them, frame_there, frame_behind}
use Rattle.jc_refs_check.proofs.frames.frame_at.Goals as goal

pub returns-in_err-frame : goal.returns-in_err-frame
returns-in_err-frame c =
    let b = c.args.body.now in
    rw c.from_residual.ensures (none_behind_them 0 b.code b.max_locals b.max_stack b.frames c.requires.of_any_size.frames c.args.at c.frame_number.result c.frame_number.ensures (search rules))

pub returns-then-frame-at : goal.returns-then-frame-at
returns-then-frame-at c =
    let b = c.args.body.now in
    frame_there 0 b.code b.max_locals b.max_stack b.frames c.requires.of_any_size.frames c.args.at c.frame_number.result c.frame_number.ensures c.in_ok-frame.frame.now
    (search rules)
    (subst (λ (frames : List FrameAt). c.in_ok-frame.frame.now ≡ get_or frames c.frame_number.result c.in_ok-frame.frame.now) c.deref.ensures c.in_ok-frame.ensures.lookup.1)
    c.if-frame-at.true

pub returns-else-frame-at : goal.returns-else-frame-at
returns-else-frame-at c =
    let b = c.args.body.now in
    frame_behind 0 b.code b.max_locals b.max_stack b.frames c.requires.of_any_size.frames c.args.at c.frame_number.result c.frame_number.ensures c.in_ok-frame.frame.now
    (search rules)
    (subst (λ (frames : List FrameAt). c.in_ok-frame.frame.now ≡ get_or frames c.frame_number.result c.in_ok-frame.frame.now) c.deref.ensures c.in_ok-frame.ensures.lookup.1)
    c.if-frame-at.false
