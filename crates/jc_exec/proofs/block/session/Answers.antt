use Rattle.std.proofs.Common.{ℕ, ◌+◌, ap, arith}
use Rattle.jc_exec.specs.Front.{moved}
use Rattle.jc_exec.specs.declared.session.Session.{Session}
use Rattle.jc_exec.proofs.FrontLaws.{not_read, bad_here, no_session, no_id, took_session, is_text, is_no_text}
use Rattle.jc_exec.proofs.block.session.Goals as goal

pub returns-in-Err : goal.returns-in-Err
returns-in-Err c =
    not_read {X = Session} (λ s. s) c.in-Err.unread _ _ (c.args.offset + c.place.result) c.unfit.result (moved c.args.offset c.args.reader.now)
    (moved c.args.offset c.session_parts.new.reader) c.in-Err.ensures.gives c.unfit.ensures
    (no_session (moved c.args.offset c.args.reader.now) (c.args.offset + c.place.result) (ap (λ (n : ℕ). c.args.offset + n) c.place.ensures) c.requires.kind)

pub returns-then-not-is_modified : goal.returns-then-not-is_modified
returns-then-not-is_modified c =
    bad_here (c.args.offset + c.place.result) c.bad.result (moved c.args.offset c.args.reader.now) (moved c.args.offset c.session_parts.new.reader) c.bad.ensures
    (no_id (moved c.args.offset c.args.reader.now) (c.args.offset + c.place.result) (c.in-Ok.session, c.session_parts.new.reader.left)
    (ap (λ (n : ℕ). c.args.offset + n) c.place.ensures) c.requires.kind c.in-Ok.ensures.gives
    (is_no_text c.is_modified.result c.deref.result.now c.in-Ok.session.id c.is_modified.ensures c.deref.ensures c.if-not-is_modified.true))

pub returns : goal.returns
returns c =
    let text = is_text c.is_modified.result c.deref.result.now c.in-Ok.session.id c.is_modified.ensures c.deref.ensures c.if-not-is_modified.false in (
      took_session (moved c.args.offset c.args.reader.now)
          (moved c.args.offset c.session_parts.new.reader) c.in-Ok.session c.in-Ok.ensures.gives text c.requires.behind (omega (arith, c.in-Ok.ensures.end)),
      record { size = c.in-Ok.ensures.small; text = text; start = c.in-Ok.ensures.start; dump = c.in-Ok.ensures.dump },
    )
