use Rattle.std.proofs.Common.{◌≡◌, ◌+◌, length, sym, ◌∙◌, ap, subst, arith, length-append}
use Rattle.std.specs.Int.{w64}
use Rattle.std.proofs.lemmas.Int.{to_z-of_z}
use Rattle.jc_exec.specs.Rows.{sessions_in, AreInside}
use Rattle.jc_exec.proofs.RowLaws.{inside_more, inside_push, sessions_more, sessions_push, holds_on_err}
use Rattle.jc_exec.proofs.packed_sessions.PackedSessions.push.Goals as goal

pub returns-in_err-push-clause-err : goal.returns-in_err-push-clause-err
returns-in_err-push-clause-err c = holds_on_err _ _
    ((λ i. sessions_in (c.in_ok-extend_from_slice.ensures.items i) (c.in_err-push.ensures.items i))
    ∙ sessions_more c.self.inside.names.items c.deref.result.now c.self.inside.rows.items c.self.invariant ∙ c.self.view_is)

pub invariant_of-self-2 : goal.invariant_of-self-2
invariant_of-self-2 c =
    let names = c.self.inside.names.items in
    let later = c.extend_from_slice.new.self.items in
    let long : length later ≡ length names + length c.deref.result.now =
    omega (arith, ap length c.in_ok-extend_from_slice.ensures.items, length-append names c.deref.result.now) in
    subst (AreInside (length later)) (sym c.in_ok-push.ensures.items)
    (inside_push (length later) c.self.inside.rows.items _ (inside_more (length names) (length later) c.self.inside.rows.items c.self.invariant (omega (arith, long)))
    (omega (arith, long, c.len-from.ensures, c.len.ensures, ap length c.deref.ensures)))

pub returns-clause-ok : goal.returns-clause-ok
returns-clause-ok c =
    sessions_push c.self.inside.names.items c.deref.result.now c.self.inside.rows.items c.args.self.now c.args.session.now _ c.extend_from_slice.new.self.items
    c.push.new.self.items c.self.invariant c.self.view_is c.in_ok-extend_from_slice.ensures.items c.in_ok-push.ensures.items c.deref.ensures
    (to_z-of_z w64 c.args.session.now.start c.requires.start) (to_z-of_z w64 c.args.session.now.dump c.requires.dump)
    (omega (arith, c.len-from.ensures)) (omega (arith, c.len.ensures, ap length c.deref.ensures))
