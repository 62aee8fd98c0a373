use Rattle.std.proofs.Common.{◌≡◌, ◌≤◌, ℕ, subst}
use Rattle.std.proofs.lemmas.Result.{err_from_is_err_and}
use Rattle.jc_bytes.specs.Failing.{Said}
use Rattle.jc_layout.specs.Layout.{chosen_length}
use Rattle.jc_plan.specs.Plan.{plan_of}
use Rattle.jc_instrument.specs.Constants.{probed_code}
use Rattle.jc_instrument.specs.Looked.{HasRoomFrom, IsLookedBody}
use Rattle.jc_instrument.specs.Probing.{IsTooLong}
use Rattle.jc_instrument.specs.Ready.{HasEnough}
use Rattle.jc_instrument.proofs.LayoutsLaws.{kept_parts, kept_planned, kept_said, unread_planned, unread_said, unread_there, unread_too}
use Rattle.jc_instrument.proofs.layouts.lay_out.Goals as goal

pub returns-in_err-lay_out_kept-in-Kept-clause-refused : goal.returns-in_err-lay_out_kept-in-Kept-clause-refused
returns-in_err-lay_out_kept-in-Kept-clause-refused c = λ b first of is.
    let names = c.args.names.now in
    let k = c.in-Kept.kept in
    let here = subst (IsLookedBody names b first) c.in-Kept.is is in
    let e = c.in_err-lay_out_kept-in-Kept.field-0.0 in
    let p = err_from_is_err_and c.from_residual.result c.from_residual.ensures.1 in
    rw (p.1, p.2)
    (kept_said names b first k (λ x. Said e (IsTooLong c.args.constants.now x first)) here
    (c.in_err-lay_out_kept-in-Kept.ensures.refused first (kept_parts names b first k here).0))

pub returns-in_ok-lay_out_kept-in-Kept-clause-planned : goal.returns-in_ok-lay_out_kept-in-Kept-clause-planned
returns-in_ok-lay_out_kept-in-Kept-clause-planned c = λ b first of is.
    let names = c.args.names.now in
    let k = c.in-Kept.kept in
    let here = subst (IsLookedBody names b first) c.in-Kept.is is in
    let laid = c.in_ok-lay_out_kept-in-Kept.ensures in
    kept_planned names c.args.constants.now b first k c.in_ok-lay_out_kept-in-Kept.field-0 here (laid.ready names first (kept_parts names b first k here).2) laid.body laid.plan

pub returns-in_ok-lay_out_kept-in-Kept-clause-short : goal.returns-in_ok-lay_out_kept-in-Kept-clause-short
returns-in_ok-lay_out_kept-in-Kept-clause-short c = λ b first of is.
    let names = c.args.names.now in
    let k = c.in-Kept.kept in
    let here = subst (IsLookedBody names b first) c.in-Kept.is is in
    kept_said names b first k (λ x. chosen_length (probed_code c.args.constants.now x first) ≤ 65535) here
    (c.in_ok-lay_out_kept-in-Kept.ensures.short first (kept_parts names b first k here).0)

pub fits-requires-clause-room : goal.fits-requires-clause-room
fits-requires-clause-room c =
    let names = c.args.names.now in
    let r = c.requires.body in
    let u = c.in-Unread.unread in
    let here = subst (IsLookedBody names r.0 r.1) c.in-Unread.is r.3 in
    unread_too names r.0 r.1 u here c.in_ok-body-in-Unread.body (c.in_ok-body-in-Unread.ensures.body r.0 (unread_there names c.args.class.now r.0 r.1 u here r.2))
    HasRoomFrom here.0

pub fits-requires-clause-enough : goal.fits-requires-clause-enough
fits-requires-clause-enough c =
    let names = c.args.names.now in
    let r = c.requires.body in
    let u = c.in-Unread.unread in
    let here = subst (IsLookedBody names r.0 r.1) c.in-Unread.is r.3 in
    unread_too names r.0 r.1 u here c.in_ok-body-in-Unread.body (c.in_ok-body-in-Unread.ensures.body r.0 (unread_there names c.args.class.now r.0 r.1 u here r.2))
    (λ x n. HasEnough c.args.constants.now (plan_of x n).next) r.4

pub returns-in_err-fits-in-Unread-clause-refused : goal.returns-in_err-fits-in-Unread-clause-refused
returns-in_err-fits-in-Unread-clause-refused c = λ b first of is.
    let names = c.args.names.now in
    let u = c.in-Unread.unread in
    let here = subst (IsLookedBody names b first) c.in-Unread.is is in
    let e = c.in_err-fits-in-Unread.field-0.0 in
    let p = err_from_is_err_and c.from_residual-in_err-fits-in-Unread.result c.from_residual-in_err-fits-in-Unread.ensures.1 in
    rw (p.1, p.2)
    (unread_said names b first u here c.in_ok-body-in-Unread.body (c.in_ok-body-in-Unread.ensures.body b (unread_there names c.args.class.now b first u here of))
    (λ x n. Said e (IsTooLong c.args.constants.now x n)) c.in_err-fits-in-Unread.ensures.refused)

pub returns-in_ok-fits-in-Unread-clause-planned : goal.returns-in_ok-fits-in-Unread-clause-planned
returns-in_ok-fits-in-Unread-clause-planned c = λ b first of is.
    let names = c.args.names.now in
    let u = c.in-Unread.unread in
    let here = subst (IsLookedBody names b first) c.in-Unread.is is in
    let r = c.requires.body in
    let there = subst (IsLookedBody names r.0 r.1) c.in-Unread.is r.3 in
    let enough = unread_too names r.0 r.1 u there c.in_ok-body-in-Unread.body
    (c.in_ok-body-in-Unread.ensures.body r.0 (unread_there names c.args.class.now r.0 r.1 u there r.2))
    (λ x n. HasEnough c.args.constants.now (plan_of x n).next) r.4 in
    unread_planned names b first u here c.in_ok-body-in-Unread.body (c.in_ok-body-in-Unread.ensures.body b (unread_there names c.args.class.now b first u here of))
    c.body_again.new.names c.args.constants.now enough c.in_ok-fits-in-Unread.ensures.short

pub returns-in_ok-fits-in-Unread-clause-short : goal.returns-in_ok-fits-in-Unread-clause-short
returns-in_ok-fits-in-Unread-clause-short c = λ b first of is.
    let names = c.args.names.now in
    let u = c.in-Unread.unread in
    let here = subst (IsLookedBody names b first) c.in-Unread.is is in
    unread_said names b first u here c.in_ok-body-in-Unread.body (c.in_ok-body-in-Unread.ensures.body b (unread_there names c.args.class.now b first u here of))
    (λ x n. chosen_length (probed_code c.args.constants.now x n) ≤ 65535) c.in_ok-fits-in-Unread.ensures.short
