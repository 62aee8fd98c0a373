use Rattle.std.proofs.lemmas.Result.{err_from_is_err_and}
use Rattle.jc_instrument.specs.Causes.{IsFirstCause}
use Rattle.jc_instrument.specs.Probing.{IsFirstTooLong}
use Rattle.jc_instrument.proofs.AnswerLaws.{said_more}
use Rattle.jc_instrument.proofs.ReadyClassLaws.{early_first, large_first, none_of_room, of_class, room}
use Rattle.jc_instrument.proofs.ready_class.with_layouts.Goals as goal

pub returns-in-Err-clause-refused : goal.returns-in-Err-clause-refused
returns-in-Err-clause-refused c =
    let b = c.requires.bodies in
    early_first c.args.class.now c.in-Err.refusal
    (c.in-Err.ensures.refused b.0 (of_class c.args.names.now c.args.class.now b.0 c.requires.changes b.1) b.2.lacks b.2.probes)

pub returns-in_err-bodies-clause-refused : goal.returns-in_err-bodies-clause-refused
returns-in_err-bodies-clause-refused c =
    let class = c.args.class.now in
    let b = c.requires.bodies in
    let are = of_class c.args.names.now class b.0 c.requires.changes b.1 in
    let constants = c.in_ok-constants.constants in
    let p = err_from_is_err_and c.from_residual-in_err-bodies.result c.from_residual-in_err-bodies.ensures.1 in
    rw (p.1, p.2)
    (said_more (IsFirstTooLong constants b.0) (IsFirstCause (room class)) c.in_err-bodies.field-0.0
    (large_first class b.0 are (c.in-Ok.ensures.none b.0 are b.2.lacks b.2.probes) c.args.looked.probes c.in-Ok.bootstrap constants b.2.probes c.in_ok-constants.ensures.are)
    (c.in_err-bodies.ensures.refused b.0 b.1.are (b.2.looked c.in-Ok.ensures.room c.in-Ok.ensures.few)))

pub returns-clause-no_cause : goal.returns-clause-no_cause
returns-clause-no_cause c =
    let class = c.args.class.now in
    let b = c.requires.bodies in
    let are = of_class c.args.names.now class b.0 c.requires.changes b.1 in
    none_of_room class b.0 are (c.in-Ok.ensures.none b.0 are b.2.lacks b.2.probes) c.args.looked.probes c.in-Ok.bootstrap c.in_ok-constants.constants b.2.probes
    c.in_ok-constants.ensures.are (c.in_ok-bodies.ensures.planned b.0 b.1.are (b.2.looked c.in-Ok.ensures.room c.in-Ok.ensures.few)).short
