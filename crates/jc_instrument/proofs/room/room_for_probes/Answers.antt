use Rattle.std.proofs.Common.{subst}
use Rattle.std.proofs.lemmas.Result.{err_from_is_err_and}
use Rattle.jc_bytes.specs.declared.refusal.RefusalKind.TheVariants as kinds
use Rattle.jc_instrument.specs.Room.{IsFirstThatLacks}
use Rattle.jc_instrument.proofs.RoomLaws.{bootstraps_first, counts_first, locals_first, none_early, stack_first, straddling_first}
use Rattle.jc_instrument.proofs.room.room_for_probes.Goals as goal

pub returns-in-Some-clause-refused : goal.returns-in-Some-clause-refused
returns-in-Some-clause-refused c = λ bodies are lacks count.
    straddling_first c.args.class.now bodies c.requires.changes are c.in-Some.refusal
    (subst (IsFirstThatLacks kinds.StraddlingLocal bodies) c.in-Some.is lacks.straddling)

pub returns-in-Some-count_refusal-clause-refused : goal.returns-in-Some-count_refusal-clause-refused
returns-in-Some-count_refusal-clause-refused c = λ bodies are lacks count.
    counts_first c.args.class.now bodies c.requires.changes are (subst (IsFirstThatLacks kinds.StraddlingLocal bodies) c.in_default.is lacks.straddling)
    c.in-Some-count_refusal.refusal (c.in-Some-count_refusal.ensures.first bodies are count)

pub returns-in_err-bootstrap-clause-refused : goal.returns-in_err-bootstrap-clause-refused
returns-in_err-bootstrap-clause-refused c = λ bodies are lacks count.
    let p = err_from_is_err_and c.from_residual.result c.from_residual.ensures.1 in
    rw (p.1, p.2)
    (bootstraps_first c.args.class.now bodies c.requires.changes are (subst (IsFirstThatLacks kinds.StraddlingLocal bodies) c.in_default.is lacks.straddling)
    (c.in_default-count_refusal.ensures.first bodies are count) c.in_err-bootstrap.field-0.0 c.in_err-bootstrap.ensures.refused)

pub returns-in-Some-locals-clause-refused : goal.returns-in-Some-locals-clause-refused
returns-in-Some-locals-clause-refused c = λ bodies are lacks count.
    locals_first c.args.class.now bodies c.requires.changes are (subst (IsFirstThatLacks kinds.StraddlingLocal bodies) c.in_default.is lacks.straddling)
    (c.in_default-count_refusal.ensures.first bodies are count) c.in_ok-bootstrap.ensures.taken c.in-Some-locals.refusal
    (subst (IsFirstThatLacks kinds.LocalsFull bodies) c.in-Some-locals.is lacks.locals)

pub returns-in-Some-stack-clause-refused : goal.returns-in-Some-stack-clause-refused
returns-in-Some-stack-clause-refused c = λ bodies are lacks count.
    stack_first c.args.class.now bodies c.requires.changes are (subst (IsFirstThatLacks kinds.StraddlingLocal bodies) c.in_default.is lacks.straddling)
    (c.in_default-count_refusal.ensures.first bodies are count) c.in_ok-bootstrap.ensures.taken
    (subst (IsFirstThatLacks kinds.LocalsFull bodies) c.in_default-locals.is lacks.locals) c.in-Some-stack.refusal
    (subst (IsFirstThatLacks kinds.StackFull bodies) c.in-Some-stack.is lacks.stack)

pub returns-in-None-clause-none : goal.returns-in-None-clause-none
returns-in-None-clause-none c = λ bodies are lacks count.
    none_early c.args.class.now bodies c.requires.changes are (subst (IsFirstThatLacks kinds.StraddlingLocal bodies) c.in_default.is lacks.straddling)
    (c.in_default-count_refusal.ensures.first bodies are count) c.in_ok-bootstrap.ensures.taken
    (subst (IsFirstThatLacks kinds.LocalsFull bodies) c.in_default-locals.is lacks.locals)
    (subst (IsFirstThatLacks kinds.StackFull bodies) c.in-None.is lacks.stack)
