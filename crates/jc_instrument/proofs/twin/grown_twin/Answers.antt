use Rattle.std.proofs.Common.{List, ◌∙◌, ap}
use Rattle.std.proofs.lemmas.Result.{err_from_is_err_and}
use Rattle.jc_instrument.specs.Ready.{source_of}
use Rattle.jc_instrument.specs.declared.ready.PlannedBody.{PlannedBody}
use Rattle.jc_instrument.proofs.twin.grown_twin.Goals as goal

pub twin_from-requires-clause-source : goal.twin_from-requires-clause-source
twin_from-requires-clause-source c =
    c.in_ok-source.ensures c.args.class c.requires.read ∙ ap (λ (planned : List PlannedBody). source_of planned c.args.class) c.deref.ensures

pub source_of-requires-clause-text : goal.source_of-requires-clause-text
source_of-requires-clause-text c = (c.args.class, c.requires.read)

pub returns-in_err-source-clause-refused : goal.returns-in_err-source-clause-refused
returns-in_err-source-clause-refused c =
    let r = err_from_is_err_and c.from_residual.result c.from_residual.ensures.1 in
    rw (r.1, r.2) tt
