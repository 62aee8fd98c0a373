use Rattle.std.proofs.Common.{[], ◌∷◌, ◌++◌}
use Rattle.jc_bootstraps.specs.Bootstraps.{EndsWith}
use Rattle.jc_bootstraps.proofs.BootstrapFormLaws.{text_read}
use Rattle.jc_bootstraps.proofs.BootstrapLaws.{ends, ends_exact, is_missing, none_told}
use Rattle.jc_bootstraps.proofs.bootstraps.last_bootstrap.Goals as goal

pub returns-in_err-read_bootstraps-clause-none : goal.returns-in_err-read_bootstraps-clause-none
returns-in_err-read_bootstraps-clause-none c =
    is_missing c.from_residual.result _ c.from_residual.ensures (λ last end.
    let entries = end.0 ++ end.1 ∷ [] in
    c.in_err-read_bootstraps.ensures.none entries (text_read c.args.body.now entries end.2))

pub returns-in_err-read_bootstraps-clause-exact : goal.returns-in_err-read_bootstraps-clause-exact
returns-in_err-read_bootstraps-clause-exact c = λ last end.
    let entries = end.0 ++ end.1 ∷ [] in
    absurd (c.in_err-read_bootstraps.ensures.none entries (text_read c.args.body.now entries end.2))

pub returns-clause-some : goal.returns-clause-some
returns-clause-some c =
    let t = c.in_ok-read_bootstraps.ensures.some in
    ends c.args.body.now t.0 c.in_ok-read_bootstraps.field-0.last t.1 t.3

pub returns-clause-none : goal.returns-clause-none
returns-clause-none c =
    let t = c.in_ok-read_bootstraps.ensures.some in
    let last = c.in_ok-read_bootstraps.field-0.last in
    none_told last (EndsWith c.args.body.now) (ends c.args.body.now t.0 last t.1 t.3) (ends_exact c.args.body.now t.0 last t.1 t.3)

pub returns-clause-exact : goal.returns-clause-exact
returns-clause-exact c =
    let t = c.in_ok-read_bootstraps.ensures.some in
    ends_exact c.args.body.now t.0 c.in_ok-read_bootstraps.field-0.last t.1 t.3
