use Rattle.std.proofs.Common.{length, ◌∙◌, ap, Some}
use Rattle.jc_bootstraps.specs.Bootstraps.{bootstraps}
use Rattle.jc_bootstraps.proofs.BootstrapFormLaws.{one_list, read_text, text_read}
use Rattle.jc_bootstraps.proofs.BootstrapLaws.{is_found, is_missing}
use Rattle.jc_bootstraps.proofs.bootstraps.bootstrap_count.Goals as goal

pub returns-in_err-read_bootstraps-clause-none : goal.returns-in_err-read_bootstraps-clause-none
returns-in_err-read_bootstraps-clause-none c =
    is_missing c.from_residual.result _ c.from_residual.ensures
    (λ entries text. c.in_err-read_bootstraps.ensures.none entries (text_read c.args.body.now entries text))

pub returns-in_err-read_bootstraps-clause-exact : goal.returns-in_err-read_bootstraps-clause-exact
returns-in_err-read_bootstraps-clause-exact c = λ entries text.
    absurd (c.in_err-read_bootstraps.ensures.none entries (text_read c.args.body.now entries text))

pub returns-clause-some : goal.returns-clause-some
returns-clause-some c = let t = c.in_ok-read_bootstraps.ensures.some in (t.0, read_text c.args.body.now t.0 t.1, t.2)

pub returns-clause-none : goal.returns-clause-none
returns-clause-none c =
    let t = c.in_ok-read_bootstraps.ensures.some in
    is_found c.in_ok-read_bootstraps.field-0.count t.0 (bootstraps.Text c.args.body.now) (read_text c.args.body.now t.0 t.1)

pub returns-clause-exact : goal.returns-clause-exact
returns-clause-exact c = λ entries text.
    let t = c.in_ok-read_bootstraps.ensures.some in
    ap Some (t.2 ∙ ap length (one_list c.args.body.now t.0 entries (read_text c.args.body.now t.0 t.1) text))
