use Rattle.std.proofs.Common.{ℕ, List, [], Bor, None, get_or, refl}
use Rattle.std.proofs.lemmas.Result.{err_from_is_err_and}
use Rattle.jc_command_work.proofs.Reaching.{path_failed, path_kept, path_lost, paths_read}
use Rattle.jc_command_work.proofs.input_files.read_texts.Goals as goal

abbrev named : Bor (List ℕ) → List ℕ
named text = text.now

abbrev nothing : Bor (List ℕ)
nothing = record { ref_ptr = (0, 0); now = [] }

pub returns-in_err-text : goal.returns-in_err-text
returns-in_err-text g c out err outs errs =
    let p = err_from_is_err_and c.from_residual.result c.from_residual.ensures.1 in
    rw (p.1, p.2) (path_failed g.F.Files.landed named c.args.paths.now c.reading.path-index nothing c.reading-test.true (named (get_or c.args.paths.now c.reading.path-index nothing))
    refl _ _ _ _ _ _ _ (c.reading.invariant out err outs errs) _ (c.in_err-text.ensures.does out err outs errs))

pub returns-in_err-keep : goal.returns-in_err-keep
returns-in_err-keep g c out err outs errs =
    let p = err_from_is_err_and c.from_residual-in_err-keep.result c.from_residual-in_err-keep.ensures.1 in
    rw (p.1, p.2) (path_lost g.F.Files.landed named c.args.paths.now c.reading.path-index nothing c.reading-test.true (named (get_or c.args.paths.now c.reading.path-index nothing))
    refl _ _ _ _ _ _ _ (c.reading.invariant out err outs errs) c.in_ok-text.text None refl (c.in_ok-text.ensures.does out err outs errs))

pub reading-preserved : goal.reading-preserved
reading-preserved g c = λ out err outs errs.
    path_kept g.F.Files.landed named c.args.paths.now c.reading.path-index nothing c.reading-test.true (named (get_or c.args.paths.now c.reading.path-index nothing))
    refl _ _ _ _ _ _ _ (c.reading.invariant out err outs errs) c.in_ok-text.text _ c.in_ok-keep.ensures (c.in_ok-text.ensures.does out err outs errs)

pub returns : goal.returns
returns g c out err outs errs =
    paths_read g.F.Files.landed named c.args.paths.now c.reading.path-index c.reading-test.false _ _ _ _ _ (c.reading.invariant out err outs errs)
