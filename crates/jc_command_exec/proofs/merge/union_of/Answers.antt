use Rattle.std.proofs.Common.{◌++◌, ◌∷◌, [], ℕ, List, Bor, get_or, refl, arith, length-append}
use Rattle.std.proofs.lemmas.Result.{err_from_is_err_and}
use Rattle.jc_command_work.specs.Seen.{texts_of}
use Rattle.jc_command_work.proofs.Reaching.{paths_start, path_failed, path_kept, paths_read}
use Rattle.jc_command_exec.proofs.GatheredLaws.{gathers_on, path_of}
use Rattle.jc_command_exec.proofs.merge.union_of.Goals as goal

abbrev named : Bor (List ℕ) → List ℕ
named text = text.now

abbrev nothing : Bor (List ℕ)
nothing = record { ref_ptr = (0, 0); now = [] }

pub merging-init : goal.merging-init
merging-init g c =
    ([], refl, record { read = []; blocks = refl; union = c.new.ensures.union }, (λ out err outs errs. paths_start g.F.Files.landed named c.args.paths.now _ _))

pub returns-in_err-gathered : goal.returns-in_err-gathered
returns-in_err-gathered g c =
    let p = err_from_is_err_and c.from_residual.result c.from_residual.ensures.1 in
    let inv = c.merging.invariant in
    let d = c.in_err-gathered.ensures in
    rw (p.1, p.2) (
      [],
      (λ out err outs errs.
          path_failed g.F.Files.landed named c.args.paths.now c.merging.index nothing c.merging-test.true (named (get_or c.args.paths.now c.merging.index nothing))
          refl _ _ _ _ _ _ _ (inv.3 out err outs errs) _ (d.1 out err outs errs)),
      tt,
    )

pub merging-preserved : goal.merging-preserved
merging-preserved g c =
    let inv = c.merging.invariant in
    let d = c.in_ok-gathered.ensures in
    let paths = c.args.paths.now in (
      inv.0 ++ d.0 ∷ [],
      omega (arith, length-append inv.0 (d.0 ∷ []), inv.1),
      gathers_on (texts_of paths) inv.0 d.0 c.merging.index (get_or paths c.merging.index nothing) c.merging.gathered c.in_ok-gathered.gathered inv.1
          (path_of paths c.merging.index nothing c.merging-test.true) inv.2 d.2,
      (λ out err outs errs.
          path_kept g.F.Files.landed named paths c.merging.index nothing c.merging-test.true (named (get_or paths c.merging.index nothing)) refl _ _ _ _ _ _ _
          (inv.3 out err outs errs) d.0 _ refl (d.1 out err outs errs)),
    )

pub returns : goal.returns
returns g c =
    let inv = c.merging.invariant in
    (inv.0, (λ out err outs errs. paths_read g.F.Files.landed named c.args.paths.now c.merging.index c.merging-test.false _ _ _ _ _ (inv.3 out err outs errs)), inv.2)
