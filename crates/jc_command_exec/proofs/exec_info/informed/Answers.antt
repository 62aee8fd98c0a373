use Rattle.std.proofs.Common.{◌++◌, ◌∷◌, [], ℕ, List, Bor, get_or, refl, arith, length-append}
use Rattle.std.proofs.lemmas.List.{length-map}
use Rattle.std.proofs.lemmas.Result.{err_from_is_err_and}
use Rattle.jc_command_work.specs.Seen.{texts_of}
use Rattle.jc_command_work.proofs.Reaching.{path_failed, path_kept, paths_read}
use Rattle.jc_command_exec.proofs.GatheredLaws.{path_of}
use Rattle.jc_command_exec.proofs.InfoLaws.{lists_on}
use Rattle.jc_command_exec.proofs.exec_info.informed.Goals as goal

abbrev named : Bor (List ℕ) → List ℕ
named text = text.now

abbrev nothing : Bor (List ℕ)
nothing = record { ref_ptr = (0, 0); now = [] }

pub returns-in_err-listed : goal.returns-in_err-listed
returns-in_err-listed g c =
    let p = err_from_is_err_and c.from_residual.result c.from_residual.ensures.1 in
    let inv = c.informing.invariant in
    let d = c.in_err-listed.ensures in
    rw (p.1, p.2) (
      [],
      (λ out err outs errs.
          path_failed g.F.Files.landed named c.args.paths.now c.informing.index nothing c.informing-test.true (named (get_or c.args.paths.now c.informing.index nothing))
          refl _ _ _ _ _ _ _ (inv.3 out err outs errs) _ (d.1 out err outs errs)),
      tt,
    )

pub informing-preserved : goal.informing-preserved
informing-preserved g c =
    let inv = c.informing.invariant in
    let d = c.in_ok-listed.ensures in
    let paths = c.args.paths.now in (
      inv.0 ++ d.0 ∷ [],
      omega (arith, length-append inv.0 (d.0 ∷ []), inv.1),
      lists_on (texts_of paths) inv.0 d.0 c.informing.index (get_or paths c.informing.index nothing) c.informing.listed.refused c.in_ok-listed.listed.refused
          c.informing.listed.listing c.in_ok-listed.listed.listing inv.1 (omega (arith, length-map paths named, c.informing-test.true))
          (path_of paths c.informing.index nothing c.informing-test.true) inv.2 d.2,
      (λ out err outs errs.
          path_kept g.F.Files.landed named paths c.informing.index nothing c.informing-test.true (named (get_or paths c.informing.index nothing)) refl _ _ _ _ _ _ _
          (inv.3 out err outs errs) d.0 _ refl (d.1 out err outs errs)),
    )

pub returns : goal.returns
returns g c =
    let inv = c.informing.invariant in (
      inv.0,
      (λ out err outs errs. paths_read g.F.Files.landed named c.args.paths.now c.informing.index c.informing-test.false _ _ _ _ _ (inv.3 out err outs errs)),
      (omega (arith, length-map c.args.paths.now named, inv.1, c.informing-test.false), inv.2),
    )
