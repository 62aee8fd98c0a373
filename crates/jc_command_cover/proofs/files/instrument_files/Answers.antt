use Rattle.std.proofs.Common.{ℕ, List, length, map, refl, sym, ◌∙◌, ap, subst}
use Rattle.std.specs.List.{AllZip}
use Rattle.std.proofs.lemmas.Result.{err_from_is_err_and}
use Rattle.std.proofs.lemmas.Slice.Zip.{AllZip-long}
use Rattle.jc_command_work.specs.Step.{Word}
use Rattle.jc_command_work.proofs.Leaves.{nothing_yet}
use Rattle.jc_command_classes.specs.Instrument.{IsDecision, decision_seen}
use Rattle.jc_headline.specs.CoverWork.{instrumenting}
use Rattle.jc_command_cover.specs.Files.{AreOf}
use Rattle.jc_command_cover.proofs.FileLaws.{some_looked, instrumented}
use Rattle.jc_command_cover.proofs.files.instrument_files.Goals as goal

pub write_all_decided-requires-clause-decided : goal.write_all_decided-requires-clause-decided
write_all_decided-requires-clause-decided g c = AllZip-long _ c.texts.result.now c.in_ok-all.all.items c.in_ok-all.ensures ∙ ap length c.texts.ensures.texts

pub returns-in_err-all : goal.returns-in_err-all
returns-in_err-all g c =
    let p = err_from_is_err_and c.from_residual.result c.from_residual.ensures.1 in
    rw (p.1, p.2) ((refl, refl, refl), λ dest is. nothing_yet g.F.Files.landed (instrumenting dest c.args.targeted.now.inputs.paths c.args.targeted.now.inputs.texts) _ _)

pub returns : goal.returns
returns g c = (
  c.write_all_decided.ensures.0,
  λ dest is.
      let paths = c.args.targeted.now.inputs.paths in
      let texts = c.args.targeted.now.inputs.texts in
      let all = c.in_ok-all.all.items in
      let (looked, looked_at, of) = some_looked dest paths texts all (sym (ap length c.texts.ensures.texts) ∙ c.texts.ensures.each)
      (subst (λ (ts : List (List ℕ)). AllZip (λ t d. IsDecision t (decision_seen d)) ts all) c.texts.ensures.texts c.in_ok-all.ensures) in
      instrumented g.F.Files.landed dest paths texts looked looked_at _ _ _ _ c.write_all_decided.result
      (c.write_all_decided.ensures.1 dest looked (subst (λ (ws : List Word). AreOf dest looked ws paths texts (map decision_seen all)) (sym is) of)),
)
