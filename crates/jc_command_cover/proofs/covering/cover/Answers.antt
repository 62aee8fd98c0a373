use Rattle.std.proofs.Common.{◌≡◌, ℕ, List, Bor, None, ◌∙◌, length, map, ap, refl, string_bytes, sym, arith}
use Rattle.std.proofs.lemmas.List.{length-map}
use Rattle.std.proofs.lemmas.Result.{err_from_is_err_and}
use Rattle.jc_paths.specs.Paths.{in_folder}
use Rattle.jc_command_work.specs.declared.stop.Stop.TheVariants as stops
use Rattle.jc_command_work.specs.Seen.{words_of}
use Rattle.jc_command_work.specs.Step.{FilesRead}
use Rattle.jc_command_work.proofs.AnsweredLaws.{as_many_texts, were_read}
use Rattle.jc_command_work.proofs.Leaves.{nothing_yet}
use Rattle.jc_command_work.proofs.References.{references_then}
use Rattle.jc_headline.specs.CoverWork.{instrumenting}
use Rattle.jc_command_cover.specs.CoverSeen.{cover_seen}
use Rattle.jc_command_cover.proofs.AcceptedLaws.{few_accepted}
use Rattle.jc_command_cover.proofs.RunLaws.{none_read, not_planned, not_instrumented, none_covered, has_covered, instrumented_all}
use Rattle.jc_command_cover.proofs.covering.cover.Goals as goal

pub new-targeted-requires : goal.new-targeted-requires
new-targeted-requires g c =
    let dest = c.args.options.now.dest.now in
    let words = words_of c.args.paths.now in
    let read = were_read g.F.Files.landed words c.in_ok-inputs.inputs.texts _ _ (c.in_ok-inputs.ensures.does None None 0 0).1 in
    sym (length-map c.in_ok-file_targets.file_targets.items (λ (t : Bor (List ℕ)). t.now)) ∙ ap length c.in_ok-file_targets.ensures
    ∙ ap length c.requires.targets ∙ length-map words (in_folder dest) ∙ as_many_texts words c.in_ok-inputs.inputs.texts read

pub instrument_files-requires-clause-few : goal.instrument_files-requires-clause-few
instrument_files-requires-clause-few g c =
    let many = ap (λ (f : FilesRead). length f.paths) c.new-targeted.ensures.inputs ∙ ap length c.in_ok-inputs.ensures.paths ∙ length-map c.args.paths.now string_bytes in
    omega (arith, many, c.requires.few)

pub accepted_files-requires : goal.accepted_files-requires
accepted_files-requires g c =
    let dest = c.args.options.now.dest.now in
    let targeted = c.new-targeted.result in
    let names = ap (λ (f : FilesRead). f.paths) c.new-targeted.ensures.inputs ∙ c.in_ok-inputs.ensures.paths in
    let in_dest = c.new-targeted.ensures.targets ∙ c.in_ok-file_targets.ensures ∙ c.requires.targets ∙ ap (map (in_folder dest)) (sym names) in
    let made = c.in_ok-places.ensures.1 dest in_dest in
    record { dest = dest; looked = made.looked; of = instrumented_all g.F.Files.landed dest targeted _ _ _ _ _ in_dest made }

pub returns-in_err-inputs : goal.returns-in_err-inputs
returns-in_err-inputs g c named =
    let O = g.O.Sink in
    let E = g.E.Sink in
    let p = err_from_is_err_and c.from_residual.result c.from_residual.ensures.1 in
    let words = words_of c.args.paths.now in
    rw (p.1, p.2) (
      (refl, refl, refl),
      none_read g.F.Files.landed (cover_seen c.args.options.now named) c.args.plan_text.now words _ _ words refl _ _ _
          (c.in_err-inputs.ensures.does (O.told c.args.outside.now.out.now) (E.told c.args.outside.now.err.now) (O.faults c.args.outside.now.out.now) (E.faults c.args.outside.now.err.now)),
    )

pub returns-in_err-plan : goal.returns-in_err-plan
returns-in_err-plan g c named =
    let O = g.O.Sink in
    let E = g.E.Sink in
    let p = err_from_is_err_and c.from_residual-in_err-plan.result c.from_residual-in_err-plan.ensures.1 in
    let words = words_of c.args.paths.now in
    rw (p.1, p.2) (
      (refl, refl, refl),
      not_planned g.F.Files.landed (cover_seen c.args.options.now named) c.args.plan_text.now words _ _ words refl c.in_ok-inputs.inputs.texts _ _
          (c.in_ok-inputs.ensures.does (O.told c.args.outside.now.out.now) (E.told c.args.outside.now.err.now) (O.faults c.args.outside.now.out.now) (E.faults c.args.outside.now.err.now))
          c.in_err-plan.field-0.0 c.in_err-plan.ensures.refused,
    )

pub returns-in_err-file_targets : goal.returns-in_err-file_targets
returns-in_err-file_targets g c named =
    let O = g.O.Sink in
    let E = g.E.Sink in
    let words = words_of c.args.paths.now in
    let texts = c.in_ok-inputs.inputs.texts in
    let p = err_from_is_err_and c.from_residual-in_err-file_targets.result c.from_residual-in_err-file_targets.ensures.1 in
    rw (p.1, p.2) (
      (refl, refl, refl),
      not_instrumented g.F.Files.landed (cover_seen c.args.options.now named) c.args.plan_text.now words _ _ words refl texts _ _
          (c.in_ok-inputs.ensures.does (O.told c.args.outside.now.out.now) (E.told c.args.outside.now.err.now) (O.faults c.args.outside.now.out.now) (E.faults c.args.outside.now.err.now))
          c.in_ok-plan.plan c.in_ok-plan.ensures.plan texts refl _ _ stops.Memory (nothing_yet g.F.Files.landed (instrumenting c.args.options.now.dest.now words texts) _ _),
    )

pub returns-in_err-places : goal.returns-in_err-places
returns-in_err-places g c named =
    let O = g.O.Sink in
    let E = g.E.Sink in
    let dest = c.args.options.now.dest.now in
    let targeted = c.new-targeted.result in
    let names = ap (λ (f : FilesRead). f.paths) c.new-targeted.ensures.inputs ∙ c.in_ok-inputs.ensures.paths in
    let in_dest = c.new-targeted.ensures.targets ∙ c.in_ok-file_targets.ensures ∙ c.requires.targets ∙ ap (map (in_folder dest)) (sym names) in
    let p = err_from_is_err_and c.from_residual-in_err-places.result c.from_residual-in_err-places.ensures.1 in
    rw (p.1, p.2, ← names) (
      c.in_err-places.ensures.0,
      not_instrumented g.F.Files.landed (cover_seen c.args.options.now named) c.args.plan_text.now targeted.inputs.paths _ _ (words_of c.args.paths.now)
          (sym names) c.in_ok-inputs.inputs.texts _ _
          (c.in_ok-inputs.ensures.does (O.told c.args.outside.now.out.now) (E.told c.args.outside.now.err.now) (O.faults c.args.outside.now.out.now) (E.faults c.args.outside.now.err.now))
          c.in_ok-plan.plan c.in_ok-plan.ensures.plan targeted.inputs.texts (ap (λ (f : FilesRead). f.texts) c.new-targeted.ensures.inputs)
          _ _ c.in_err-places.field-0.0 (c.in_err-places.ensures.1 dest in_dest),
    )

pub returns-in_err-accepted : goal.returns-in_err-accepted
returns-in_err-accepted g c named =
    let O = g.O.Sink in
    let E = g.E.Sink in
    let dest = c.args.options.now.dest.now in
    let targeted = c.new-targeted.result in
    let names = ap (λ (f : FilesRead). f.paths) c.new-targeted.ensures.inputs ∙ c.in_ok-inputs.ensures.paths in
    let in_dest = c.new-targeted.ensures.targets ∙ c.in_ok-file_targets.ensures ∙ c.requires.targets ∙ ap (map (in_folder dest)) (sym names) in
    let made = c.in_ok-places.ensures.1 dest in_dest in
    let p = err_from_is_err_and c.from_residual-in_err-accepted.result c.from_residual-in_err-accepted.ensures.1 in
    rw (p.1, p.2, ← names) (
      c.in_ok-places.ensures.0,
      none_covered g.F.Files.landed (cover_seen c.args.options.now named) c.args.plan_text.now targeted.inputs.paths _ _ (words_of c.args.paths.now)
          (sym names) c.in_ok-inputs.inputs.texts _ _
          (c.in_ok-inputs.ensures.does (O.told c.args.outside.now.out.now) (E.told c.args.outside.now.err.now) (O.faults c.args.outside.now.out.now) (E.faults c.args.outside.now.err.now))
          c.in_ok-plan.plan c.in_ok-plan.ensures.plan targeted.inputs.texts (ap (λ (f : FilesRead). f.texts) c.new-targeted.ensures.inputs) _ _ c.in_ok-places.places.items made,
    )

pub run_accepted-requires-clause-few : goal.run_accepted-requires-clause-few
run_accepted-requires-clause-few g c lifetimes outlive =
    let dest = c.args.options.now.dest.now in
    let targeted = c.new-targeted.result in
    let names = ap (λ (f : FilesRead). f.paths) c.new-targeted.ensures.inputs ∙ c.in_ok-inputs.ensures.paths in
    let in_dest = c.new-targeted.ensures.targets ∙ c.in_ok-file_targets.ensures ∙ c.requires.targets ∙ ap (map (in_folder dest)) (sym names) in
    let made = c.in_ok-places.ensures.1 dest in_dest in
    let all = instrumented_all g.F.Files.landed dest targeted _ _ _ _ _ in_dest made in
    let many : length targeted.inputs.paths ≡ length c.args.paths.now = ap length names ∙ length-map c.args.paths.now string_bytes in
    few_accepted dest made.looked targeted _ _ all (c.in_ok-accepted.ensures dest made.looked all) (omega (arith, many, c.requires.few))

pub returns : goal.returns
returns g c named =
    let O = g.O.Sink in
    let E = g.E.Sink in
    let dest = c.args.options.now.dest.now in
    let targeted = c.new-targeted.result in
    let names = ap (λ (f : FilesRead). f.paths) c.new-targeted.ensures.inputs ∙ c.in_ok-inputs.ensures.paths in
    let in_dest = c.new-targeted.ensures.targets ∙ c.in_ok-file_targets.ensures ∙ c.requires.targets ∙ ap (map (in_folder dest)) (sym names) in
    let made = c.in_ok-places.ensures.1 dest in_dest in
    let are = c.in_ok-accepted.ensures dest made.looked (instrumented_all g.F.Files.landed dest targeted _ _ _ _ _ in_dest made) in
    rw (← names) (
      references_then c.in_ok-places.ensures.0 (c.run_accepted.ensures named).0,
      has_covered g.F.Files.landed (cover_seen c.args.options.now named) c.args.plan_text.now targeted.inputs.paths _ _ (words_of c.args.paths.now)
          (sym names) c.in_ok-inputs.inputs.texts _ _
          (c.in_ok-inputs.ensures.does (O.told c.args.outside.now.out.now) (E.told c.args.outside.now.err.now) (O.faults c.args.outside.now.out.now) (E.faults c.args.outside.now.err.now))
          c.in_ok-plan.plan c.in_ok-plan.ensures.plan targeted.inputs.texts (ap (λ (f : FilesRead). f.texts) c.new-targeted.ensures.inputs)
          _ _ c.in_ok-places.places.items made _ _ c.run_accepted.result
          ((c.run_accepted.ensures named).1 made.looked are),
    )
