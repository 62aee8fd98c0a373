use Rattle.std.proofs.Common.{ℕ, List, Bor, map, string_bytes, length, None, Ok, Err, sym, ◌∙◌, ap, subst}
use Rattle.std.proofs.lemmas.List.{length-map}
use Rattle.std.proofs.lemmas.Result.{err_from_is_err_and}
use Rattle.jc_command_work.specs.declared.stop.Stop.TheVariants as stops
use Rattle.jc_command_work.specs.Seen.{words_of, write_seen, stop_seen}
use Rattle.jc_command_work.specs.Step.{Word, FilesRead}
use Rattle.jc_command_work.proofs.AnsweredLaws.{as_many_texts, were_read, prepared, unprepared}
use Rattle.jc_command_classes.specs.Instrument.{AreFileWrites, InstrumentAnswers, instrumented}
use Rattle.jc_command_classes.proofs.instrument.prepare_instrument.Goals as goal

pub returns-in_err-inputs : goal.returns-in_err-inputs
returns-in_err-inputs g c out err outs errs =
    let p = err_from_is_err_and c.from_residual.result c.from_residual.ensures.1 in
    rw (p.1, p.2) (unprepared g.F.Files.landed (words_of c.args.paths.now) (InstrumentAnswers (words_of c.args.targets.now) (words_of c.args.paths.now)) _ _ _ _
    (stop_seen c.in_err-inputs.field-0.0) (c.in_err-inputs.ensures.does out err outs errs))

pub new-targeted-requires : goal.new-targeted-requires
new-targeted-requires g c =
    let read = were_read g.F.Files.landed (words_of c.args.paths.now) c.in_ok-inputs.inputs.texts _ _ (c.in_ok-inputs.ensures.does None None 0 0).1 in
    sym (length-map c.in_ok-file_targets.file_targets.items (λ (t : Bor (List ℕ)). t.now)) ∙ ap length c.in_ok-file_targets.ensures
    ∙ length-map c.args.targets.now string_bytes ∙ c.requires ∙ sym (length-map c.args.paths.now string_bytes)
    ∙ as_many_texts (words_of c.args.paths.now) c.in_ok-inputs.inputs.texts read

pub returns-in_err-file_targets : goal.returns-in_err-file_targets
returns-in_err-file_targets g c out err outs errs =
    let p = err_from_is_err_and c.from_residual-in_err-file_targets.result c.from_residual-in_err-file_targets.ensures.1 in
    rw (p.1, p.2) (prepared g.F.Files.landed (words_of c.args.paths.now) (InstrumentAnswers (words_of c.args.targets.now) (words_of c.args.paths.now)) _ _ _ _
    c.in_ok-inputs.inputs.texts (Err stops.Memory) (c.in_ok-inputs.ensures.does out err outs errs) tt)

pub returns : goal.returns
returns g c out err outs errs =
    let targets = words_of c.args.targets.now in
    let paths = words_of c.args.paths.now in
    let texts = c.in_ok-inputs.inputs.texts in
    let writes = map write_seen c.in_ok-all_writes.field-0.items in
    let targeted = c.new-targeted.result in
    let targets_are = c.new-targeted.ensures.targets ∙ c.in_ok-file_targets.ensures in
    let paths_are = ap (λ (f : FilesRead). f.paths) c.new-targeted.ensures.inputs ∙ c.in_ok-inputs.ensures.paths in
    let texts_are = ap (λ (f : FilesRead). f.texts) c.new-targeted.ensures.inputs in
    let written = subst (λ (ts : List (List ℕ)). AreFileWrites targets paths ts writes) texts_are
    (subst (λ (ps : List Word). AreFileWrites targets ps targeted.inputs.texts writes) paths_are
    (subst (λ (ws : List Word). AreFileWrites ws targeted.inputs.paths targeted.inputs.texts writes) targets_are c.in_ok-all_writes.ensures)) in
    prepared g.F.Files.landed paths (InstrumentAnswers targets paths) _ _ _ _ texts (Ok c.in_ok-all_writes.field-0) (c.in_ok-inputs.ensures.does out err outs errs)
    (instrumented writes written)

pub returns-in_err-all_writes : goal.returns-in_err-all_writes
returns-in_err-all_writes g c out err outs errs =
    let p = err_from_is_err_and c.from_residual-in_err-all_writes.result c.from_residual-in_err-all_writes.ensures.1 in
    rw (p.1, p.2) (prepared g.F.Files.landed (words_of c.args.paths.now) (InstrumentAnswers (words_of c.args.targets.now) (words_of c.args.paths.now)) _ _ _ _
    c.in_ok-inputs.inputs.texts (Err stops.Memory) (c.in_ok-inputs.ensures.does out err outs errs) tt)
