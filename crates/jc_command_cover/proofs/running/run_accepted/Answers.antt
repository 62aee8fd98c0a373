use Rattle.std.proofs.Common.{◌∙◌, None, ap, refl, sym}
use Rattle.std.proofs.lemmas.Result.{err_from_is_err_and}
use Rattle.jc_machine_laws.specs.Frameless.{frameless}
use Rattle.jc_machine_laws.proofs.FramelessTextLaws.{same_texts}
use Rattle.jc_command_run.proofs.StoreLaws.{same_store}
use Rattle.jc_command_run.proofs.FitLaws.{fit_records}
use Rattle.jc_command_work.specs.Step.{FilesRead}
use Rattle.jc_command_cover.specs.CoverSeen.{cover_seen}
use Rattle.jc_command_cover.proofs.EntryLaws.{entries_there}
use Rattle.jc_command_cover.proofs.RunLaws.{none_read_back, not_linked, no_entries, not_run, has_run, bytes_read}
use Rattle.jc_command_cover.proofs.running.run_accepted.Goals as goal

pub run_program-requires-clause-fits : goal.run_program-requires-clause-fits
run_program-requires-clause-fits g c lifetimes outlive =
    let read = c.in_ok-written.ensures.does None None 0 0 in
    fit_records c.in_ok-written.written.texts c.in_ok-program.program (bytes_read g.F.Files.landed _ c.in_ok-written.written.texts _ _ read.1)
    c.in_ok-program.ensures.linked

pub returns-in_err-written : goal.returns-in_err-written
returns-in_err-written g c named =
    let O = g.O.Sink in
    let E = g.E.Sink in
    let p = err_from_is_err_and c.from_residual.result c.from_residual.ensures.1 in
    rw (p.1, p.2) (
      (refl, refl, refl),
      λ looked are. none_read_back g.F.Files.landed (cover_seen c.args.options.now named) c.args.plan.now looked _ _ _ are.targets
          _ _ _ (c.in_err-written.ensures.does (O.told c.args.outside.now.out.now)
          (E.told c.args.outside.now.err.now) (O.faults c.args.outside.now.out.now) (E.faults c.args.outside.now.err.now)),
    )

pub returns-in_err-program : goal.returns-in_err-program
returns-in_err-program g c named =
    let O = g.O.Sink in
    let E = g.E.Sink in
    let p = err_from_is_err_and c.from_residual-in_err-program.result c.from_residual-in_err-program.ensures.1 in
    rw (p.1, p.2) (
      (refl, refl, refl),
      λ looked are. not_linked g.F.Files.landed (cover_seen c.args.options.now named) c.args.plan.now looked _ _ _ are.targets
          c.in_ok-written.written.texts _ _
          (c.in_ok-written.ensures.does (O.told c.args.outside.now.out.now) (E.told c.args.outside.now.err.now) (O.faults c.args.outside.now.out.now)
          (E.faults c.args.outside.now.err.now)) c.in_ok-written.written.texts refl
          c.in_err-program.field-0.0 (c.in_err-program.ensures.decides looked (c.deref.ensures.value ∙ are.places) (c.in_ok-written.ensures.paths ∙ are.paths)),
    )

pub returns-in_err-check_entries : goal.returns-in_err-check_entries
returns-in_err-check_entries g c named =
    let O = g.O.Sink in
    let E = g.E.Sink in
    let program = c.in_ok-program.program in
    let p = err_from_is_err_and c.from_residual-in_err-check_entries.result c.from_residual-in_err-check_entries.ensures.1 in
    rw (p.1, p.2) (
      (refl, refl, refl),
      λ looked are. no_entries g.F.Files.landed (cover_seen c.args.options.now named) c.args.plan.now looked _ _ _ are.targets
          c.in_ok-written.written.texts _ _
          (c.in_ok-written.ensures.does (O.told c.args.outside.now.out.now) (E.told c.args.outside.now.err.now) (O.faults c.args.outside.now.out.now)
          (E.faults c.args.outside.now.err.now)) c.in_ok-written.written.texts refl
          (frameless program) (program, c.in_ok-program.ensures.linked, refl) c.in_err-check_entries.field-0.0 c.in_err-check_entries.ensures.decides,
    )

pub returns-in_err-ran : goal.returns-in_err-ran
returns-in_err-ran g c named =
    let O = g.O.Sink in
    let E = g.E.Sink in
    let program = c.in_ok-program.program in
    let p = err_from_is_err_and c.from_residual-in_err-ran.result c.from_residual-in_err-ran.ensures.1 in
    rw (p.1, p.2) (
      (refl, refl, refl),
      λ looked are. not_run g.F.Files.landed (cover_seen c.args.options.now named) c.args.plan.now looked _ _ _ are.targets
          c.in_ok-written.written.texts _ _
          (c.in_ok-written.ensures.does (O.told c.args.outside.now.out.now) (E.told c.args.outside.now.err.now) (O.faults c.args.outside.now.out.now)
          (E.faults c.args.outside.now.err.now)) c.in_ok-written.written.texts refl
          (frameless program) (program, c.in_ok-program.ensures.linked, refl) (entries_there program c.args.plan.now c.in_ok-check_entries.ensures.entries),
    )

pub returns : goal.returns
returns g c named =
    let O = g.O.Sink in
    let E = g.E.Sink in
    let program = c.in_ok-program.program in
    let plan = c.args.plan.now in (
      (c.write_results.ensures named).0,
      λ looked are. has_run g.F.Files.landed (cover_seen c.args.options.now named) plan looked _ _ _ are.targets
          c.in_ok-written.written.texts _ _
          (c.in_ok-written.ensures.does (O.told c.args.outside.now.out.now) (E.told c.args.outside.now.err.now) (O.faults c.args.outside.now.out.now)
          (E.faults c.args.outside.now.err.now)) c.in_ok-written.written.texts refl
          (frameless program) (program, c.in_ok-program.ensures.linked, refl) (entries_there program plan c.in_ok-check_entries.ensures.entries) _ _ c.write_results.result
          ((c.write_results.ensures named).1 (record {
            plan = plan;
            looked = looked;
            program = frameless program;
            texts_are = ap (λ (f : FilesRead). f.texts) c.inputs-originals.ensures ∙ are.texts;
            store_is = c.in_ok-ran.ensures.store ∙ sym (same_store program plan);
            text_is = c.in_ok-ran.ensures.text ∙ sym (same_texts program 1 plan.cases);
          })),
    )
