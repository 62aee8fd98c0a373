use Rattle.std.proofs.Common.{◌∙◌, ap, refl}
use Rattle.std.proofs.lemmas.Result.{err_from_is_err_and}
use Rattle.jc_exec.specs.Writing.{exec_text}
use Rattle.jc_command_cover.specs.CoverSeen.{cover_seen}
use Rattle.jc_command_cover.proofs.ResultLaws.{exec_unwritten, no_report, is_report, report_unwritten, results_written}
use Rattle.jc_command_cover.proofs.results.write_results.Goals as goal

pub returns-in_err-write_file : goal.returns-in_err-write_file
returns-in_err-write_file g c named =
    let O = g.O.Sink in
    let E = g.E.Sink in
    let p = err_from_is_err_and c.from_residual-in_err-write_file.result c.from_residual-in_err-write_file.ensures.1 in
    rw (p.1, p.2) (
      (refl, refl, refl),
      λ run.
          let bytes = c.deref.ensures.value ∙ c.in_ok-exec_text.ensures.text ∙ ap exec_text run.store_is in
          exec_unwritten g.F.Files.landed (cover_seen c.args.options.now named) run.plan run.looked run.program _ _ c.deref.result.now bytes _ _ _
          (c.in_err-write_file.ensures.does (O.told c.args.outside.now.out.now) (E.told c.args.outside.now.err.now) (O.faults c.args.outside.now.out.now) (E.faults c.args.outside.now.err.now)),
    )

pub returns-in_err-csv : goal.returns-in_err-csv
returns-in_err-csv g c named =
    let O = g.O.Sink in
    let E = g.E.Sink in
    let p = err_from_is_err_and c.from_residual-in_err-csv.result c.from_residual-in_err-csv.ensures.1 in
    rw (p.1, p.2) (
      (refl, refl, refl),
      λ run.
          let bytes = c.deref.ensures.value ∙ c.in_ok-exec_text.ensures.text ∙ ap exec_text run.store_is in
          no_report g.F.Files.landed (cover_seen c.args.options.now named) run.plan run.looked run.program _ _ c.deref.result.now bytes _ _
          (c.in_ok-write_file.ensures.does (O.told c.args.outside.now.out.now) (E.told c.args.outside.now.err.now)
          (O.faults c.args.outside.now.out.now) (E.faults c.args.outside.now.err.now)) c.args.ran.store c.args.inputs.now.texts run.store_is run.texts_are
          c.in_err-csv.field-0.0 c.in_err-csv.ensures,
    )

pub returns-in_err-write_file-2 : goal.returns-in_err-write_file-2
returns-in_err-write_file-2 g c named =
    let O = g.O.Sink in
    let E = g.E.Sink in
    let p = err_from_is_err_and c.from_residual-in_err-write_file-2.result c.from_residual-in_err-write_file-2.ensures.1 in
    rw (p.1, p.2) (
      (refl, refl, refl),
      λ run.
          let bytes = c.deref.ensures.value ∙ c.in_ok-exec_text.ensures.text ∙ ap exec_text run.store_is in
          let seen = cover_seen c.args.options.now named in
          let reports = is_report g.F.Files.landed seen run.plan run.looked run.program c.args.ran.store c.args.inputs.now.texts
          c.in_ok-csv.csv.items c.deref-2.result.now run.store_is run.texts_are
          c.deref-2.ensures.value c.in_ok-csv.ensures in
          report_unwritten g.F.Files.landed seen run.plan run.looked run.program _ _ c.deref.result.now bytes _ _
          (c.in_ok-write_file.ensures.does (O.told c.args.outside.now.out.now) (E.told c.args.outside.now.err.now)
          (O.faults c.args.outside.now.out.now) (E.faults c.args.outside.now.err.now)) c.deref-2.result.now reports _ _ c.in_err-write_file-2.field-0.0
          (c.in_err-write_file-2.ensures.does (O.told c.args.outside.now.out.now) (E.told c.args.outside.now.err.now) (O.faults c.args.outside.now.out.now) (E.faults c.args.outside.now.err.now)),
    )

pub returns : goal.returns
returns g c named =
    let F = g.F.Files in
    let O = g.O.Sink in
    let E = g.E.Sink in (
      (refl, refl, refl),
      λ run.
          let bytes = c.deref.ensures.value ∙ c.in_ok-exec_text.ensures.text ∙ ap exec_text run.store_is in
          let seen = cover_seen c.args.options.now named in
          let reports = is_report F.landed seen run.plan run.looked run.program c.args.ran.store c.args.inputs.now.texts c.in_ok-csv.csv.items c.deref-2.result.now run.store_is run.texts_are
          c.deref-2.ensures.value c.in_ok-csv.ensures in
          results_written F.landed seen run.plan run.looked run.program _ _ c.deref.result.now bytes _ _
          (c.in_ok-write_file.ensures.does (O.told c.args.outside.now.out.now) (E.told c.args.outside.now.err.now)
          (O.faults c.args.outside.now.out.now) (E.faults c.args.outside.now.err.now)) c.deref-2.result.now reports _ _ _ _ c.deref-3.result.now c.put_out.result
          (c.deref-3.ensures.value ∙ run.text_is)
          (c.in_ok-write_file-2.ensures.does (O.told c.args.outside.now.out.now) (E.told c.args.outside.now.err.now)
          (O.faults c.args.outside.now.out.now) (E.faults c.args.outside.now.err.now))
          (c.put_out.ensures.does F.landed (F.contents c.write_file-2.new.files) (F.failed_path c.write_file-2.new.files) (E.told c.args.outside.now.err.now)
          (F.read_faults c.write_file-2.new.files) (F.write_faults c.write_file-2.new.files) (E.faults c.args.outside.now.err.now)),
    )
