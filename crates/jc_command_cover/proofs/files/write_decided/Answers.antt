use Rattle.std.proofs.Common.{◌≡◌, [], ◌∷◌, refl, ◌∙◌, ap, subst}
use Rattle.std.proofs.lemmas.Result.{err_from_is_err_and}
use Rattle.jc_command_work.specs.Step.{to_file, to_out, to_err}
use Rattle.jc_command_work.specs.Seen.{stop_seen}
use Rattle.jc_command_classes.specs.declared.instrument.Decided.{Decided}
use Rattle.jc_command_classes.specs.Instrument.{refused_file, accepted_file, decided_line, decision_seen}
use Rattle.jc_command_cover.proofs.FileLaws.{two_written, first_unwritten}
use Rattle.jc_command_cover.proofs.files.write_decided.Goals as goal

pub returns-in_err-write_file-in-Accepted : goal.returns-in_err-write_file-in-Accepted
returns-in_err-write_file-in-Accepted g c =
    let O = g.O.Sink in
    let E = g.E.Sink in
    let p = err_from_is_err_and c.from_residual-in_err-write_file-in-Accepted.result c.from_residual-in_err-write_file-in-Accepted.ensures.1 in
    rw (c.in-Accepted.is, p.1, p.2) (
      (refl, refl, refl),
      first_unwritten g.F.Files.landed _ _ (to_out (decided_line c.args.path.now (accepted_file c.in-Accepted.class)) ∷ []) _ _ _ _ _ (ap (to_file c.args.target.now) c.deref.ensures)
          (c.in_err-write_file-in-Accepted.ensures.does (O.told c.args.outside.now.out.now) (E.told c.args.outside.now.err.now)
          (O.faults c.args.outside.now.out.now) (E.faults c.args.outside.now.err.now)),
    )

pub returns-in-Accepted : goal.returns-in-Accepted
returns-in-Accepted g c =
    let F = g.F.Files in
    let O = g.O.Sink in
    let E = g.E.Sink in
    let line_is = c.deref-in-Accepted.ensures.value
    ∙ subst (λ (d : Decided). c.in_ok-line.line.items ≡ decided_line c.args.path.now (decision_seen d)) c.in-Accepted.is c.in_ok-line.ensures in
    rw c.in-Accepted.is (
      (refl, refl, refl),
      two_written F.landed _ _ stop_seen _ _ _ _ _ _ _ _ (ap (to_file c.args.target.now) c.deref.ensures) (ap to_out line_is) c.put_out.result
          (c.in_ok-write_file-in-Accepted.ensures.does (O.told c.args.outside.now.out.now) (E.told c.args.outside.now.err.now)
          (O.faults c.args.outside.now.out.now) (E.faults c.args.outside.now.err.now))
          (c.put_out.ensures.does F.landed (F.contents c.write_file.new.files) (F.failed_path c.write_file.new.files) (E.told c.args.outside.now.err.now)
          (F.read_faults c.write_file.new.files) (F.write_faults c.write_file.new.files) (E.faults c.args.outside.now.err.now)),
    )

pub returns-in_err-write_file-in-Refused : goal.returns-in_err-write_file-in-Refused
returns-in_err-write_file-in-Refused g c =
    let O = g.O.Sink in
    let E = g.E.Sink in
    let p = err_from_is_err_and c.from_residual-in_err-write_file-in-Refused.result c.from_residual-in_err-write_file-in-Refused.ensures.1 in
    rw (c.in-Refused.is, p.1, p.2) (
      (refl, refl, refl),
      first_unwritten g.F.Files.landed _ _ (to_err (decided_line c.args.path.now (refused_file c.in-Refused.field-0)) ∷ []) _ _ _ _ _ refl
          (c.in_err-write_file-in-Refused.ensures.does (O.told c.args.outside.now.out.now) (E.told c.args.outside.now.err.now)
          (O.faults c.args.outside.now.out.now) (E.faults c.args.outside.now.err.now)),
    )

pub returns : goal.returns
returns g c =
    let F = g.F.Files in
    let O = g.O.Sink in
    let E = g.E.Sink in
    let line_is = c.deref-in-Refused.ensures.value
    ∙ subst (λ (d : Decided). c.in_ok-line.line.items ≡ decided_line c.args.path.now (decision_seen d)) c.in-Refused.is c.in_ok-line.ensures in
    rw c.in-Refused.is (
      (refl, refl, refl),
      two_written F.landed _ _ stop_seen _ _ _ _ _ _ _ _ refl (ap to_err line_is) c.put_err.result
          (c.in_ok-write_file-in-Refused.ensures.does (O.told c.args.outside.now.out.now) (E.told c.args.outside.now.err.now)
          (O.faults c.args.outside.now.out.now) (E.faults c.args.outside.now.err.now))
          (c.put_err.ensures.does F.landed (F.contents c.write_file-in-Refused.new.files) (F.failed_path c.write_file-in-Refused.new.files)
          (O.told c.args.outside.now.out.now) (F.read_faults c.write_file-in-Refused.new.files) (F.write_faults c.write_file-in-Refused.new.files) (O.faults c.args.outside.now.out.now)),
    )
