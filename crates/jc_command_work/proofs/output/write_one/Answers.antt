use Rattle.std.proofs.Common.{List, ℕ, refl, subst}
use Rattle.jc_command_work.specs.Step.{outside, counts, to_file, to_out, to_err}
use Rattle.jc_command_work.specs.Part.{writing}
use Rattle.jc_command_work.specs.Ending.{Does}
use Rattle.jc_command_work.specs.Seen.{stop_seen}
use Rattle.jc_command_work.proofs.output.write_one.Goals as goal

pub returns-in-File-clause-does : goal.returns-in-File-clause-does
returns-in-File-clause-does g c =
    let F = g.F.Files in
    let O = g.O.Sink in
    let E = g.E.Sink in
    rw c.in-File.is (
      (refl, refl, refl),
      subst (λ (b : List ℕ). Does F.landed (writing (to_file c.in-File.path.now b)) (λ _. tt) stop_seen
          (outside (F.contents c.args.outside.now.files.now) (F.failed_path c.args.outside.now.files.now) (O.told c.args.outside.now.out.now) (E.told c.args.outside.now.err.now))
          (outside (F.contents c.write_file.new.files) (F.failed_path c.write_file.new.files) (O.told c.args.outside.now.out.now) (E.told c.args.outside.now.err.now))
          (counts (F.read_faults c.args.outside.now.files.now) (F.write_faults c.args.outside.now.files.now) (O.faults c.args.outside.now.out.now) (E.faults c.args.outside.now.err.now))
          (counts (F.read_faults c.write_file.new.files) (F.write_faults c.write_file.new.files) (O.faults c.args.outside.now.out.now)
          (E.faults c.args.outside.now.err.now)) c.write_file.result) c.deref.ensures.value
          (c.write_file.ensures.does (O.told c.args.outside.now.out.now) (E.told c.args.outside.now.err.now) (O.faults c.args.outside.now.out.now) (E.faults c.args.outside.now.err.now)),
    )

pub returns-in-Out-clause-does : goal.returns-in-Out-clause-does
returns-in-Out-clause-does g c =
    let F = g.F.Files in
    let O = g.O.Sink in
    let E = g.E.Sink in
    rw c.in-Out.is (
      (refl, refl, refl),
      subst (λ (b : List ℕ). Does F.landed (writing (to_out b)) (λ _. tt) stop_seen
          (outside (F.contents c.args.outside.now.files.now) (F.failed_path c.args.outside.now.files.now) (O.told c.args.outside.now.out.now) (E.told c.args.outside.now.err.now))
          (outside (F.contents c.args.outside.now.files.now) (F.failed_path c.args.outside.now.files.now) (O.told c.put_out.new.out) (E.told c.args.outside.now.err.now))
          (counts (F.read_faults c.args.outside.now.files.now) (F.write_faults c.args.outside.now.files.now) (O.faults c.args.outside.now.out.now) (E.faults c.args.outside.now.err.now))
          (counts (F.read_faults c.args.outside.now.files.now) (F.write_faults c.args.outside.now.files.now) (O.faults c.put_out.new.out)
          (E.faults c.args.outside.now.err.now)) c.put_out.result) c.deref-in-Out.ensures.value
          (c.put_out.ensures.does F.landed (F.contents c.args.outside.now.files.now) (F.failed_path c.args.outside.now.files.now) (E.told c.args.outside.now.err.now)
          (F.read_faults c.args.outside.now.files.now) (F.write_faults c.args.outside.now.files.now) (E.faults c.args.outside.now.err.now)),
    )

pub returns-in-Err-clause-does : goal.returns-in-Err-clause-does
returns-in-Err-clause-does g c =
    let F = g.F.Files in
    let O = g.O.Sink in
    let E = g.E.Sink in
    rw c.in-Err.is (
      (refl, refl, refl),
      subst (λ (b : List ℕ). Does F.landed (writing (to_err b)) (λ _. tt) stop_seen
          (outside (F.contents c.args.outside.now.files.now) (F.failed_path c.args.outside.now.files.now) (O.told c.args.outside.now.out.now) (E.told c.args.outside.now.err.now))
          (outside (F.contents c.args.outside.now.files.now) (F.failed_path c.args.outside.now.files.now) (O.told c.args.outside.now.out.now) (E.told c.put_err.new.err))
          (counts (F.read_faults c.args.outside.now.files.now) (F.write_faults c.args.outside.now.files.now) (O.faults c.args.outside.now.out.now) (E.faults c.args.outside.now.err.now))
          (counts (F.read_faults c.args.outside.now.files.now) (F.write_faults c.args.outside.now.files.now) (O.faults c.args.outside.now.out.now)
          (E.faults c.put_err.new.err)) c.put_err.result) c.deref-in-Err.ensures.value
          (c.put_err.ensures.does F.landed (F.contents c.args.outside.now.files.now) (F.failed_path c.args.outside.now.files.now) (O.told c.args.outside.now.out.now)
          (F.read_faults c.args.outside.now.files.now) (F.write_faults c.args.outside.now.files.now) (O.faults c.args.outside.now.out.now)),
    )
