use Rattle.std.proofs.Common.{[], refl, ap}
use Rattle.jc_command_work.specs.Seen.{texts_of}
use Rattle.jc_command_exec.specs.Merge.{MergeAnswers}
use Rattle.jc_top.proofs.CommandLaws.{completed, ends_same}
use Rattle.jc_top.proofs.commands.merge.Goals as goal

pub returns : goal.returns
returns g c =
    let F = g.F.Files in
    let O = g.O.Sink in
    let E = g.E.Sink in
    let dest = c.args.words.now.destfile.now in
    let inputs = texts_of c.deref.result.now in (
      c.complete.ensures.0,
      ends_same F.landed (λ _. MergeAnswers dest) [] [] inputs (texts_of c.args.words.now.inputs.items) refl (ap texts_of c.deref.ensures.value) _ _ _ _ c.complete.result
          (completed F.landed inputs (MergeAnswers dest inputs) _ _ _ _ _ _ c.prepare_merge-prepared.result c.complete.result
          (c.prepare_merge-prepared.ensures (O.told c.args.outside.now.out.now) (E.told c.args.outside.now.err.now)
          (O.faults c.args.outside.now.out.now) (E.faults c.args.outside.now.err.now)) c.complete.ensures.1),
    )
