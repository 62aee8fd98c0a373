use Rattle.jc_command_work.specs.Seen.{texts_of}
use Rattle.jc_command_exec.specs.ExecInfo.{InfoAnswers}
use Rattle.jc_top.proofs.CommandLaws.{listing_completed}
use Rattle.jc_top.proofs.commands.exec_info.Goals as goal

pub returns : goal.returns
returns g c =
    let O = g.O.Sink in
    let E = g.E.Sink in
    let inputs = texts_of c.args.inputs.now in (
      c.complete_listing.ensures.0,
      listing_completed g.F.Files.landed inputs (InfoAnswers inputs) _ _ _ _ _ _ c.prepare_exec_info-prepared.result c.complete_listing.result
          (c.prepare_exec_info-prepared.ensures (O.told c.args.outside.now.out.now) (E.told c.args.outside.now.err.now)
          (O.faults c.args.outside.now.out.now) (E.faults c.args.outside.now.err.now)) c.complete_listing.ensures.1,
    )
