use Rattle.std.proofs.Common.{◌∷◌}
use Rattle.jc_command_monitored.specs.MonitoredAnswers.{MonitoredAnswers}
use Rattle.jc_command_run.specs.RunAnswers.{RunAnswers}
use Rattle.jc_command_work.specs.Seen.{words_of}
use Rattle.jc_top.specs.Work.{nothing_taken}
use Rattle.jc_top.proofs.CommandLaws.{completed}
use Rattle.jc_top.proofs.commands.run_listed.Goals as goal

pub returns-in-Plain : goal.returns-in-Plain
returns-in-Plain g c =
    let F = g.F.Files in
    let O = g.O.Sink in
    let E = g.E.Sink in
    let w = c.args.words.now in
    let paths = words_of c.args.paths.now in
    rw c.in-Plain.is (
      nothing_taken,
      (
        c.complete.ensures.0,
        completed F.landed paths
            (λ read. RunAnswers w.plan.now w.destfile.now paths (c.args.text.now ∷ read)) _ _ _ _ _ _ c.prepare_run-prepared.result c.complete.result
            (c.prepare_run-prepared.ensures (O.told c.args.outside.now.out.now) (E.told c.args.outside.now.err.now)
            (O.faults c.args.outside.now.out.now) (E.faults c.args.outside.now.err.now)) c.complete.ensures.1,
      ),
    )

pub returns-in-Dumping : goal.returns-in-Dumping
returns-in-Dumping g c = rw c.in-Dumping.is c.run_with_dumps.ensures

pub returns-in-Monitored : goal.returns-in-Monitored
returns-in-Monitored g c =
    let F = g.F.Files in
    let O = g.O.Sink in
    let E = g.E.Sink in
    let w = c.args.words.now in
    let paths = words_of c.args.paths.now in
    rw c.in-Monitored.is (
      nothing_taken,
      (
        c.complete-in-Monitored.ensures.0,
        completed F.landed paths
            (λ read. MonitoredAnswers w.plan.now w.destfile.now paths (c.args.text.now ∷ read)) _ _ _ _ _ _ c.prepare_monitored-prepared.result
            c.complete-in-Monitored.result
            (c.prepare_monitored-prepared.ensures (O.told c.args.outside.now.out.now) (E.told c.args.outside.now.err.now)
            (O.faults c.args.outside.now.out.now) (E.faults c.args.outside.now.err.now)) c.complete-in-Monitored.ensures.1,
      ),
    )
