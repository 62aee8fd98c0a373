use Rattle.std.proofs.Common.{◌∷◌, List, ℕ, ap, refl, ◌∙◌}
use Rattle.jc_command_dumped.specs.DumpedAnswers.{DumpedAnswers, dump_paths}
use Rattle.jc_command_work.specs.Answered.{Answer, answered}
use Rattle.jc_command_work.specs.Seen.{words_of}
use Rattle.jc_command_work.specs.Step.{Word}
use Rattle.jc_command_words.specs.Commands.{dumping}
use Rattle.jc_top.specs.Work.{nothing_taken, run_answers}
use Rattle.jc_top.proofs.CommandLaws.{completed, ends_on, memory_ends}
use Rattle.jc_top.proofs.commands.run_with_dumps.Goals as goal

pub returns-in-Err : goal.returns-in-Err
returns-in-Err g c =
    let o = c.args.options.now in
    let paths = words_of c.args.paths.now in (
      nothing_taken,
      (
        (refl, refl, refl),
        memory_ends g.F.Files.landed
            (answered paths (run_answers (DumpedAnswers nothing_taken) o.plan.now o.destfile.now
            (dumping c.args.dir.now c.args.every o.workers) c.args.text.now paths)) _ _,
      ),
    )

pub returns : goal.returns
returns g c =
    let F = g.F.Files in
    let O = g.O.Sink in
    let E = g.E.Sink in
    let o = c.args.options.now in
    let paths = words_of c.args.paths.now in
    let prepared = c.prepare_dumped-prepared.ensures in
    let dumps : List Word → List (List ℕ) → Answer → Type 0 =
    λ ds read. DumpedAnswers prepared.0 (record { plan = o.plan.now; exec = o.destfile.now; dumps = ds; every = c.args.every; workers = o.workers }) paths
    (c.args.text.now ∷ read) in (
      prepared.0,
      (
        c.complete.ensures.0,
        ends_on F.landed (λ ds. answered paths (dumps ds)) (words_of c.deref.result.now) (dump_paths c.args.dir.now)
            (ap words_of c.deref.ensures.value ∙ c.in-Ok.ensures) _ _ _ _ c.complete.result
            (completed F.landed paths (dumps (words_of c.deref.result.now)) _ _ _ _ _ _ c.prepare_dumped-prepared.result c.complete.result
            (prepared.1 (O.told c.args.outside.now.out.now) (E.told c.args.outside.now.err.now)
            (O.faults c.args.outside.now.out.now) (E.faults c.args.outside.now.err.now)) c.complete.ensures.1),
      ),
    )
