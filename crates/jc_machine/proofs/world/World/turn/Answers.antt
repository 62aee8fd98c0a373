use Rattle.std.proofs.Common.{ℕ, List, length, sym, ap, ◌∙◌, subst}
use Rattle.jc_programs.specs.Probes.{InRange}
use Rattle.jc_machine_model.specs.World.{World}
use Rattle.jc_machine.specs.Machines.{world_of}
use Rattle.jc_machine.proofs.HitLaws.{step_threads}
use Rattle.jc_machine.proofs.MachineLaws.{next_fits, hits_probes}
use Rattle.jc_machine.proofs.ProbeLaws.{probe_within}
use Rattle.jc_machine.proofs.world.World.turn.Goals as goal

pub hit-requires : goal.hit-requires
hit-requires g c =
    let program = c.args.program.now in
    let hit = c.in-Some.hit in
    subst (λ (counts : List ℕ). InRange counts hit.class hit.id) (sym c.requires.counts)
    (probe_within program (record { class = hit.class; id = hit.id })
    (hits_probes program c.args.self.now c.args.thread (record { class = hit.class; id = hit.id }) c.requires.program c.requires.fits
    c.in-Some.ensures.hits))

pub returns-in-Some-clause-fits : goal.returns-in-Some-clause-fits
returns-in-Some-clause-fits g c =
    next_fits c.args.program.now c.args.self.now c.step.new.self c.args.thread c.requires.program c.requires.fits c.step.ensures.world c.step.ensures.prepared
    c.step.ensures.fields

pub returns-in_default-clause-fits : goal.returns-in_default-clause-fits
returns-in_default-clause-fits g c =
    next_fits c.args.program.now c.args.self.now c.step.new.self c.args.thread c.requires.program c.requires.fits c.step.ensures.world c.step.ensures.prepared
    c.step.ensures.fields

pub returns-in-Some-clause-threads : goal.returns-in-Some-clause-threads
returns-in-Some-clause-threads g c =
    ap (λ (w : World). length w.threads) c.step.ensures.world ∙ step_threads c.args.program.now (world_of c.args.self.now) c.args.thread

pub returns-in_default-clause-threads : goal.returns-in_default-clause-threads
returns-in_default-clause-threads g c =
    ap (λ (w : World). length w.threads) c.step.ensures.world ∙ step_threads c.args.program.now (world_of c.args.self.now) c.args.thread

pub returns-in-Some-clause-memory : goal.returns-in-Some-clause-memory
returns-in-Some-clause-memory g c = (c.step.ensures.prepared, c.step.ensures.memory)

pub returns-in_default-clause-memory : goal.returns-in_default-clause-memory
returns-in_default-clause-memory g c = (c.step.ensures.prepared, c.step.ensures.memory)
