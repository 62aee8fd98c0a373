use Rattle.std.proofs.Common.{List, sym, ap, ◌∙◌, subst, map, length}
use Rattle.jc_programs.specs.declared.run_plan.ThreadLine.{ThreadLine}
use Rattle.jc_machine_code.specs.declared.prepared.PreparedClass.{PreparedClass}
use Rattle.jc_machine_code.specs.Prepared.{IsPrepared}
use Rattle.jc_machine_turn.specs.Contents.{SharedSeen, first_shared}
use Rattle.jc_machine_model.specs.Begin.{first_threads}
use Rattle.jc_machine.specs.Machines.{Machine, Fits}
use Rattle.jc_machine.specs.Kept.{memory_of, machine_of}
use Rattle.jc_machine.proofs.FirstLaws.{as_many_entries, length-first_threads}
use Rattle.jc_machine.proofs.BeginLaws.{world_begins, machine_begins, as_many_statics}
use Rattle.jc_machine.proofs.world.World.next.Goals as goal

pub reset-requires : goal.reset-requires
reset-requires c =
    as_many_statics c.args.program.now (machine_of c.self.inside) (subst (Fits c.args.program.now) (sym c.self.view_is) c.requires.fits)
    ∙ ap (λ (classes : List PreparedClass). map (λ (x : PreparedClass). length x.statics) classes) (sym c.as_slice.ensures)

pub returns-clause-world : goal.returns-clause-world
returns-clause-world c =
    let program = c.args.program.now in
    let fits = subst (Fits program) (sym c.self.view_is) c.requires.fits in
    let is = subst (IsPrepared program) (sym (ap (λ (m : Machine). m.prepared) c.begin_threads.ensures)) fits.prepared in
    world_begins program c.args.case.now c.args.entries.now c.begin_threads.new.self is
    (ap (λ (m : Machine). m.threads) c.begin_threads.ensures ∙ ap (λ (ts : List ThreadLine). first_threads program ts c.args.entries.now) c.as_slice-2.ensures)
    (ap (λ (m : Machine). m.shared) c.begin_threads.ensures
    ∙ (ap (λ (s : SharedSeen). s.content) c.reset.ensures ∙ (ap (λ (classes : List PreparedClass). first_shared classes) c.as_slice.ensures
    ∙ sym (ap (λ (m : Machine). first_shared m.prepared.classes) c.begin_threads.ensures))))

pub returns-clause-fits : goal.returns-clause-fits
returns-clause-fits c =
    let program = c.args.program.now in
    let fits = subst (Fits program) (sym c.self.view_is) c.requires.fits in
    let is = subst (IsPrepared program) (sym (ap (λ (m : Machine). m.prepared) c.begin_threads.ensures)) fits.prepared in
    machine_begins program c.args.case.now c.args.entries.now c.begin_threads.new.self c.requires.program c.requires.entries is
    (ap (λ (m : Machine). m.fields) c.begin_threads.ensures ∙ fits.fields)
    (world_begins program c.args.case.now c.args.entries.now c.begin_threads.new.self is
    (ap (λ (m : Machine). m.threads) c.begin_threads.ensures ∙ ap (λ (ts : List ThreadLine). first_threads program ts c.args.entries.now) c.as_slice-2.ensures)
    (ap (λ (m : Machine). m.shared) c.begin_threads.ensures
    ∙ (ap (λ (s : SharedSeen). s.content) c.reset.ensures ∙ (ap (λ (classes : List PreparedClass). first_shared classes) c.as_slice.ensures
    ∙ sym (ap (λ (m : Machine). first_shared m.prepared.classes) c.begin_threads.ensures)))))

pub returns-clause-threads : goal.returns-clause-threads
returns-clause-threads c =
    let program = c.args.program.now in
    let threads = c.args.case.now.threads in
    ap (λ (m : Machine). length m.threads) c.begin_threads.ensures
    ∙ (ap (λ (ts : List ThreadLine). length (first_threads program ts c.args.entries.now)) c.as_slice-2.ensures
    ∙ length-first_threads program threads c.args.entries.now (as_many_entries program threads c.args.entries.now c.requires.entries))

pub returns-clause-memory : goal.returns-clause-memory
returns-clause-memory c = (
  ap (λ (m : Machine). m.prepared) c.begin_threads.ensures ∙ ap (λ (m : Machine). m.prepared) c.self.view_is,
  ap (λ (m : Machine). m.memory) c.begin_threads.ensures
      ∙ (ap (λ (s : SharedSeen). record (memory_of c.self.inside) { shared = s.memory }) c.reset.ensures
      ∙ ap (λ (m : Machine). m.memory) c.self.view_is),
)
