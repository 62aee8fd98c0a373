use Rattle.std.proofs.Common.{◌≡◌, true, false, List, length, drop, refl, sym, ap, ◌∙◌, subst, arith}
use Rattle.std.proofs.lemmas.List.{length-map, get_or_default}
use Rattle.std.specs.Vec.{with_item}
use Rattle.jc_programs.specs.declared.run_end.End.{End}
use Rattle.jc_machine_model.specs.CaseEnds.{end_of}
use Rattle.jc_machine.specs.Machines.{world_of}
use Rattle.jc_monitor_model.specs.MonitorStep.{is_stuck, released}
use Rattle.jc_monitor_model.specs.KeptLocks.{KeepsLocks}
use Rattle.jc_monitor_world.specs.Kept.{FramesSeen}
use Rattle.jc_monitor_world.specs.Monitored.{Monitored, monitor_world_of}
use Rattle.jc_monitor_world.proofs.KeptLaws.{release_keeps}
use Rattle.jc_monitor_world.proofs.MonitoredLaws.{below, frames_here}
use Rattle.jc_monitor_world.proofs.ReleaseLaws.{none_is, nothing_there, stuck_there, not_stuck_there, in_items, leaving_first, in_those, none_left, all_left, may_give, fewer, leaving_on, left_few, left_memory, released_world, released_fits}
use Rattle.jc_monitor_world.proofs.monitor_world.MonitorWorld.release.Goals as goal

pub index-requires : goal.index-requires
index-requires c =
    let less = in_items c.self.inside c.self.invariant c.args.self.now c.self.view_is c.args.thread c.requires.thread in
    let many = c.self.invariant.frames in
    omega (arith, less, many)

pub returns-in-None-clause-world : goal.returns-in-None-clause-world
returns-in-None-clause-world c = λ program p after.
    sym (nothing_there program c.args.thread (monitor_world_of c.args.self.now)
    (frames_here c.self.inside c.self.invariant c.args.self.now c.self.view_is c.args.thread c.requires.thread c.index.result.now c.index.ensures
    ∙ none_is c.index.result.now.frames (sym c.in-None.ensures)))

pub returns-in-None-clause-fits : goal.returns-in-None-clause-fits
returns-in-None-clause-fits c = λ program p after. record {
  machine = after.machine;
  locks = subst (KeepsLocks program)
      (nothing_there program c.args.thread (monitor_world_of c.args.self.now)
      (frames_here c.self.inside c.self.invariant c.args.self.now c.self.view_is c.args.thread c.requires.thread c.index.result.now c.index.ensures
      ∙ none_is c.index.result.now.frames (sym c.in-None.ensures)))
      (release_keeps program c.args.thread (monitor_world_of c.args.self.now) c.requires.thread after.locks);
}

pub bounds : goal.bounds
bounds c =
    let less = below c.self.inside c.self.invariant c.args.self.now c.self.view_is c.args.thread c.requires.thread in
    let same : length c.ends.result.now ≡ length c.self.inside.world.threads =
    ap (λ (es : List End). length es) c.ends.ensures ∙ length-map c.self.inside.world.threads end_of in
    omega (arith, less, same)

pub returns-in-Stuck-clause-world : goal.returns-in-Stuck-clause-world
returns-in-Stuck-clause-world c = λ program p after.
    let is_there : is_stuck (world_of c.args.self.now.machine) c.args.thread ≡ true =
    subst (λ (x : Monitored). is_stuck (world_of x.machine) c.args.thread ≡ true) c.self.view_is
    (stuck_there (world_of c.self.inside.world) c.args.thread
    (below c.self.inside c.self.invariant c.args.self.now c.self.view_is c.args.thread c.requires.thread) c.ends.result.now c.ends.ensures
    c.in-Stuck.is) in
    ap (released program c.args.thread (monitor_world_of c.args.self.now)) (sym is_there)

pub returns-in-Stuck-clause-fits : goal.returns-in-Stuck-clause-fits
returns-in-Stuck-clause-fits c = λ program p after.
    let is_there : is_stuck (world_of c.args.self.now.machine) c.args.thread ≡ true =
    subst (λ (x : Monitored). is_stuck (world_of x.machine) c.args.thread ≡ true) c.self.view_is
    (stuck_there (world_of c.self.inside.world) c.args.thread
    (below c.self.inside c.self.invariant c.args.self.now c.self.view_is c.args.thread c.requires.thread) c.ends.result.now c.ends.ensures
    c.in-Stuck.is) in
    record {
      machine = after.machine;
      locks = subst (KeepsLocks program) (sym (ap (released program c.args.thread (monitor_world_of c.args.self.now)) (sym is_there)))
          (release_keeps program c.args.thread (monitor_world_of c.args.self.now) c.requires.thread after.locks);
    }

pub leaving-init : goal.leaving-init
leaving-init c = leaving_first c.self.inside c.self.invariant c.args.self.now c.self.view_is c.args.thread c.requires.thread c.requires.fits.0
    c.depth-depth.result c.requires.fits.2

pub index-requires-in-leaving : goal.index-requires-in-leaving
index-requires-in-leaving c =
    let less = in_items c.self.inside c.self.invariant c.args.self.now c.self.view_is c.args.thread c.requires.thread in
    let first = c.self.invariant.frames in
    let many = c.leaving.invariant.many in
    omega (arith, less, first, many)

pub invariant_of-self : goal.invariant_of-self
invariant_of-self c =
    record {
      frames = c.leaving.invariant.many;
      few = left_few c.self.inside c.self.invariant c.args.self.now c.self.view_is c.args.thread
          c.requires.thread c.leaving.self-inside c.depth-depth.result c.leaving.invariant;
    }

pub returns-then-frame-depth : goal.returns-then-frame-depth
returns-then-frame-depth c =
    let runs : is_stuck (world_of c.args.self.now.machine) c.args.thread ≡ false =
    subst (λ (x : Monitored). is_stuck (world_of x.machine) c.args.thread ≡ false) c.self.view_is
    (not_stuck_there (world_of c.self.inside.world) c.args.thread
    (below c.self.inside c.self.invariant c.args.self.now c.self.view_is c.args.thread c.requires.thread) c.ends.result.now c.ends.ensures
    c.in_default-ends.not-Stuck) in
    let all = all_left c.self.inside c.self.invariant c.args.self.now c.self.view_is c.args.thread c.requires.thread c.leaving.self-inside
    c.depth-depth.result c.leaving.invariant c.index-in-leaving.result.now c.index-in-leaving.ensures c.in-Some.frame c.in-Some.ensures c.if-frame-depth.true in
    record {
      world = λ program p after. released_world c.self.inside c.self.invariant c.args.self.now c.self.view_is c.args.thread c.requires.thread
          c.leaving.self-inside c.depth-depth.result c.leaving.invariant all program after runs
          (c.depth-depth.ensures program p after.machine);
      fits = λ program p after. released_fits c.self.inside c.self.invariant c.args.self.now c.self.view_is c.args.thread c.requires.thread
          c.leaving.self-inside c.depth-depth.result c.leaving.invariant all program after runs
          (c.depth-depth.ensures program p after.machine);
      memory = left_memory c.self.inside c.self.invariant c.args.self.now c.self.view_is c.args.thread c.requires.thread c.leaving.self-inside
          c.depth-depth.result c.leaving.invariant;
    }

pub give-requires : goal.give-requires
give-requires c = may_give c.self.inside c.self.invariant c.args.self.now c.self.view_is c.args.thread c.requires.thread c.leaving.self-inside
    c.depth-depth.result c.leaving.invariant c.index-in-leaving.result.now c.index-in-leaving.ensures c.in-Some.frame c.in-Some.ensures

pub index_mut-requires : goal.index_mut-requires
index_mut-requires c =
    let less = in_items c.self.inside c.self.invariant c.args.self.now c.self.view_is c.args.thread c.requires.thread in
    let first = c.self.invariant.frames in
    let many = c.leaving.invariant.many in
    omega (arith, less, first, many)

pub leaving-smaller : goal.leaving-smaller
leaving-smaller c =
    let same : c.index_mut.result.now ≡ c.index-in-leaving.result.now =
    c.index_mut.ensures.value ∙ (get_or_default c.leaving.self-inside.frames.items c.args.thread c.index_mut.result.now c.index-in-leaving.result.now
    (in_those c.self.inside c.self.invariant c.args.self.now c.self.view_is c.args.thread c.requires.thread c.leaving.self-inside c.depth-depth.result
    c.leaving.invariant c.index-in-leaving.result.now c.index-in-leaving.ensures) ∙ sym c.index-in-leaving.ensures) in
    let left : c.leave.new.self ≡ record c.index-in-leaving.result.now { frames = drop 1 c.index-in-leaving.result.now.frames } =
    c.leave.ensures ∙ ap (λ (f : FramesSeen). record f { frames = drop 1 f.frames }) same in
    fewer c.self.inside c.self.invariant c.args.self.now c.self.view_is c.args.thread c.requires.thread c.leaving.self-inside c.depth-depth.result
    c.leaving.invariant c.index-in-leaving.result.now c.index-in-leaving.ensures c.in-Some.frame c.in-Some.ensures
    (record {
      world = c.leaving.self-inside.world;
      locks = c.give.new.self;
      frames = with_item c.leaving.self-inside.frames c.args.thread
          c.leave.new.self;
    })
    c.leave.new.self refl left

pub leaving-preserved : goal.leaving-preserved
leaving-preserved c =
    let same : c.index_mut.result.now ≡ c.index-in-leaving.result.now =
    c.index_mut.ensures.value ∙ (get_or_default c.leaving.self-inside.frames.items c.args.thread c.index_mut.result.now c.index-in-leaving.result.now
    (in_those c.self.inside c.self.invariant c.args.self.now c.self.view_is c.args.thread c.requires.thread c.leaving.self-inside c.depth-depth.result
    c.leaving.invariant c.index-in-leaving.result.now c.index-in-leaving.ensures) ∙ sym c.index-in-leaving.ensures) in
    let left : c.leave.new.self ≡ record c.index-in-leaving.result.now { frames = drop 1 c.index-in-leaving.result.now.frames } =
    c.leave.ensures ∙ ap (λ (f : FramesSeen). record f { frames = drop 1 f.frames }) same in
    leaving_on c.self.inside c.self.invariant c.args.self.now c.self.view_is c.args.thread c.requires.thread c.leaving.self-inside
    c.depth-depth.result c.leaving.invariant c.index-in-leaving.result.now c.index-in-leaving.ensures c.in-Some.frame c.in-Some.ensures _ c.leave.new.self refl left
    c.if-frame-depth.false refl c.give.ensures.held
    c.give.ensures.memory refl

pub invariant_of-self-in_default-deepest : goal.invariant_of-self-in_default-deepest
invariant_of-self-in_default-deepest c =
    record {
      frames = c.leaving.invariant.many;
      few = left_few c.self.inside c.self.invariant c.args.self.now c.self.view_is c.args.thread
          c.requires.thread c.leaving.self-inside c.depth-depth.result c.leaving.invariant;
    }

pub returns : goal.returns
returns c =
    let runs : is_stuck (world_of c.args.self.now.machine) c.args.thread ≡ false =
    subst (λ (x : Monitored). is_stuck (world_of x.machine) c.args.thread ≡ false) c.self.view_is
    (not_stuck_there (world_of c.self.inside.world) c.args.thread
    (below c.self.inside c.self.invariant c.args.self.now c.self.view_is c.args.thread c.requires.thread) c.ends.result.now c.ends.ensures
    c.in_default-ends.not-Stuck) in
    let all = none_left c.self.inside c.self.invariant c.args.self.now c.self.view_is c.args.thread c.requires.thread c.leaving.self-inside
    c.depth-depth.result c.leaving.invariant c.index-in-leaving.result.now c.index-in-leaving.ensures c.in_default-deepest.ensures in
    record {
      world = λ program p after. released_world c.self.inside c.self.invariant c.args.self.now c.self.view_is c.args.thread c.requires.thread
          c.leaving.self-inside c.depth-depth.result c.leaving.invariant all program after runs
          (c.depth-depth.ensures program p after.machine);
      fits = λ program p after. released_fits c.self.inside c.self.invariant c.args.self.now c.self.view_is c.args.thread c.requires.thread
          c.leaving.self-inside c.depth-depth.result c.leaving.invariant all program after runs
          (c.depth-depth.ensures program p after.machine);
      memory = left_memory c.self.inside c.self.invariant c.args.self.now c.self.view_is c.args.thread c.requires.thread c.leaving.self-inside
          c.depth-depth.result c.leaving.invariant;
    }
