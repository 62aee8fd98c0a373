use Rattle.std.proofs.Common.{[], refl, ◌∙◌}
use Rattle.std.proofs.lemmas.Option.{get_or_from_slice_get}
use Rattle.jc_kinds.proofs.FrameLaws.{frames_within}
use Rattle.jc_methods.specs.Widened.{listed}
use Rattle.jc_emit.specs.Shift.{probe_array_class}
use Rattle.jc_emit.specs.Stages.{layout_frames}
use Rattle.jc_emit.specs.Written.{given}
use Rattle.jc_emit.proofs.EmittingLaws.{framing_made, grows_one, states_put}
use Rattle.jc_emit.proofs.FrameStateLaws.{frames_have_states}
use Rattle.jc_emit.proofs.stages.emit_parts.Goals as goal

pub of-requires : goal.of-requires
of-requires c =
    let b = c.args.placed.now.body.now in
    frames_within 0 b.code b.max_locals b.max_stack b.frames c.requires.body.of_any_size.frames

pub layout_frames-requires : goal.layout_frames-requires
layout_frames-requires c =
    let plan = c.requires.plan in
    let placed = c.args.placed.now in
    let b = placed.body.now in
    let states = c.args.states.now in
    let all = given placed.fetch c.in_ok-array.array ([]) in
    let framing = c.in_ok-framing.ensures in (
      plan.0,
      all,
      framing_made plan.0 all c.in_ok-framing.framing b placed.plan.now placed.places.now states c.requires.body.of_any_size plan.1
          (c.requires.places plan.0 plan.1) (states_put c.args.names.now b states c.requires.states)
          framing.body framing.plan framing.places framing.states framing.array framing.framed,
    )

pub returns-clause-frames : goal.returns-clause-frames
returns-clause-frames c = λ first is.
    let placed = c.args.placed.now in
    let b = placed.body.now in
    let states = c.args.states.now in
    let made = c.requires.body.of_any_size in
    let all = given placed.fetch c.in_ok-array.array ([]) in
    let framing = c.in_ok-framing.ensures in
    let belongs = framing_made first all c.in_ok-framing.framing b placed.plan.now placed.places.now states made is
    (c.requires.places first is) (states_put c.args.names.now b states c.requires.states)
    framing.body framing.plan framing.places framing.states framing.array framing.framed in
    record {
      given = all;
      fetch_is = refl;
      array_is = get_or_from_slice_get c.number.new.self c.in_ok-array.array probe_array_class [] c.in_ok-array.ensures.place;
      are = c.from_vec.ensures ∙ c.in_ok-frames.ensures first all belongs
          ∙ (λ k. layout_frames (framing.body k) first (framing.states k) all (listed c.args.wide.now));
      fit = frames_have_states c.args.names.now c.in_ok-array.ensures.names_before.distinct b states made c.requires.frames c.requires.states;
    }

pub moved_tables-requires-clause-places : goal.moved_tables-requires-clause-places
moved_tables-requires-clause-places c =
    let plan = c.requires.plan in
    (plan.0, c.args.placed.now.fetch, c.requires.places plan.0 plan.1)

pub returns-clause-tables : goal.returns-clause-tables
returns-clause-tables c = λ first is. c.in_ok-tables.ensures first c.args.placed.now.fetch (c.requires.places first is)

pub returns-clause-names : goal.returns-clause-names
returns-clause-names c = grows_one c.args.names.now c.number.new.self probe_array_class c.in_ok-array.ensures.names

pub returns-in_err-framing-clause-names : goal.returns-in_err-framing-clause-names
returns-in_err-framing-clause-names c = grows_one c.args.names.now c.number.new.self probe_array_class c.in_ok-array.ensures.names

pub returns-in_err-frames-clause-names : goal.returns-in_err-frames-clause-names
returns-in_err-frames-clause-names c = grows_one c.args.names.now c.number.new.self probe_array_class c.in_ok-array.ensures.names

pub returns-in_err-tables-clause-names : goal.returns-in_err-tables-clause-names
returns-in_err-tables-clause-names c = grows_one c.args.names.now c.number.new.self probe_array_class c.in_ok-array.ensures.names
