use Rattle.std.proofs.Common.{[], length, ap, ◌∙◌}
use Rattle.jc_bytes.specs.PlainLists.{pieces}
use Rattle.jc_kinds.proofs.FrameLaws.{frames_within}
use Rattle.jc_methods.specs.Widened.{listed}
use Rattle.jc_emit.specs.Emission.{wide_frames_at}
use Rattle.jc_emit.specs.Stages.{layout_frames}
use Rattle.jc_emit.specs.Written.{given}
use Rattle.jc_emit.specs.declared.tables.MovedTables.{MovedTables}
use Rattle.jc_emit.proofs.EmittingLaws.{framing_made, narrow_frames, emission_is}
use Rattle.jc_emit.proofs.emitting.instrumented.Goals as goal

pub of-requires : goal.of-requires
of-requires c =
    let b = c.args.source.body.now in
    frames_within 0 b.code b.max_locals b.max_stack b.frames c.requires.body.of_any_size.frames

pub layout_frames-requires : goal.layout_frames-requires
layout_frames-requires c =
    let plan = c.requires.plan in
    let source = c.args.source in
    let all = given source.fetch c.args.array source.constants.now in
    let framing = c.in_ok-framing.ensures in (
      plan.0,
      all,
      framing_made plan.0 all c.in_ok-framing.framing source.body.now source.plan.now source.places.now c.args.states.now c.requires.body.of_any_size plan.1
          (c.requires.places plan.0 plan.1) c.requires.states framing.body framing.plan framing.places framing.states framing.array framing.framed,
    )

pub wide_frames-requires : goal.wide_frames-requires
wide_frames-requires c =
    let plan = c.requires.plan in
    let source = c.args.source in
    let all = given source.fetch c.args.array source.constants.now in
    let framing = c.in_ok-framing.ensures in (
      plan.0,
      all,
      framing_made plan.0 all c.in_ok-framing.framing source.body.now source.plan.now source.places.now c.args.states.now c.requires.body.of_any_size plan.1
          (c.requires.places plan.0 plan.1) c.requires.states framing.body framing.plan framing.places framing.states framing.array framing.framed,
    )

pub returns : goal.returns
returns c = λ first is.
    let source = c.args.source in
    let b = source.body.now in
    let states = c.args.states.now in
    let all = given source.fetch c.args.array source.constants.now in
    let f = c.in_ok-framing.framing in
    let framing = c.in_ok-framing.ensures in
    let are = c.requires.places first is in
    let shows = c.in_ok-code.ensures first is in
    let belongs = framing_made first all f b source.plan.now source.places.now states c.requires.body.of_any_size is are c.requires.states
    framing.body framing.plan framing.places framing.states framing.array framing.framed in
    let tables = c.in_ok-handlers.ensures first source.fetch are in
    emission_is b first states all _
    (c.from_vec.ensures ∙ shows.code)
    (c.from_vec-2.ensures ∙ shows.at)
    (c.from_vec-3.ensures ∙ shows.own)
    (c.from_vec-4.ensures ∙ shows.extra)
    (ap (λ (x : MovedTables). x.handlers) tables) (ap (λ (x : MovedTables). x.lines) tables) (ap (λ (x : MovedTables). x.vars) tables)
    (ap (λ (x : MovedTables). x.kind_vars) tables)
    (c.from_vec-5.ensures
    ∙ c.in_ok-frames.ensures first all belongs
    ∙ (λ k. layout_frames (framing.body k) first (framing.states k) all (listed ([])))
    ∙ narrow_frames b first states all)
    (c.from_vec-6.ensures
    ∙ c.in_ok-wide_frames.ensures first all belongs
    ∙ (λ k. pieces (wide_frames_at (framing.body k) first (framing.states k) all) (length (framing.body k).code)))
    (ap (λ (x : MovedTables). x.max_stack) tables) (ap (λ (x : MovedTables). x.max_locals) tables)

pub moved_tables-requires-clause-places : goal.moved_tables-requires-clause-places
moved_tables-requires-clause-places c =
    let plan = c.requires.plan in
    (plan.0, c.args.source.fetch, c.requires.places plan.0 plan.1)
