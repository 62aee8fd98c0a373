use Rattle.std.proofs.Common.{ℕ, ◌+◌, List, ◌++◌, length, sym, ap, ap₂, ◌∙◌, arith}
use Rattle.jc_methods.specs.declared.kind.State.{State}
use Rattle.jc_methods.specs.declared.body.FrameAt.{FrameAt}
use Rattle.jc_emit.specs.Emission.{moved_state}
use Rattle.jc_emit.specs.Items.{image_of}
use Rattle.jc_emit.specs.Sizes.{narrow, arms_at}
use Rattle.jc_emit.specs.TwinFrames.{operands_of}
use Rattle.jc_emit.specs.Framing.{without, id_frames}
use Rattle.jc_emit.proofs.FramingLaws.{outs_long, image_small, switch_small, switch_read, insn_read, state_read, table_read, arms_framed}
use Rattle.jc_emit.proofs.frames.Framing.put_arms_at.Goals as goal

pub overflow_add-first : goal.overflow_add-first
overflow_add-first c =
    let framing = c.requires.framing in
    omega (
      arith,
      image_small framing.0 framing.1 c.args.self.now framing.2 c.args.self.now.places.now.images.items c.args.at c.index.result.now
          (λ k. c.args.self.now.places.now.images.items) c.index.ensures c.requires.at,
    )

pub bounds-deref-at-in-Switches : goal.bounds-deref-at-in-Switches
bounds-deref-at-in-Switches c =
    omega (arith, ap length c.deref-in-Switches.ensures, outs_long c.requires.framing.0 c.requires.framing.1 c.args.self.now c.requires.framing.2, c.requires.at)

pub put_arms-requires : goal.put_arms-requires
put_arms-requires c =
    let framing = c.requires.framing in
    let f = c.args.self.now in
    let images = f.places.now.images.items in
    let ids = switch_read framing.0 framing.1 f framing.2 c.deref.result.now c.deref-in-Switches.result.now c.args.at c.index-deref-at.result c.index-deref-at-in-Switches.result
    c.deref-in-Switches-2.result.now c.deref.ensures c.index-deref-at.is c.deref-in-Switches.ensures c.index-deref-at-in-Switches.is c.requires.at
    (sym c.in-Switches.ensures) c.deref-in-Switches-2.ensures in
    switch_small framing.0 framing.1 f framing.2 c.args.at c.index.result.now images c.deref-in-Switches-2.result.now (λ k. images) c.index.ensures c.requires.at ids

pub returns-in_ok-put_arms-in-Switches : goal.returns-in_ok-put_arms-in-Switches
returns-in_ok-put_arms-in-Switches c = λ first given is.
    let f = c.args.self.now in
    let b = f.body.now in
    let states = f.states.now in
    let images = f.places.now.images.items in
    let ids = switch_read first given f is c.deref.result.now c.deref-in-Switches.result.now c.args.at c.index-deref-at.result c.index-deref-at-in-Switches.result
    c.deref-in-Switches-2.result.now c.deref.ensures c.index-deref-at.is c.deref-in-Switches.ensures c.index-deref-at-in-Switches.is c.requires.at
    (sym c.in-Switches.ensures) c.deref-in-Switches-2.ensures in
    let place = table_read (image_of b first (narrow given.fetch)) (length b.code) c.args.at c.index.result.now images images is.places.images c.requires.at (λ k. images) c.index.ensures in
    let insn = insn_read first given f is c.deref.result.now c.args.at c.index-deref-at.result c.deref.ensures c.index-deref-at.is c.requires.at in
    let taken = c.operands.ensures ∙ ap operands_of insn in
    let read = state_read first given f is c.args.at c.index-self-at.result c.requires.at in
    let state = c.in_ok-state-in-Switches.ensures first given is ∙ ap₂ (λ (n : ℕ) (s : State). moved_state b first states given (without n s)) taken read in
    c.in_ok-put_arms-in-Switches.ensures
    ∙ (λ k. c.args.frames.now.items ++ id_frames (place k + 1) (state k) (ids k))
    ∙ ap (λ (l : List FrameAt). c.args.frames.now.items ++ l) (arms_framed b first states given (image_of b first (narrow given.fetch) c.args.at + 1) _ (arms_at b.code c.args.at))
