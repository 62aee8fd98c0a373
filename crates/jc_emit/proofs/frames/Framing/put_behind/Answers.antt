use Rattle.std.proofs.Common.{◌+◌, List, ◌++◌, length, ap, ◌∙◌, arith}
use Rattle.jc_methods.specs.declared.body.FrameAt.{FrameAt}
use Rattle.jc_emit.specs.Sizes.{narrow}
use Rattle.jc_emit.specs.TwinFrames.{operands_of}
use Rattle.jc_emit.specs.Items.{image_of}
use Rattle.jc_emit.proofs.FramingLaws.{image_small, next_there, insn_read, state_fits, table_read, behind_none, behind_some}
use Rattle.jc_emit.proofs.frames.Framing.put_behind.Goals as goal

pub overflow_add-behind : goal.overflow_add-behind
overflow_add-behind c =
    let framing = c.requires.framing in
    omega (
      arith,
      image_small framing.0 framing.1 c.args.self.now framing.2 c.args.self.now.places.now.images.items c.args.at c.index.result.now
          (λ k. c.args.self.now.places.now.images.items) c.index.ensures c.requires.at,
    )

pub bounds-self-at-in-None : goal.bounds-self-at-in-None
bounds-self-at-in-None c =
    let framing = c.requires.framing in
    omega (arith, next_there framing.0 framing.1 c.args.self.now framing.2 c.args.at c.requires.at c.requires.tests, framing.2.count)

pub put_if-requires-in-None-clause-state : goal.put_if-requires-in-None-clause-state
put_if-requires-in-None-clause-state c =
    let framing = c.requires.framing in
    state_fits framing.0 framing.1 c.args.self.now framing.2 (c.args.at + 1) c.index-self-at-in-None.result
    (next_there framing.0 framing.1 c.args.self.now framing.2 c.args.at c.requires.at c.requires.tests)

pub returns-in_ok-put_if-in-Some : goal.returns-in_ok-put_if-in-Some
returns-in_ok-put_if-in-Some c = λ first given is.
    let f = c.args.self.now in
    let b = f.body.now in
    let at = c.args.at in
    let lt = c.requires.at in
    let images = f.places.now.images.items in
    let insn = insn_read first given f is c.deref.result.now at c.index-deref-at.result c.deref.ensures c.index-deref-at.is lt in
    c.in_ok-put_if-in-Some.ensures first given is
    ∙ ap (λ (l : List FrameAt). c.args.frames.now.items ++ l)
    (behind_some first given f is at c.index.result.now _ c.index-self-at.result c.operands-taken.result lt c.requires.tests (c.in-Some.ensures first given is)
    (table_read (image_of b first (narrow given.fetch)) (length b.code) at c.index.result.now images images is.places.images lt (λ k. images) c.index.ensures)
    (c.operands-taken.ensures ∙ ap operands_of insn))

pub returns-in_ok-put_if-in-None : goal.returns-in_ok-put_if-in-None
returns-in_ok-put_if-in-None c = λ first given is.
    let f = c.args.self.now in
    let b = f.body.now in
    let at = c.args.at in
    let lt = c.requires.at in
    let images = f.places.now.images.items in
    c.in_ok-put_if-in-None.ensures first given is
    ∙ ap (λ (l : List FrameAt). c.args.frames.now.items ++ l)
    (behind_none first given f is at c.index.result.now c.index-self-at-in-None.result lt c.requires.tests (c.in-None.ensures first given is)
    (table_read (image_of b first (narrow given.fetch)) (length b.code) at c.index.result.now images images is.places.images lt (λ k. images) c.index.ensures))
