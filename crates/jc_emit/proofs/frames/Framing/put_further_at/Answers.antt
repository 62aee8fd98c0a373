use Rattle.std.proofs.Common.{◌≡◌, Bool, true, false, ◌&&◌, not, List, ◌++◌, length, sym, ap, ap₂, ◌∙◌, append-nil}
use Rattle.jc_methods.specs.Flow.{flow_of}
use Rattle.jc_methods.specs.Widened.{listed}
use Rattle.jc_methods.specs.declared.insn.Flow.TheVariants as flows
use Rattle.jc_methods.specs.declared.body.FrameAt.{FrameAt}
use Rattle.jc_emit.specs.Sizes.{narrow, insn_at}
use Rattle.jc_emit.specs.Items.{image_of}
use Rattle.jc_emit.proofs.FramingLaws.{insn_read, table_read, further_test}
use Rattle.jc_emit.proofs.frames.Framing.put_further_at.Goals as goal

pub returns-in_ok-put_behind-in-Branches : goal.returns-in_ok-put_behind-in-Branches
returns-in_ok-put_behind-in-Branches c = λ first given is.
    let f = c.args.self.now in
    let b = f.body.now in
    let at = c.args.at in
    let lt = c.requires.at in
    let images = f.places.now.images.items in
    let insn = insn_read first given f is c.deref.result.now at c.index-deref-at.result c.deref.ensures c.index-deref-at.is lt in
    let tests : flow_of (insn_at b.code at) ≡ flows.Branches = ap flow_of (sym insn) ∙ sym c.flow.ensures ∙ c.in-Branches.is in
    let place = table_read (image_of b first (narrow given.fetch)) (length b.code) at c.index.result.now images images is.places.images lt (λ k. images) c.index.ensures in
    c.in_ok-put_behind-in-Branches.ensures first given is
    ∙ ap (λ (l : List FrameAt). c.args.frames.now.items ++ l)
    (further_test first given f is (listed c.args.wide.now) at c.index.result.now c.is_listed.result c.is_framed_behind.result true tests place c.is_listed.ensures
    (c.is_framed_behind.ensures first given is) (ap₂ (λ (x y : Bool). x && not y) c.if-is_listed.true c.if-not-is_framed_behind.true))

pub returns-in_default : goal.returns-in_default
returns-in_default c = λ first given is.
    let f = c.args.self.now in
    let b = f.body.now in
    let at = c.args.at in
    let lt = c.requires.at in
    let images = f.places.now.images.items in
    let insn = insn_read first given f is c.deref.result.now at c.index-deref-at.result c.deref.ensures c.index-deref-at.is lt in
    let tests : flow_of (insn_at b.code at) ≡ flows.Branches = ap flow_of (sym insn) ∙ sym c.flow.ensures ∙ c.in-Branches.is in
    let place = table_read (image_of b first (narrow given.fetch)) (length b.code) at c.index.result.now images images is.places.images lt (λ k. images) c.index.ensures in
    sym (append-nil c.args.frames.now.items)
    ∙ ap (λ (l : List FrameAt). c.args.frames.now.items ++ l)
    (further_test first given f is (listed c.args.wide.now) at c.index.result.now c.is_listed.result c.is_framed_behind.result false tests place c.is_listed.ensures
    (c.is_framed_behind.ensures first given is) (ap₂ (λ (x y : Bool). x && not y) c.if-is_listed.true c.if-not-is_framed_behind.false))
