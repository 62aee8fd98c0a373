use Rattle.std.proofs.Common.{◌+◌, ◌-◌, Some, slice_get, ◌∙◌, ap}
use Rattle.jc_machine_memory.specs.Frames.{FrameSeen}
use Rattle.jc_machine_memory.specs.Cells.{on_stack}
use Rattle.jc_machine_memory.proofs.FrameLaws.{peeked}
use Rattle.jc_machine_memory.proofs.frame.Frame.peek.Goals as goal

pub returns : goal.returns
returns c =
    let f = c.self.inside in
    let place = f.locals + f.height - 1 - c.args.depth in
    ap Some (c.on_stack.ensures ∙ ap on_stack c.index.ensures)
    ∙ (peeked f c.args.depth c.index.result.now c.self.invariant c.if-depth-self.false ∙ ap (λ (v : FrameSeen). slice_get v.content.stack c.args.depth) c.self.view_is)
