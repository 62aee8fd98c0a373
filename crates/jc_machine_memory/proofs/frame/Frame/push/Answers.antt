use Rattle.std.proofs.Common.{◌≡◌, ◌+◌, List, ◌∷◌, length, refl, arith, slice_set, ◌∙◌, ap, sym}
use Rattle.jc_machine_model.specs.World as world
use Rattle.jc_region.specs.Memory.{allocation_of}
use Rattle.jc_machine_memory.specs.Frames.{FrameSeen}
use Rattle.jc_machine_memory.specs.declared.cell.Cell.{Cell}
use Rattle.jc_machine_memory.specs.Cells.{on_stack}
use Rattle.jc_machine_memory.proofs.FrameLaws.{pushed, height_is, locals_is}
use Rattle.jc_machine_memory.proofs.frame.Frame.push.Goals as goal

pub returns : goal.returns
returns c =
    let f = c.self.inside in
    let locals : length c.args.self.now.content.locals ≡ f.locals = ap (λ (v : FrameSeen). length v.content.locals) (sym c.self.view_is) ∙ locals_is f c.self.invariant in
    let height : length c.args.self.now.content.stack ≡ f.height = ap (λ (v : FrameSeen). length v.content.stack) (sym c.self.view_is) ∙ height_is f c.self.invariant in
    let cells : List Cell = slice_set f.cells.items (f.locals + f.height) c.of-cell.result in
    ap (λ (x : world.Frame). record { content = x; memory = allocation_of f.cells })
    (pushed f cells c.of-cell.result c.self.invariant (omega (arith, locals, height, c.requires)) refl)
    ∙ (ap (λ (v : FrameSeen). record v { content = record v.content { stack = on_stack c.of-cell.result ∷ v.content.stack } }) c.self.view_is
    ∙ ap (λ x. record c.args.self.now { content = record c.args.self.now.content { stack = x ∷ c.args.self.now.content.stack } }) c.of-cell.ensures.stack)
