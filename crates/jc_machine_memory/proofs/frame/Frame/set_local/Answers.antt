use Rattle.std.proofs.Common.{List, Option, refl, slice_set, ◌∙◌, ap}
use Rattle.jc_machine_model.specs.World as world
use Rattle.jc_region.specs.Memory.{allocation_of}
use Rattle.jc_machine_memory.specs.Frames.{FrameSeen}
use Rattle.jc_machine_model.specs.Values.{Value}
use Rattle.jc_machine_memory.specs.declared.cell.Cell.{Cell}
use Rattle.jc_machine_memory.specs.Cells.{held}
use Rattle.jc_machine_memory.proofs.FrameLaws.{local_set}
use Rattle.jc_machine_memory.proofs.frame.Frame.set_local.Goals as goal

pub returns-then-slot-self : goal.returns-then-slot-self
returns-then-slot-self c =
    let f = c.self.inside in
    let cells : List Cell = slice_set f.cells.items c.args.slot c.of_local-cell.result in
    let now = c.args.self.now in
    ap (λ (x : world.Frame). record { content = x; memory = allocation_of f.cells })
    (local_set f cells c.args.slot c.of_local-cell.result c.self.invariant c.if-slot-self.true refl)
    ∙ (ap (λ (v : FrameSeen). record v { content = record v.content { locals = slice_set v.content.locals c.args.slot (held c.of_local-cell.result) } }) c.self.view_is
    ∙ ap (λ (x : Option Value). record now { content = record now.content { locals = slice_set now.content.locals c.args.slot x } }) c.of_local-cell.ensures)
