use Rattle.std.proofs.Common.{List, [], None, map, take, drop, replicate, ◌∙◌, ap}
use Rattle.std.proofs.lemmas.List.{with_items_is}
use Rattle.jc_machine_memory.specs.declared.cell.Cell.{Cell}
use Rattle.jc_machine_memory.specs.Cells.{held}
use Rattle.jc_machine_memory.specs.Frames.{FrameSeen}
use Rattle.jc_machine_model.specs.World as world
use Rattle.jc_region.specs.Memory.{allocation_of}
use Rattle.jc_machine_memory.proofs.FrameLaws.{frame_with, emptied}
use Rattle.jc_machine_memory.proofs.frame.Frame.enter.Goals as goal

pub returns : goal.returns
returns c =
    let count = c.args.locals in
    ap (λ (x : world.Frame). record { content = x; memory = allocation_of c.self.inside.cells })
    (ap (λ (cs : List Cell). frame_with c.args.method 0 (map held (take count cs)) [])
    (with_items_is c.self.inside.cells c.clear.new.cells (c.clear.auto.cells ∙ c.deref_mut.ensures.len) ∙ c.clear.ensures)
    ∙ ap (λ ls. frame_with c.args.method 0 ls []) (emptied count (drop count c.deref_mut.result.now)))
    ∙ ap (λ (v : FrameSeen). record v { content = frame_with c.args.method 0 (replicate count None) [] }) c.self.view_is
