use Rattle.std.proofs.Common.{map, take, drop, reverse, ◌∙◌, ap}
use Rattle.jc_machine_model.specs.World as world
use Rattle.jc_region.specs.Memory.{allocation_of}
use Rattle.jc_machine_memory.specs.Frames.{FrameSeen}
use Rattle.jc_machine_memory.specs.Cells.{held, on_stack}
use Rattle.jc_machine_memory.proofs.FrameLaws.{frame_with, cut}
use Rattle.jc_machine_memory.proofs.frame.Frame.cut.Goals as goal

pub returns : goal.returns
returns c =
    let f = c.self.inside in
    ap (λ (x : world.Frame). record { content = x; memory = allocation_of f.cells }) (ap (λ n. frame_with f.method f.place (map held (take f.locals f.cells.items))
    (map on_stack (reverse (take n (drop f.locals f.cells.items))))) c.saturating_sub-self-inside.ensures ∙ cut f c.args.count c.self.invariant)
    ∙ ap (λ (v : FrameSeen). record v { content = record v.content { stack = drop c.args.count v.content.stack } }) c.self.view_is
