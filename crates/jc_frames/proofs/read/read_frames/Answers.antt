use Rattle.std.proofs.Common.{◌≡◌, ℕ, length, map, ◌∙◌, ap}
use Rattle.jc_methods.specs.VerificationTypes.{type_state, type_state_at}
use Rattle.jc_frames.specs.Frames.{ground}
use Rattle.jc_frames.proofs.ReadLaws.{refuses, stands_memory, fault_refused, stands, made, new_kinds}
use Rattle.jc_frames.proofs.read.read_frames.Goals as goal

method_is : (c : goal.After-drop-method-inside) → c.in_ok-method.method ≡ ground c.args.pool.now c.args.code.now c.args.starts.now (length c.args.entry.now.locals) c.args.max_stack
method_is c = c.in_ok-method.ensures ∙ ap (λ (n : ℕ). ground c.args.pool.now c.args.code.now c.args.starts.now n c.args.max_stack) c.len.ensures

pub returns-clause-frames : goal.returns-clause-frames
returns-clause-frames c =
    stands (method_is c) (type_state c.args.names.now c.args.entry.now) c.args.table.now (λ frames. map (type_state_at c.found_frames.new.names) frames.items) c.found_frames.result
    c.found_frames.ensures.frames

pub returns-clause-well_made : goal.returns-clause-well_made
returns-clause-well_made c all =
    let g = ground c.args.pool.now c.args.code.now c.args.starts.now (length c.args.entry.now.locals) c.args.max_stack in
    made (method_is c) (type_state c.args.names.now c.args.entry.now) c.args.table.now (λ frames. frames.items) c.found_frames.new.names c.found_frames.result c.requires.offsets
    (new_kinds g c.args.names.now c.args.entry.now.locals all) c.found_frames.ensures.frames

pub returns-clause-refused : goal.returns-clause-refused
returns-clause-refused c =
    refuses (method_is c) (type_state c.args.names.now c.args.entry.now) c.args.table.now c.found_frames.result c.found_frames.ensures.refused

pub returns-clause-stands : goal.returns-clause-stands
returns-clause-stands c frames stand =
    stands_memory (method_is c) (type_state c.args.names.now c.args.entry.now) c.args.table.now c.found_frames.result frames stand c.found_frames.ensures.refused

pub returns-clause-faulty : goal.returns-clause-faulty
returns-clause-faulty c place bad =
    fault_refused (method_is c) (type_state c.args.names.now c.args.entry.now) c.args.table.now (λ frames. map (type_state_at c.found_frames.new.names) frames.items) c.found_frames.result place bad
    c.found_frames.ensures.frames
