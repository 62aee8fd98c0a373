use Rattle.std.proofs.Common.{◌≡◌, ℕ, length, ◌∙◌, ap}
use Rattle.jc_methods.specs.VerificationTypes.{type_state}
use Rattle.jc_frames.specs.Frames.{ground}
use Rattle.jc_frames.proofs.FaultLaws.{answers, answers_frames, answers_fault}
use Rattle.jc_frames.proofs.fault.frame_fault.Goals as goal

method_is : (c : goal.After-drop-method-inside) → c.in_ok-method.method ≡ ground c.args.pool.now c.args.code.now c.args.starts.now (length c.args.entry.now.locals) c.args.max_stack
method_is c = c.in_ok-method.ensures ∙ ap (λ (n : ℕ). ground c.args.pool.now c.args.code.now c.args.starts.now n c.args.max_stack) c.len.ensures

pub returns-clause-answer : goal.returns-clause-answer
returns-clause-answer c names =
    answers (method_is c) (type_state names c.args.entry.now) c.args.table.now c.found_fault.result (c.found_fault.ensures names)

pub returns-clause-stands : goal.returns-clause-stands
returns-clause-stands c names frames stands =
    answers_frames (method_is c) (type_state names c.args.entry.now) c.args.table.now c.found_fault.result frames (c.found_fault.ensures names) stands

pub returns-clause-faulty : goal.returns-clause-faulty
returns-clause-faulty c names place bad =
    answers_fault (method_is c) (type_state names c.args.entry.now) c.args.table.now c.found_fault.result place (c.found_fault.ensures names) bad
