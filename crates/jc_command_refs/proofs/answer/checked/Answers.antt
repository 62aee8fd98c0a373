use Rattle.std.proofs.Common.{ℕ, List, inr, ap}
use Rattle.jc_command_work.specs.declared.status.Fault.TheVariants as faults
use Rattle.jc_command_work.specs.Answered.{refusing}
use Rattle.jc_command_refs.proofs.answer.checked.Goals as goal

pub returns-in-Err-Said : goal.returns-in-Err-Said
returns-in-Err-Said c =
    let w = c.in-Err-Said in
    let refused = rw w.field-0-is at w.ensures.refused in
    let file = rw w.field-0-is at c.path-file.ensures in
    rw w.field-0-is (inr (w.refusal, refused, ap (λ (path : List ℕ). refusing path (faults.Refs w.refusal.class w.refusal)) file))
