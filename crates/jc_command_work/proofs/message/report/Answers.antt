use Rattle.std.proofs.Common.{List, ℕ, Some, ap, sym, ◌∙◌}
use Rattle.std.specs.Option.{option_map}
use Rattle.jc_command_work.proofs.Ends.{reports_said}
use Rattle.jc_command_work.proofs.message.report.Goals as goal

pub returns-in-Ok-Some : goal.returns-in-Ok-Some
returns-in-Ok-Some g c contents failed out reads writes outs =
    rw c.status_of.ensures (reports_said c.args.stop c.deref.result.now _ _ _ _
    (ap (λ (t : List ℕ). Some t) c.deref.ensures.value ∙ sym (ap (option_map (λ t. t.items)) c.in-Ok-Some.field-0-is) ∙ c.in-Ok-Some.ensures) (c.say.ensures contents failed out reads writes outs))
