use Rattle.std.proofs.Common.{List, ℕ, ◌∙◌, ap}
use Rattle.jc_command_work.specs.declared.status.Fault.TheVariants as fault
use Rattle.jc_command_work.specs.Part.{refused}
use Rattle.jc_command_run.specs.PairTexts.{same_name_text}
use Rattle.jc_command_run.proofs.clash.name_stop.Goals as goal

pub returns : goal.returns
returns c = λ files has.
    let text = c.in_ok-line.ensures ∙ (λ i. same_name_text (c.path-first_path.ensures i) (c.path-second_path.ensures i) c.args.name.now) in
    (c.args.name.now, has, ap (λ (t : List ℕ). refused (fault.SameName c.args.first c.args.second) t) text)
