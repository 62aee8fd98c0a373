use Rattle.std.proofs.Common.{rules, ◌≡◌, ℕ, ◌+◌, ◌/◌, ◌%◌, min, List, length, Vec, arith}
use Rattle.std.specs.Fn.{FnReturnsAt}
use Rattle.std.specs.declared.alloc.Global.{Global}
use Rattle.jc_command_classes.proofs.RunLaws.{all_zipped, answers_are, answers_count}
use Rattle.jc_command_classes.proofs.each.each_answer.Goals as goal

pub returns-clause-each : goal.returns-clause-each
returns-clause-each g c =
    let files = c.args.files.now in
    let size = c.run_length-size.result in
    let results = c.in_ok-runs.runs.items in
    let Answers : List ℕ → g.row.X.Denot → Type 0 = FnReturnsAt g.F.Fn c.args.answer.now in
    let of_run : Vec g.row.X.Denot Global → List g.row.X.Denot = λ run. run.items in
    let many : length results ≡ length files / size + min 1 (length files % size) = omega (arith, c.in_ok-runs.ensures.len, c.in_ok-runs.runs.ok.0) in
    let zipped = all_zipped Answers of_run size files results c.in_ok-all_made.field-0.items c.in_ok-all_made.ensures c.run_length-size.ensures many
    (λ n d less. let gave = (c.in_ok-runs.ensures.each n d less).1 in
    record { files = gave.argument.now; are = gave.argument_is.value; answers = search (rules, gave.call) }) in
    answers_are Answers files c.joined.result _ c.joined.ensures zipped

pub returns-clause-len : goal.returns-clause-len
returns-clause-len g c = answers_count (FnReturnsAt g.F.Fn c.args.answer.now) c.args.files.now c.joined.result (returns-clause-each g c)
