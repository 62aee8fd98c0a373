use Rattle.std.proofs.Common.{rules, sym}
use Rattle.std.proofs.lemmas.List.{take_rest}
use Rattle.jc_report.proofs.SplitLaws.{split_at_place, split_nowhere}
use Rattle.jc_report.proofs.names.split_at_last.Goals as goal

pub returns-in-Some : goal.returns-in-Some
returns-in-Some c =
    let found = split_at_place c.args.byte c.args.text.now c.in-Some.place (search rules) (search rules) (search rules) in
    rw take_rest (sym found)

pub returns-in-None : goal.returns-in-None
returns-in-None c = sym (split_nowhere c.args.byte c.args.text.now (search rules))
