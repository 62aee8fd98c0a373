use Rattle.std.proofs.Common.{List, ℕ, ◌++◌, ◌∙◌, ap}
use Rattle.jc_rules.specs.declared.status.LineState.TheVariants.{Empty}
use Rattle.jc_rules.specs.declared.status.LineStatus.{LineStatus}
use Rattle.jc_command_rules.specs.LinesAnswers.{entry_line}
use Rattle.jc_command_rules.proofs.PrintingLaws.{put_more, all_put}
use Rattle.jc_command_rules.proofs.class_text.put_entries.Goals as goal

abbrev none : LineStatus
none = record { line = 0; status = Empty }

pub putting-preserved : goal.putting-preserved
putting-preserved c =
    put_more entry_line c.args.list.now c.args.text.now.items c.putting.entry-index none c.putting.text.items
    c.extend_from_slice.new.self.items c.putting-test.true c.putting.invariant
    (c.in_ok-extend_from_slice.ensures.items ∙ ap (λ (l : List ℕ). c.putting.text.items ++ l) (c.as_bytes.ensures.value ∙ c.in_ok-line.ensures))

pub returns : goal.returns
returns c = all_put entry_line c.args.list.now c.args.text.now.items c.putting.entry-index c.putting.text.items c.putting-test.false c.putting.invariant
