-- The bounds of the numbers among the words.
use Rattle.std.specs.Prelude.{⊤, ◌≤◌}
use Rattle.jc_command_words.specs.Commands.{Mode, plainly, dumping, monitored, Called, instrument, run, merge, report, exec_info, class_info, cover, cover_sample, refs, lines, check}

-- from 1 to 16 workers, and a dump each time that from 1 to 256 more cases have ended
abbrev pub IsBoundedMode : Mode → Type 0
IsBoundedMode (plainly workers) = (1 ≤ workers) × (workers ≤ 16)
IsBoundedMode (dumping dir every workers) = ((1 ≤ every) × (every ≤ 256)) × ((1 ≤ workers) × (workers ≤ 16))
IsBoundedMode monitored = ⊤

-- from 1 to 16 workers, and from 1 to 1000 methods
abbrev pub IsBounded : Called → Type 0
IsBounded (instrument dest files) = ⊤
IsBounded (run plan destfile mode files) = IsBoundedMode mode
IsBounded (merge destfile inputs) = ⊤
IsBounded (report csv name exec files) = ⊤
IsBounded (exec_info inputs) = ⊤
IsBounded (class_info files) = ⊤
IsBounded (cover dest plan destfile csv workers name files) = (1 ≤ workers) × (workers ≤ 16)
IsBounded (cover_sample methods) = (1 ≤ methods) × (methods ≤ 1000)
IsBounded (refs files) = ⊤
IsBounded (lines exec files) = ⊤
IsBounded (check rules exec files) = ⊤
