use Rattle.std.proofs.Common.{◌≡◌, List, map, length}
use Rattle.jc_command_work.specs.Step.{Word}
use Rattle.jc_headline.specs.CoverWork.{LookedFile, places_from}
use Rattle.jc_command_cover.proofs.AcceptedItemLaws.{KeptFirst}
use Rattle.jc_command_cover.proofs.accepted_items.accepted_of.Given as goal

-- of the items so far those beside accepted files are kept
abbrev pub invariant-keeping : goal.invariant-keeping
invariant-keeping g l =
    (shown : g.row.T.Denot → Word) (of_file : LookedFile → Word) (looked : List LookedFile) → map shown l.fn.items.items ≡ map of_file looked → l.places ≡ places_from 0 looked
    → KeptFirst shown of_file looked (length l.yielded) l.left l.kept.items
