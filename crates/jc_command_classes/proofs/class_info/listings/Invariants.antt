use Rattle.std.proofs.Common.{length, take}
use Rattle.jc_command_classes.proofs.ListingLaws.{LinesOf}
use Rattle.jc_command_classes.proofs.class_info.listings.Given as goal

-- the files so far have their lines
abbrev pub invariant-listing : goal.invariant-listing
invariant-listing g l = LinesOf (take (length l.yielded) l.inputs.texts) l.writes.items
