use Rattle.std.proofs.Common.{◌≡◌, ◌≤◌, ℕ, false, [], length, drop, All}
use Rattle.jc_methods.specs.VerificationTypes.{Names, IsNumbered}
use Rattle.jc_frames.specs.FullTable.{IsPlaced}
use Rattle.jc_frames.proofs.EntryValuesLaws.{listed_with}
use Rattle.jc_frames.proofs.running.kinds_in_locals.Given as goal

abbrev pub invariant-listing : goal.invariant-listing
invariant-listing l = record {
  values : (names : Names) → listed_with names [] false l.trimmed ≡ listed_with names l.kinds.items l.skips (drop l.kind-index l.trimmed);
  few : length l.kinds.items ≤ l.kind-index;
  numbered : (count : ℕ) → All (IsNumbered count) l.trimmed → All (IsNumbered count) l.kinds.items;
  placed : (count : ℕ) → All (IsPlaced count) l.trimmed → All (IsPlaced count) l.kinds.items;
}
