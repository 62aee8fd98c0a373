use Rattle.std.proofs.Common.{◌≡◌, ◌++◌, map, drop}
use Rattle.std.specs.List.{AllByRecursion}
use Rattle.jc_methods.specs.VerificationTypes.{type_state_at}
use Rattle.jc_frames.specs.FullFrames.{Places, full_texts}
use Rattle.jc_frames.specs.FullTable.{AreFirstPlaces, ArePlacesIn, HasPlace, OffsetsRise, named_by_all}
use Rattle.jc_frames.proofs.full_frames.put_frames.Given as goal

abbrev pub invariant-writing : goal.invariant-writing
invariant-writing l = record {
  text : (p : Places) → ArePlacesIn l.refers.pool.now l.refers.starts.now p
      → l.into.items ++ full_texts p l.base (map (type_state_at l.refers.names.now) (drop l.frame-index l.frames))
      ≡ l.fn.into.items ++ full_texts p 0 (map (type_state_at l.refers.names.now) l.frames);
  rising : OffsetsRise l.refers.starts.now l.base (drop l.frame-index l.frames);
  stand : AllByRecursion (HasPlace l.refers.pool.now) (named_by_all (map (type_state_at l.refers.names.now) (drop l.frame-index l.frames)));
  known : AreFirstPlaces l.refers.pool.now l.refers.names.now l.known;
}
