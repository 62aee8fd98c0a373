use Rattle.std.proofs.Common.{◌≡◌, ◌++◌, map, drop}
use Rattle.std.specs.List.{AllByRecursion, flat_map}
use Rattle.jc_methods.specs.VerificationTypes.{class_names, verification_type}
use Rattle.jc_frames.specs.FullFrames.{Places, type_text}
use Rattle.jc_frames.specs.FullTable.{AreFirstPlaces, ArePlacesIn, HasPlace}
use Rattle.jc_frames.proofs.full_frames.put_listed_kinds.Given as goal

abbrev pub invariant-writing : goal.invariant-writing
invariant-writing l = record {
  text : (p : Places) → ArePlacesIn l.refers.pool.now l.refers.starts.now p
      → l.into.items ++ flat_map (type_text p) (map (verification_type l.refers.names.now) (drop l.kind-index l.kinds))
      ≡ l.fn.into.items ++ flat_map (type_text p) (map (verification_type l.refers.names.now) l.kinds);
  stand : AllByRecursion (HasPlace l.refers.pool.now) (class_names (map (verification_type l.refers.names.now) (drop l.kind-index l.kinds)));
  known : AreFirstPlaces l.refers.pool.now l.refers.names.now l.known;
}
