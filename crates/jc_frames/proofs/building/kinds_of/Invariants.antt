use Rattle.std.proofs.Common.{◌≡◌, length, map, take, All}
use Rattle.jc_methods.specs.VerificationTypes.{Names, class_names, verification_type, Grows, IsNumbered}
use Rattle.jc_bytes.specs.Names.{met}
use Rattle.jc_frames.specs.Building.{AreKnown}
use Rattle.jc_frames.specs.Running.{held_values, IsNumberedValue}
use Rattle.jc_frames.proofs.building.kinds_of.Given as goal

abbrev pub invariant-numbering : goal.invariant-numbering
invariant-numbering l = record {
  kinds : (later : Names) → Grows l.names later → map (verification_type later) l.kinds.items ≡ held_values l.pool later (take l.value-index l.values);
  numbered : All (IsNumberedValue (length l.fn.names)) l.values → All (IsNumbered (length l.names)) l.kinds.items;
  known : AreKnown l.pool l.names l.known;
  met : All (IsNumberedValue (length l.fn.names)) l.values → l.names ≡ met l.fn.names (class_names (held_values l.pool l.names (take l.value-index l.values)));
  grows : Grows l.fn.names l.names;
}
