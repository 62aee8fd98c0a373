use Rattle.std.proofs.Common.{◌≡◌, length, map, All}
use Rattle.jc_methods.specs.VerificationTypes.{Names, type_state, type_state_at, Grows, AreNumberedFrames}
use Rattle.jc_bytes.specs.Names.{met}
use Rattle.jc_frames.specs.Answers.{frame_names}
use Rattle.jc_frames.specs.Building.{AreKnown}
use Rattle.jc_frames.specs.Running.{IsRunning, IsNumberedValue, before}
use Rattle.jc_frames.proofs.WalkLaws.{Walking}
use Rattle.jc_frames.proofs.read.found_frames.Given as goal

abbrev pub invariant-reading : goal.invariant-reading
invariant-reading l = record {
  running : IsRunning l.running;
  known : AreKnown l.method.pool l.names l.known;
  grows : Grows l.fn.names l.names;
  walking : (later : Names) → Grows l.names later
      → Walking l.method (type_state later l.entry) l.table l.count l.number (map (type_state_at later) l.frames.items)
      (before l.method.pool later l.running) l.reader.left;
  values : All (IsNumberedValue (length l.names)) l.running.values.items;
  numbered : AreNumberedFrames (length l.names) l.frames.items;
  met : l.names ≡ met l.fn.names (frame_names (map (type_state_at l.names) l.frames.items));
}
