-- One frame of a table, read and understood.
use Rattle.std.specs.Prelude.{ℕ, List, Option, None, option_map}
use Rattle.jc_bytes.specs.Parsing.{Parsed, Good, Bad}
use Rattle.jc_frames.specs.declared.items.FrameItem.{FrameItem}
use Rattle.jc_frames.specs.Frames.{Ground, Before, Found, frame_of}

-- a frame, and the bytes behind it
abbrev pub with_rest : List ℕ → Found → Found × List ℕ
with_rest rest found = (found, rest)

-- what was read says something, or nothing
abbrev pub read_frame : Ground → Before → Parsed FrameItem → Option (Found × List ℕ)
read_frame g before (Good item rest) = option_map (with_rest rest) (frame_of g before item)
read_frame g before (Bad left) = None
