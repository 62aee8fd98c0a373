use Rattle.std.proofs.Common.{◌≡◌, ◌++◌, length, take}
use Rattle.std.specs.Prelude.{slice_index}
use Rattle.std.specs.List.{flat_map}
use Rattle.jc_bytes.specs.BigNumbers.{short}
use Rattle.jc_instrument_code.specs.CodeText.{line_text}
use Rattle.jc_instrument_code.proofs.tables.put_lines.Given as goal

-- the entries so far
abbrev pub invariant-writing : goal.invariant-writing
invariant-writing l = l.into.items ≡ l.fn.into.items ++ (short (length l.lines) ++ flat_map (line_text (slice_index l.starts)) (take l.line-index l.lines))
