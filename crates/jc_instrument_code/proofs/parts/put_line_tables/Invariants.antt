use Rattle.std.proofs.Common.{◌≡◌, ◌++◌, ◌-◌, ◌≤◌, length, drop}
use Rattle.std.specs.Prelude.{slice_index}
use Rattle.std.specs.List.{flat_map}
use Rattle.jc_instrument_code.specs.CodeText.{attribute_text, table_attributes, line_text}
use Rattle.jc_instrument_code.proofs.parts.put_line_tables.Given as goal

-- the entries that are left complete the text of all of them
abbrev pub invariant-parting : goal.invariant-parting
invariant-parting l = record {
  within : l.from ≤ length l.lines;
  text : l.into.items ++ flat_map attribute_text (table_attributes l.name (line_text (slice_index l.starts)) (drop l.from l.lines))
      ≡ l.fn.into.items ++ flat_map attribute_text (table_attributes l.name (line_text (slice_index l.starts)) l.lines);
}

abbrev pub decreases-parting : goal.decreases-parting
decreases-parting l = length l.lines - l.from
