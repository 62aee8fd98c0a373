use Rattle.std.proofs.Common.{◌≡◌, ◌++◌, ◌-◌, ◌≤◌, length, drop}
use Rattle.std.specs.Prelude.{slice_index}
use Rattle.std.specs.List.{flat_map}
use Rattle.jc_instrument_code.specs.CodeText.{attribute_text, table_attributes, var_text}
use Rattle.jc_instrument_code.proofs.parts.put_var_tables.Given as goal

-- the entries that are left complete the text of all of them
abbrev pub invariant-parting : goal.invariant-parting
invariant-parting l = record {
  within : l.from ≤ length l.vars;
  text : l.into.items ++ flat_map attribute_text (table_attributes l.name (var_text (slice_index l.starts)) (drop l.from l.vars))
      ≡ l.fn.into.items ++ flat_map attribute_text (table_attributes l.name (var_text (slice_index l.starts)) l.vars);
}

abbrev pub decreases-parting : goal.decreases-parting
decreases-parting l = length l.vars - l.from
