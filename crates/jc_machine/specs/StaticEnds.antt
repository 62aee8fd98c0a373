-- What static fields hold at the end, by their places among the values.
use Rattle.std.specs.Prelude.{List, [], map, slice_index_or}
use Rattle.jc_programs.specs.declared.run_end.StaticEnd.{StaticEnd}
use Rattle.jc_machine_model.specs.Values.{Value, null}
use Rattle.jc_machine_model.specs.CaseEnds.{number_of}
use Rattle.jc_machine.specs.declared.integral_fields.IntegralField.{IntegralField}

-- the value of a static field
abbrev pub value_at : List (List Value) → IntegralField → Value
value_at statics f = slice_index_or (slice_index_or statics f.class []) f.field null

abbrev pub end_at : List (List Value) → IntegralField → StaticEnd
end_at statics f = record { class = f.class; field = f.field; value = number_of (value_at statics f) }

abbrev pub ends_at : List (List Value) → List IntegralField → List StaticEnd
ends_at statics fields = map (end_at statics) fields
