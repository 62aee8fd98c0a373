use Rattle.std.proofs.Common.{map, ◌∙◌}
use Rattle.std.specs.Prelude.{slice_index}
use Rattle.jc_methods.specs.VerificationTypes.{type_state_at}
use Rattle.jc_instrument_code.specs.CodeText.{table_attributes, frame_attributes, line_text, var_text}
use Rattle.jc_instrument_code.specs.LaidText.{tables_seen}
use Rattle.jc_instrument_code.specs.TwinCode.{places_by}
use Rattle.jc_instrument_code.proofs.AttributeLaws.{all_text}
use Rattle.jc_instrument_code.proofs.attributes.put_attributes.Goals as goal

pub returns : goal.returns
returns c =
    let places = c.args.places.now in
    let named = c.args.tables.now.frames in
    let t = tables_seen c.args.tables.now in
    let seen = map (type_state_at named.names.now) named.frames.now in
    let offset = slice_index c.args.starts.now in
    let p = places_by c.args.pool.now offset in
    all_text (table_attributes places.lines (line_text offset) t.lines) (table_attributes places.vars (var_text offset) t.vars)
    (table_attributes places.kind_vars (var_text offset) t.kind_vars) (frame_attributes places.frames p seen) c.in-Ok.count
    c.args.into.now.items c.put_short.new.into.items c.put_line_tables.new.into.items c.put_var_tables.new.into.items c.put_var_tables-2.new.into.items
    c.put_frames.new.into.items
    (c.in-Ok.ensures.1 ∙ c.attribute_count.ensures c.args.pool.now places named.names.now c.args.starts.now)
    c.in_ok-put_short.ensures c.in_ok-put_line_tables.ensures c.in_ok-put_var_tables.ensures c.in_ok-put_var_tables-2.ensures
    c.in_ok-put_frames.ensures
