-- The text of a Code attribute, from the tables, the layout and its frames.
use Rattle.std.specs.Prelude.{ℕ, List, map, slice_index}
use Rattle.jc_methods.specs.VerificationTypes.{Names, type_state_at}
use Rattle.jc_methods.specs.declared.body.FrameAt.{FrameAt}
use Rattle.jc_methods.specs.declared.probe_members.Fetch.{Fetch}
use Rattle.jc_pool.specs.Pool.{PoolValue}
use Rattle.jc_class.specs.declared.class_file.Attribute.{Attribute}
use Rattle.jc_emit.specs.declared.tables.MovedTables.{MovedTables}
use Rattle.jc_layout.specs.LaidBody.{with_place}
use Rattle.jc_layout.specs.declared.layouts.Laid.{Laid}
use Rattle.jc_instrument_code.specs.CodeText.{code_text, counted_text, row_text}
use Rattle.jc_instrument_code.specs.TwinCode.{attributes_by, places_by}
use Rattle.jc_instrument_code.specs.declared.code.CodePlaces.{CodePlaces}
use Rattle.jc_instrument_code.specs.declared.code.CodeTables.{CodeTables}

-- the tables that are referred to
abbrev pub tables_seen : CodeTables → MovedTables
tables_seen t = record {
  handlers = t.handlers.now;
  lines = t.lines.now;
  vars = t.vars.now;
  kind_vars = t.kind_vars.now;
  max_stack = t.max_stack;
  max_locals = t.max_locals;
}

-- the attributes of code whose instructions begin at these offsets
abbrev pub laid_attributes : PoolValue → CodePlaces → Names → MovedTables → (starts : List ℕ) → List FrameAt → List Attribute
laid_attributes pool places names t starts frames =
    attributes_by places.lines places.vars places.kind_vars places.frames (places_by pool (slice_index starts)) t (map (type_state_at names) frames)

-- What stands behind the name and the length of the Code attribute (JVM Specification 4.7.3), where what it names stands at
-- these places: the bytes are those of the layout, with the place that comes last of what the prelude names.
unfoldable pub laid_text : PoolValue → Fetch → CodePlaces → Names → MovedTables → Laid → List FrameAt → List ℕ
laid_text pool fetch places names t l frames =
    code_text t.max_stack t.max_locals (with_place fetch places.giver places.array l.code)
    (counted_text (row_text (slice_index l.starts)) t.handlers)
    (laid_attributes pool places names t l.starts frames)
