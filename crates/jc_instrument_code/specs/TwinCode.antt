-- The text of the Code attribute of an instrumented method.
use Rattle.std.specs.Prelude.{ℕ, List, ◌++◌, map, codes, slice_index}
use Rattle.jc_methods.specs.VerificationTypes.{Names, TypeStateAt, type_state_at}
use Rattle.jc_methods.specs.declared.body.FrameAt.{FrameAt}
use Rattle.jc_methods.specs.declared.emitted.Emitted.{Emitted}
use Rattle.jc_methods.specs.declared.probe_members.Fetch.{Fetch}
use Rattle.jc_pool.specs.Pool.{PoolValue}
use Rattle.jc_class.specs.declared.class_file.Attribute.{Attribute}
use Rattle.jc_emit.specs.declared.tables.MovedTables.{MovedTables}
use Rattle.jc_frames.specs.FullFrames.{Places}
use Rattle.jc_layout.specs.LaidBody.{with_place}
use Rattle.jc_layout.specs.Layout.{chosen, chosen_starts, chosen_text}
use Rattle.jc_layout.specs.Merged.{merged, used_frames}
use Rattle.jc_instrument_code.specs.CodeText.{code_text, counted_text, row_text, line_text, var_text, table_attributes, frame_attributes}
use Rattle.jc_instrument_code.specs.FirstPlaces.{text_place, class_place}

-- ---- frames

-- the frames of the layout that is chosen for the code, which is ready for it, where the places are those of the emitted code
abbrev pub chosen_frames : Emitted → List FrameAt
chosen_frames e = merged e.frames (used_frames (chosen e.code) e.wide_frames)

-- the same, with classes by their names
abbrev pub written_frames : Names → Emitted → List TypeStateAt
written_frames names e = map (type_state_at names) (chosen_frames e)

-- ---- places

-- the offset of each instruction of the emitted code, and of its end
abbrev pub offset_in : Emitted → ℕ → ℕ
offset_in e = slice_index (chosen_starts e.code)

-- the places of what frames name: classes at their first places, and instructions at these offsets
abbrev pub places_by : PoolValue → (offset : ℕ → ℕ) → Places
places_by pool offset = record { class = class_place pool; start = offset }

abbrev pub places_of : PoolValue → Emitted → Places
places_of pool e = places_by pool (offset_in e)

-- ---- names of attributes (JVM Specification 4.7.12 to 4.7.14)

abbrev pub lines_name : List ℕ
lines_name = codes "LineNumberTable"

abbrev pub vars_name : List ℕ
vars_name = codes "LocalVariableTable"

abbrev pub kind_vars_name : List ℕ
kind_vars_name = codes "LocalVariableTypeTable"

-- ---- the attribute

-- the tables of the emitted code, and its sizes
abbrev pub tables_in : Emitted → MovedTables
tables_in e = record {
  handlers = e.handlers;
  lines = e.lines;
  vars = e.vars;
  kind_vars = e.kind_vars;
  max_stack = e.max_stack;
  max_locals = e.max_locals;
}

-- The attributes of the code, in this order, each left out where it has no entries; their names stand at these places.
abbrev pub attributes_by : (lines vars kind_vars frames_name : ℕ) → Places → MovedTables → List TypeStateAt → List Attribute
attributes_by lines vars kind_vars frames_name p t frames =
    table_attributes lines (line_text p.start) t.lines
    ++ (table_attributes vars (var_text p.start) t.vars
    ++ (table_attributes kind_vars (var_text p.start) t.kind_vars
    ++ frame_attributes frames_name p frames))

-- the same, where the names of the first three stand at their first places
abbrev pub code_attributes : PoolValue → (frames_name : ℕ) → Emitted → List TypeStateAt → List Attribute
code_attributes pool frames_name e frames =
    attributes_by (text_place pool lines_name) (text_place pool vars_name) (text_place pool kind_vars_name) frames_name
    (places_of pool e) (tables_in e) frames

-- What stands behind the name and the length of the Code attribute (JVM Specification 4.7.3), of code that is ready for its layout. At
-- these places stand what gives the array of probes, the class of the array and the text StackMapTable: the bytes are those of the
-- layout, with the place that comes last.
unfoldable pub twin_code : PoolValue → Fetch → (giver array frames_name : ℕ) → Names → Emitted → List ℕ
twin_code pool fetch giver array frames_name names e =
    code_text e.max_stack e.max_locals (with_place fetch giver array (chosen_text e.code))
    (counted_text (row_text (offset_in e)) e.handlers)
    (code_attributes pool frames_name e (written_frames names e))
