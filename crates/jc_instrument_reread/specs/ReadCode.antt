-- What is read of an instrumented method's code that was written (JVM Specification 4.7.3, 4.7.12 to 4.7.14).
use Rattle.std.specs.Prelude.{ℕ, ◌-◌, List, map}
use Rattle.jc_methods.specs.VerificationTypes.{Names}
use Rattle.jc_methods.specs.declared.body.Handler.{Handler}
use Rattle.jc_methods.specs.declared.body.LineAt.{LineAt}
use Rattle.jc_methods.specs.declared.body.VarAt.{VarAt}
use Rattle.jc_methods.specs.declared.emitted.Emitted.{Emitted}
use Rattle.jc_methods.specs.declared.insn.Insn.{Insn}
use Rattle.jc_methods.specs.declared.probe_members.Fetch.{Fetch}
use Rattle.jc_pool.specs.Pool.{PoolValue}
use Rattle.jc_body.specs.declared.coded.Coded.{Coded}
use Rattle.jc_body.specs.declared.items.CodeItems.{CodeItems}
use Rattle.jc_body.specs.declared.items.Row.{Row}
use Rattle.jc_body.specs.declared.items.LineEntry.{LineEntry}
use Rattle.jc_body.specs.declared.items.VarEntry.{VarEntry}
use Rattle.jc_body.specs.declared.items.Tables.{Tables}
use Rattle.jc_emit.specs.Marks.{TwinPlaces}
use Rattle.jc_layout.specs.LaidBody.{with_prelude, with_place}
use Rattle.jc_layout.specs.Layout.{laid_code, laid_starts, chosen_list, chosen_starts, chosen_text}
use Rattle.jc_instrument_code.specs.declared.code.CodePlaces.{CodePlaces}
use Rattle.jc_instrument_code.specs.TwinCode.{code_attributes, offset_in, written_frames}

-- ---- entries by offsets

abbrev pub row_at : (offset : ℕ → ℕ) → Handler → Row
row_at offset h = record { start = offset h.start; end = offset h.end; target = offset h.target; class = h.class }

abbrev pub line_at : (offset : ℕ → ℕ) → LineAt → LineEntry
line_at offset l = record { start = offset l.at; line = l.line }

abbrev pub var_at : (offset : ℕ → ℕ) → VarAt → VarEntry
var_at offset x = record {
  start = offset x.start;
  length = offset x.end - offset x.start;
  name = x.name;
  desc = x.desc;
  slot = x.slot;
}

-- ---- the whole

-- the pool's places of what a twin names: those of its prelude stand beside those of the names of its attributes, and those of the
-- Integers of ids in its code
abbrev pub code_places : CodePlaces → (integer : ℕ → ℕ) → TwinPlaces
code_places places integer = record { giver = places.giver; array = places.array; integer = integer }

abbrev pub written_items : PoolValue → Fetch → CodePlaces → Names → Emitted → CodeItems
written_items pool fetch places names e = record {
  max_stack = e.max_stack;
  max_locals = e.max_locals;
  code = with_place fetch places.giver places.array (chosen_text e.code);
  rows = map (row_at (offset_in e)) e.handlers;
  attributes = code_attributes pool places.frames e (written_frames names e);
}

-- the instructions of the layout that is chosen, where the prelude names what stands at these places, and where they begin
abbrev pub written_insns : Fetch → TwinPlaces → Emitted → List Insn
written_insns fetch p e = with_prelude fetch p (laid_code (chosen_list e.code) e.code)

abbrev pub written_starts : Emitted → List ℕ
written_starts e = laid_starts (chosen_list e.code) e.code (chosen_starts e.code)

abbrev pub written_coded : PoolValue → Fetch → CodePlaces → (integer : ℕ → ℕ) → Names → Emitted → Coded
written_coded pool fetch places integer names e = record {
  items = written_items pool fetch places names e;
  insns = written_insns fetch (code_places places integer) e;
  starts = written_starts e;
}

-- the entries of the tables, each of one list
abbrev pub written_tables : Emitted → Tables
written_tables e = record {
  lines = map (line_at (offset_in e)) e.lines;
  vars = map (var_at (offset_in e)) e.vars;
  kind_vars = map (var_at (offset_in e)) e.kind_vars;
}
