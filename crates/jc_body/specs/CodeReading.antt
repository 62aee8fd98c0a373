-- Reading a Code attribute and the tables in it, item by item.
use Rattle.std.specs.Prelude.{ℕ, List, take}
use Rattle.jc_bytes.specs.Counted.{counted_at}
use Rattle.jc_bytes.specs.Decoder.{first, number_at}
use Rattle.jc_bytes.specs.Parsing.{Parsed, Good, ◌>>=◌, item}
use Rattle.jc_pool.specs.Pool.{PoolValue}
use Rattle.jc_class.specs.ClassReading.{attributes_at}
use Rattle.jc_body.specs.declared.items.CodeItems.{CodeItems}
use Rattle.jc_body.specs.declared.items.Row.{Row}
use Rattle.jc_body.specs.declared.items.LineEntry.{LineEntry}
use Rattle.jc_body.specs.declared.items.VarEntry.{VarEntry}

unfoldable pub row_at : List ℕ → Parsed Row
row_at left = do
  start ← item (number_at 2) left
  end ← item (number_at 2) start.1
  target ← item (number_at 2) end.1
  class ← item (number_at 2) target.1
  Good (record { start = start.0; end = end.0; target = target.0; class = class.0 }) class.1

-- what stands behind the name and the length of a Code attribute
unfoldable pub code_at : PoolValue → List ℕ → Parsed CodeItems
code_at pool left = do
  max_stack ← item (number_at 2) left
  max_locals ← item (number_at 2) max_stack.1
  size ← item (number_at 4) max_locals.1
  code ← item (first size.0 (take size.0)) size.1
  rows ← counted_at row_at code.1
  attributes ← attributes_at pool rows.1
  Good (record { max_stack = max_stack.0; max_locals = max_locals.0; code = code.0; rows = rows.0; attributes = attributes.0 }) attributes.1

unfoldable pub line_at : List ℕ → Parsed LineEntry
line_at left = do
  start ← item (number_at 2) left
  line ← item (number_at 2) start.1
  Good (record { start = start.0; line = line.0 }) line.1

unfoldable pub var_at : List ℕ → Parsed VarEntry
var_at left = do
  start ← item (number_at 2) left
  length ← item (number_at 2) start.1
  name ← item (number_at 2) length.1
  desc ← item (number_at 2) name.1
  slot ← item (number_at 2) desc.1
  Good (record { start = start.0; length = length.0; name = name.0; desc = desc.0; slot = slot.0 }) slot.1
