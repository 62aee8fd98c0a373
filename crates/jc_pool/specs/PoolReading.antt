-- Reading a constant pool, item by item.
use Rattle.std.specs.Prelude.{ℕ, zero, suc, ◌-◌, List, [], ◌∷◌, ◌++◌, Option, Some, None, if◌then◌else◌}
use Rattle.jc_bytes.specs.Parsing.{Parsed, Good, ◌>>=◌, item}
use Rattle.jc_pool.specs.declared.entry.Entry.{Entry}
use Rattle.jc_pool.specs.Pool.{PoolValue, is_wide}
use Rattle.jc_pool.specs.EntryReading.{count_at, entry_at, narrow_at}

-- these places, and then those that were read
abbrev pub put_behind : List (Option Entry) → Parsed (List (Option Entry)) → Parsed (List (Option Entry))
put_behind front parsed = parsed >>= λ rest. Good (front ++ rest.0) rest.1

-- entries that fill so many places
abbrev pub places_at : ℕ → List ℕ → Parsed (List (Option Entry))
places_at zero left = Good [] left
places_at (suc zero) left = item narrow_at left >>= λ e. Good (Some e.0 ∷ []) e.1
places_at (suc (suc n)) left = item entry_at left >>= λ e.
    if is_wide e.0 then put_behind (Some e.0 ∷ None ∷ []) (places_at n e.1) else put_behind (Some e.0 ∷ []) (places_at (suc n) e.1)

-- nothing at place 0, and the entries at the places below the count
abbrev pub filled_at : ℕ → List ℕ → Parsed PoolValue
filled_at count left = put_behind (None ∷ []) (places_at (count - 1) left)

unfoldable pub pool_at : List ℕ → Parsed PoolValue
pool_at left = item count_at left >>= λ n. filled_at n.0 n.1
