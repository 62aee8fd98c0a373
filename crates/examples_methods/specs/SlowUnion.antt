-- The union of records as the slow program of the tests makes it, bit by bit.
use Rattle.std.specs.Prelude.{ℕ, Bool, false, ◌&&◌, List, length, map, nat_eq, slice_index_or}
use Rattle.std.specs.List.{list_any, range_with_len}
use Rattle.jc_exec.specs.declared.hits.ClassHits.{ClassHits}

-- some record of the id has bit k
abbrev pub some_hit : List ClassHits → ℕ → ℕ → Bool
some_hit records id k = list_any (λ r. nat_eq r.id id && slice_index_or r.bits k false) records

-- bits 0 to n - 1
unfoldable pub all_hits : List ClassHits → ℕ → ℕ → List Bool
all_hits records id n = map (some_hit records id) (range_with_len 0 n)

-- the record with the bits of all records of its id
abbrev pub merged_record : List ClassHits → ClassHits → ClassHits
merged_record records r = record { id = r.id; name = r.name; bits = all_hits records r.id (length r.bits) }
