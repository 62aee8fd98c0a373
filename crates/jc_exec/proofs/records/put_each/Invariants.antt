use Rattle.std.proofs.Common.{◌≡◌, ◌+◌, ◌≤◌, length, map, nat_eq, vec_len, vec_capacity}
use Rattle.std.specs.Vec.Iter.{into_iter_items}
use Rattle.indexmap.specs.IndexMap.{insert_all}
use Rattle.jc_exec.specs.Places.{ids_with}
use Rattle.jc_exec.specs.Store.{entries_of}
use Rattle.jc_exec.proofs.records.put_each.Given as goal

-- the records that are left make the same of what was put as all made of what was there
abbrev pub invariant-putting : goal.invariant-putting
invariant-putting l = record {
  all : insert_all nat_eq (entries_of l.classes.items) (entries_of (into_iter_items l.hits-iterator)) ≡ insert_all nat_eq (entries_of l.fn.classes.items) (entries_of l.fn.gathered.items);
  ids : ids_with (map (λ c. c.id) l.classes.items) (into_iter_items l.hits-iterator) ≡ l.ids;
  room : vec_len l.classes + length (into_iter_items l.hits-iterator) ≤ vec_capacity l.classes;
}
