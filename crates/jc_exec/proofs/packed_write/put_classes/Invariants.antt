use Rattle.std.proofs.Common.{◌≡◌, ◌++◌, take, filter}
use Rattle.std.specs.List.{flat_map}
use Rattle.jc_exec.specs.Rows.{hits_of}
use Rattle.jc_exec.specs.Writing.{class_text, is_hit}
use Rattle.jc_exec.proofs.packed_write.put_classes.Given as goal

-- the records so far
abbrev pub invariant-writing : goal.invariant-writing
invariant-writing l = l.out.items ≡ l.fn.out.items ++ flat_map class_text (filter is_hit (take l.place (hits_of l.bytes l.ids l.rows)))
