use Rattle.std.proofs.Common.{◌≡◌, [], take, filter}
use Rattle.jc_exec.specs.Refusing.{OneOfEachId}
use Rattle.jc_exec.specs.Writing.{is_hit}
use Rattle.jc_command_run.specs.HitStore.{set_records}
use Rattle.jc_command_run.proofs.records.hit_store.Given as goal

-- the store has the records of the classes so far, each of its own id
abbrev pub invariant-storing : goal.invariant-storing
invariant-storing l = record {
  sessions : l.store.sessions ≡ [];
  classes : l.store.classes ≡ filter is_hit (set_records l.hits 0 (take l.number l.program.classes));
  one : OneOfEachId l.store.classes;
}
