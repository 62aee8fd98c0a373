-- The execution data of hits that are kept as truth values.
use Rattle.std.specs.Prelude.{◌≡◌, ◌≤◌, ℕ, ◌+◌, Bool, List, [], ◌∷◌, ◌++◌, length, map, Option, Some, None, slice_index_or, All, filter}
use Rattle.jc_bytes.specs.Modified.{IsModified}
use Rattle.jc_exec.specs.declared.hits.ClassHits.{ClassHits}
use Rattle.jc_exec.specs.Store.{Store}
use Rattle.jc_exec.specs.Writing.{is_hit}
use Rattle.jc_programs.specs.declared.program.Program.{Program}
use Rattle.jc_programs.specs.declared.program.Linked.{Linked}
use Rattle.jc_programs.specs.declared.program.ProbeInit.{ProbeInit}
use Rattle.jc_link_programs.specs.Pairs.{NoPair, HaveOneId}

-- the record of a class with these truth values
abbrev pub set_record : List (List Bool) → (class : ℕ) → Linked → ProbeInit → ClassHits
set_record hits class c init = record { id = init.id; name = c.name; bits = slice_index_or hits class [] }

abbrev pub with_set : List (List Bool) → (class : ℕ) → Linked → Option ProbeInit → List ClassHits → List ClassHits
with_set hits class c None records = records
with_set hits class c (Some init) records = set_record hits class c init ∷ records

-- one for each class with probes
abbrev pub set_records : List (List Bool) → (class : ℕ) → List Linked → List ClassHits
set_records hits class [] = []
set_records hits class (c ∷ classes) = with_set hits class c c.probes (set_records hits (class + 1) classes)

-- each class has as many truth values as probes
abbrev pub count_of : Option ProbeInit → ℕ
count_of None = 0
count_of (Some init) = init.count

abbrev pub counts_in : List Linked → List ℕ
counts_in classes = map (λ (c : Linked). count_of c.probes) classes

-- the name and the number of probes of the class fit the format
pub record FitsRecord (c : Linked) : Type 0 where
  pub short : length c.name ≤ 65535
  pub text : IsModified c.name
  pub count : count_of c.probes ≤ 65535

pub record FitRecords (program : Program) : Type 0 where
  pub each : All FitsRecord program.classes
  pub ids : NoPair (HaveOneId program.classes)

-- the record was put last
pub record AddsLast (c : ClassHits) (old new : Store) : Type 0 where
  pub sessions : new.sessions ≡ old.sessions
  pub classes : new.classes ≡ old.classes ++ c ∷ []

-- the record was put last, if it has a hit
pub record AddsIfHit (c : ClassHits) (old new : Store) : Type 0 where
  pub sessions : new.sessions ≡ old.sessions
  pub classes : new.classes ≡ old.classes ++ filter is_hit (c ∷ [])
