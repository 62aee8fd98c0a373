-- What a store of execution data holds.
use Rattle.std.specs.Prelude.{◌≡◌, ◌<◌, ◌≢◌, ◌^◌, ⊤, ℕ, List, [], ◌∷◌, length, map, FitsSigned}
use Rattle.std.specs.Int.{w64}
use Rattle.jc_bytes.specs.Modified.{IsModified}
use Rattle.jc_exec.specs.declared.hits.ClassHits.{ClassHits}
use Rattle.jc_exec.specs.declared.session.Session.{Session}

-- the sessions, and the records in the order in which their ids were first seen
pub record Store : Type 0 where
  pub sessions : List Session
  pub classes : List ClassHits

-- the record's numbers fit the format
pub record IsSmall (c : ClassHits) : Type 0 where
  pub id : c.id < 2 ^ 64
  pub name : length c.name < 65536
  pub bits : length c.bits < 65536

-- its name fits too, so the record may be added to a store
abbrev pub IsWritableClass : ClassHits → Type 0
IsWritableClass c = IsSmall c × IsModified c.name

-- the session's id and times fit the format
pub record IsWritable (s : Session) : Type 0 where
  pub size : length s.id < 65536
  pub text : IsModified s.id
  pub start : FitsSigned w64 s.start
  pub dump : FitsSigned w64 s.dump

-- no record has the id
abbrev pub IsNew : ℕ → List ClassHits → Type 0
IsNew id [] = ⊤
IsNew id (c ∷ cs) = (id ≢ c.id) × IsNew id cs

-- ---- the records as the store keeps them, each under its id

abbrev pub classes_of : List (ℕ × ClassHits) → List ClassHits
classes_of entries = map (λ e. e.1) entries

-- records, each under its id
abbrev pub entries_of : List ClassHits → List (ℕ × ClassHits)
entries_of classes = map (λ c. (c.id, c)) classes

abbrev pub Keyed : List (ℕ × ClassHits) → Type 0
Keyed [] = ⊤
Keyed (e ∷ es) = (e.0 ≡ e.1.id) × IsSmall e.1 × IsModified e.1.name × IsNew e.1.id (classes_of es) × Keyed es
