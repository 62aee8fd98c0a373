-- What files in memory and texts in memory hold.
use Rattle.std.specs.Prelude.{◌≡◌, ◌⊎◌, ℕ, Bool, true, false, List, [], ◌++◌, map, refl, string_bytes, String, Vec, Option, is_some, Result, Ok, Err, if◌then◌else◌}
use Rattle.std.specs.FinMap.{from_entries, get, insert, code}
use Rattle.std.specs.BTreeMap.{BTreeMap}
use Rattle.std.specs.Coded.{Coded, code_by, coded×, coded_ℕ, coded_list, coded_option}
use Rattle.std.specs.declared.alloc.Global.{Global}
use Rattle.jc_outside.specs.Outside.{FileMap}
use Rattle.jc_outside.specs.Planned.{Planned, first_half}
use Rattle.jc_outside.specs.declared.files.FileFault.{FileFault}
use Rattle.jc_outside.specs.declared.sink.SinkFault.{SinkFault}

-- paths and bytes, as the program keeps them
abbrev pub Kept : Type 0
Kept = BTreeMap (String Global) (Vec ℕ Global)

abbrev pub entry_of : String Global × Vec ℕ Global → List ℕ × List ℕ
entry_of e = (string_bytes e.0, e.1.items)

abbrev pub held : Kept → FileMap
held files = from_entries (map entry_of files.entries)

-- the files once that at the path, if there is one, holds nothing
abbrev pub emptied : FileMap → List ℕ → FileMap
emptied m path = if is_some (get m path) then insert m path [] else m

-- files in memory: what they hold, the calls that are to fail, the faults so far, and the path of the last read that failed
pub record MemoryState : Type 0 where
  pub files : FileMap
  pub calls : Planned
  pub read_faults : ℕ
  pub write_faults : ℕ
  pub failed_path : Option (List ℕ)

-- What a write leaves, by whether it is planned to fail. One that is planned to fail leaves the first half of the bytes, and any other that
-- fails found no memory: the file that was there then holds nothing, as it may where both come together.
abbrev pub WritesPlanned : Bool → (path bytes : List ℕ) → (old new : FileMap) → Result Unit FileFault → Type 0
WritesPlanned true path bytes old new (Ok _) = ⊥
WritesPlanned true path bytes old new (Err _) = (new ≡ insert old path (first_half bytes)) ⊎ (new ≡ emptied old path)
WritesPlanned false path bytes old new (Ok _) = new ≡ insert old path bytes
WritesPlanned false path bytes old new (Err _) = new ≡ emptied old path

abbrev pub files_code : Coded FileMap
files_code = code (coded_list coded_ℕ) (coded_list coded_ℕ)

-- the state is stored as its parts
abbrev pub state_code : Coded MemoryState
state_code =
    code_by (FileMap × (List ℕ × (ℕ × (ℕ × (ℕ × Option (List ℕ))))))
    (coded× files_code (coded× (coded_list coded_ℕ) (coded× coded_ℕ (coded× coded_ℕ (coded× coded_ℕ (coded_option (coded_list coded_ℕ)))))))
    (λ s. (s.files, (s.calls.failing, (s.calls.made, (s.read_faults, (s.write_faults, s.failed_path))))))
    (λ p. record {
      files = p.0;
      calls = record { failing = p.1.0; made = p.1.1.0 };
      read_faults = p.1.1.1.0;
      write_faults = p.1.1.1.1.0;
      failed_path = p.1.1.1.1.1;
    }) (λ _. refl)

-- a text in memory: what it has taken, the calls that are to fail, and the faults so far
pub record SinkState : Type 0 where
  pub text : List ℕ
  pub calls : Planned
  pub faults : ℕ

-- what a text has taken after a piece, by whether the call is planned to fail: any other call that fails found no memory
abbrev pub PutsPlanned : Bool → (piece old new : List ℕ) → Result Unit SinkFault → Type 0
PutsPlanned true piece old new (Ok _) = ⊥
PutsPlanned true piece old new (Err _) = (new ≡ old ++ first_half piece) ⊎ (new ≡ old)
PutsPlanned false piece old new (Ok _) = new ≡ old ++ piece
PutsPlanned false piece old new (Err _) = new ≡ old
