-- Files and texts outside, and what a call does to them.
use Rattle.std.specs.Prelude.{◌≡◌, ◌≢◌, ◌⊎◌, ◌↔◌, ◌<◌, ◌≤◌, ◌+◌, ℕ, Bool, false, List, ◌++◌, length, take, drop, map, filter, Option, None, Some, option_map, Result, Ok, Err, String, Vec, string_bytes, ⊤}
use Rattle.std.specs.declared.alloc.Global.{Global}
use Rattle.std.specs.Ordering.{nat_cmp}
use Rattle.std.specs.FinMap.{FinMap, get, insert, keys}
use Rattle.std.specs.Cmp.Lexicographic.{slice_cmp}
use Rattle.std.specs.List.{AllPass}
use Rattle.std.specs.List.Sorted.{IsStrictlySortedBy}
use Rattle.jc_bytes.specs.Reader.{most_read}
use Rattle.jc_outside.specs.Folder.{front_of, is_class_file}
use Rattle.jc_outside.specs.declared.files.FileFault.{FileFault}
use Rattle.jc_outside.specs.declared.files.FileFault.TheVariants as faults
use Rattle.jc_outside.specs.declared.sink.SinkFault.{SinkFault}

-- what each path holds
abbrev pub FileMap : Type 0
FileMap = FinMap (slice_cmp nat_cmp) (List ℕ)

-- a count that stands at its last value can't rise, and is as good as risen
abbrev pub Rose : ℕ → ℕ → Type 0
Rose old new = (old < new) ⊎ (new ≡ 18446744073709551615)

-- the list is a prefix of the other
abbrev pub Begins : List ℕ → List ℕ → Type 0
Begins front whole = (rest : List ℕ) × (whole ≡ front ++ rest)

-- the file at the path is longer than what is read
abbrev pub IsLong : Option (List ℕ) → Type 0
IsLong None = ⊥
IsLong (Some bytes) = most_read < length bytes

-- The path of the last reading or listing that failed, where that is told: none, if none has failed yet.
abbrev pub LastFailed : Type 0
LastFailed = Option (Option (List ℕ))

-- where contents are told
abbrev pub WhereTold : Option FileMap → (FileMap → Type 0) → Type 0
WhereTold None P = ⊤
WhereTold (Some m) P = P m

-- ---- reading

-- what a read that failed leaves of what was there, and what its fault says of the file
abbrev pub FaultLeaves : Option FileMap → List ℕ → List ℕ → List ℕ → FileFault → Type 0
FaultLeaves contents path old new faults.Failed = Begins old new
FaultLeaves contents path old new faults.Missing = Begins old new × WhereTold contents (λ m. get m path ≡ None)
FaultLeaves contents path old new faults.TooLarge = Begins old new × WhereTold contents (λ m. IsLong (get m path))
FaultLeaves contents path old new faults.Memory = Begins old new

-- what a read appends to what was there
abbrev pub ReadGives : Option FileMap → List ℕ → List ℕ → List ℕ → Result Unit FileFault → Type 0
ReadGives contents path old new (Ok _) = (bytes : List ℕ) × (new ≡ old ++ bytes) × (length bytes ≤ most_read) × WhereTold contents (λ m. get m path ≡ Some bytes)
ReadGives contents path old new (Err fault) = FaultLeaves contents path old new fault

-- where contents aren't told, a file that is missing or too large counts as a fault
abbrev pub RoseOrTold : Option FileMap → ℕ → ℕ → Type 0
RoseOrTold None old new = (old ≤ new) × Rose old new
RoseOrTold (Some m) old new = new ≡ old

-- when the count of reads that failed rises with a fault
abbrev pub FaultCause : Option FileMap → ℕ → ℕ → FileFault → Type 0
FaultCause contents old new faults.Failed = (old ≤ new) × Rose old new
FaultCause contents old new faults.Missing = RoseOrTold contents old new
FaultCause contents old new faults.TooLarge = RoseOrTold contents old new
FaultCause contents old new faults.Memory = new ≡ old

-- when the count of reads that failed rises
abbrev pub ReadCause : Option FileMap → ℕ → ℕ → Result Unit FileFault → Type 0
ReadCause contents old new (Ok _) = new ≡ old
ReadCause contents old new (Err fault) = FaultCause contents old new fault

-- ---- the path of the last read that failed

-- what is told of it once the one at this path has failed
abbrev pub failed_at : List ℕ → LastFailed → LastFailed
failed_at path last = option_map (λ _. Some path) last

-- a read that gave up for want of memory leaves what was told
abbrev pub fault_at : List ℕ → LastFailed → FileFault → LastFailed
fault_at path last faults.Failed = failed_at path last
fault_at path last faults.Missing = failed_at path last
fault_at path last faults.TooLarge = failed_at path last
fault_at path last faults.Memory = last

-- what is told behind a reading or a listing of the path
abbrev pub last_failed : {A : Type 0} → List ℕ → LastFailed → Result A FileFault → LastFailed
last_failed path last (Ok _) = last
last_failed path last (Err fault) = fault_at path last fault

-- ---- reading a part

-- the bytes are those of the file at the 65,536 places from a place on, and the file has ended where no byte stands behind them
pub record IsPartOf (file : List ℕ) (from : ℕ) (part : List ℕ) (ended : Bool) : Type 0 where
  pub short : length file ≤ most_read
  pub bytes : part ≡ take 65536 (drop from file)
  pub longer : (ended ≡ false) ↔ (from + 65536 < length file)

-- a part of the file at the path: where more bytes follow, it is whole, and isn't the last that a file may have
pub record IsFilePart (contents : Option FileMap) (path : List ℕ) (from : ℕ) (part : List ℕ) (ended : Bool) : Type 0 where
  pub few : length part ≤ 65536
  pub whole : ended ≡ false → length part ≡ 65536
  pub last : ended ≡ false → from + 65536 < most_read
  pub told : WhereTold contents (λ m. (file : List ℕ) × (get m path ≡ Some file) × IsPartOf file from part ended)

-- what reading a part appends to what was there
abbrev pub PartGives : Option FileMap → List ℕ → ℕ → List ℕ → List ℕ → Result Bool FileFault → Type 0
PartGives contents path from old new (Ok ended) = (part : List ℕ) × (new ≡ old ++ part) × IsFilePart contents path from part ended
PartGives contents path from old new (Err fault) = FaultLeaves contents path old new fault

-- when the count of reads that failed rises
abbrev pub PartCause : Option FileMap → ℕ → ℕ → Result Bool FileFault → Type 0
PartCause contents old new (Ok _) = new ≡ old
PartCause contents old new (Err fault) = FaultCause contents old new fault

-- ---- listing

-- the paths of a folder's class files, in the order of their bytes, each once: where contents are told, of those that stand there
pub record IsListing (contents : Option FileMap) (folder : List ℕ) (paths : List (List ℕ)) : Type 0 where
  pub sorted : IsStrictlySortedBy (slice_cmp nat_cmp) paths
  pub own : AllPass (is_class_file (front_of folder)) paths
  pub told : WhereTold contents (λ m. paths ≡ filter (is_class_file (front_of folder)) (keys m))

-- what a listing gives
abbrev pub ListGives : Option FileMap → List ℕ → Result (Vec (String Global) Global) FileFault → Type 0
ListGives contents folder (Ok paths) = IsListing contents folder (map string_bytes paths.items)
ListGives contents folder (Err _) = ⊤

-- a listing answers no other fault, and the count rises where it failed
abbrev pub ListCause : ℕ → ℕ → Result (Vec (String Global) Global) FileFault → Type 0
ListCause old new (Ok _) = new ≡ old
ListCause old new (Err faults.Failed) = (old ≤ new) × Rose old new
ListCause old new (Err faults.Missing) = ⊥
ListCause old new (Err faults.TooLarge) = ⊥
ListCause old new (Err faults.Memory) = new ≡ old

-- ---- writing

-- what a failed write leaves at its path: a prefix of the bytes, or nothing, as before
abbrev pub IsPart : List ℕ → Option (List ℕ) → Option (List ℕ) → Type 0
IsPart landed old (Some bytes) = Begins bytes landed
IsPart landed old None = old ≡ None

-- a failed write leaves a part at its path, and every other path as it was
pub record LeavesPart (landed path : List ℕ) (old new : FileMap) : Type 0 where
  pub part : IsPart landed (get old path) (get new path)
  pub others : (q : List ℕ) → q ≢ path → get new q ≡ get old q

-- what a write leaves
abbrev pub WriteLeaves : List ℕ → List ℕ → Option FileMap → Option FileMap → Result Unit FileFault → Type 0
WriteLeaves landed path None new result = new ≡ None
WriteLeaves landed path (Some m) new (Ok _) = new ≡ Some (insert m path landed)
WriteLeaves landed path (Some m) new (Err _) = (n : FileMap) × (new ≡ Some n) × LeavesPart landed path m n

-- a write answers no other fault, and the count rises with it alone
abbrev pub WriteCause : ℕ → ℕ → Result Unit FileFault → Type 0
WriteCause old new (Ok _) = new ≡ old
WriteCause old new (Err faults.Failed) = (old ≤ new) × Rose old new
WriteCause old new (Err faults.Missing) = ⊥
WriteCause old new (Err faults.TooLarge) = ⊥
WriteCause old new (Err faults.Memory) = ⊥

-- ---- putting

-- what a sink has taken after a piece
abbrev pub PutLeaves : Option (List ℕ) → Option (List ℕ) → List ℕ → Result Unit SinkFault → Type 0
PutLeaves None new piece result = new ≡ None
PutLeaves (Some text) new piece (Ok _) = new ≡ Some (text ++ piece)
PutLeaves (Some text) new piece (Err _) = (part : List ℕ) × Begins part piece × (new ≡ Some (text ++ part))

abbrev pub PutCause : ℕ → ℕ → Result Unit SinkFault → Type 0
PutCause old new (Ok _) = new ≡ old
PutCause old new (Err _) = (old ≤ new) × Rose old new
