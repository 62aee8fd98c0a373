-- What the command `execinfo` prints of execution data.
use Rattle.std.specs.Prelude.{◌≡◌, ℕ, ℤ, List, [], ◌∷◌, ◌++◌, codes, length, map, count_by}
use Rattle.std.specs.Fmt.{decimal, signed_decimal}
use Rattle.jc_exec.specs.declared.hits.ClassHits.{ClassHits}
use Rattle.jc_exec.specs.declared.session.Session.{Session}
use Rattle.jc_exec.specs.declared.refusal.ExecRefusal.{ExecRefusal}
use Rattle.jc_exec.specs.Store.{Store}
use Rattle.jc_command_work.specs.declared.status.Fault.TheVariants as fault
use Rattle.jc_command_work.specs.Step.{to_out}
use Rattle.jc_command_work.specs.Part.{gives}
use Rattle.jc_command_work.specs.Answered.{Answer, refusing}
use Rattle.jc_command_exec.specs.ExecData.{IsUnionOf, IsFirstRefusedAlone}
use Rattle.jc_command_work.specs.Texts.{hex_text}
use Rattle.jc_command_work.specs.Step.{Word}

abbrev pub file_line : Word → List ℕ
file_line path = codes "file " ++ (path ++ codes "\n")

-- when a session began and when its data was dumped, as they are printed
abbrev pub times_text : ℤ → ℤ → List ℕ
times_text start dump = codes " start " ++ (signed_decimal start ++ (codes " dump " ++ (signed_decimal dump ++ codes "\n")))

abbrev pub session_line : Session → List ℕ
session_line s = codes "session " ++ (s.id ++ times_text s.start s.dump)

-- how many of so many probes were hit, as it is printed
abbrev pub hits_text : ℕ → ℕ → List ℕ
hits_text hits count = codes " " ++ (decimal hits ++ (codes " of " ++ (decimal count ++ codes "\n")))

-- how many probes of the record were hit
abbrev pub hit_count : ClassHits → ℕ
hit_count c = count_by (λ hit. hit) c.bits

abbrev pub record_start : ℕ → List ℕ
record_start id = codes "class " ++ (hex_text id ++ codes " ")

abbrev pub record_line : ClassHits → List ℕ
record_line c = record_start c.id ++ (c.name ++ hits_text (hit_count c) (length c.bits))

-- the lines of a file: its sessions in order, and then its records in the order in which their ids are first seen
abbrev pub file_lines : Word → Store → List (List ℕ)
file_lines path store = file_line path ∷ (map session_line store.sessions ++ map record_line store.classes)

-- the lines of the files, in order; each file's execution data has a store of its own
abbrev pub AreInfo : List Word → List (List ℕ) → List (List ℕ) → Type 0
AreInfo [] [] lines = lines ≡ []
AreInfo [] (t ∷ ts) lines = ⊥
AreInfo (p ∷ ps) [] lines = ⊥
AreInfo (p ∷ ps) (t ∷ ts) lines =
    (store : Store) × (rest : List (List ℕ)) × IsUnionOf (t ∷ []) store × (lines ≡ file_lines p store ++ rest) × AreInfo ps ts rest

-- the lines of all files are printed, or the first file that is refused is named
pub data InfoAnswers (paths : List Word) (texts : List (List ℕ)) : Answer → Type 0 where
  informed : (lines : List (List ℕ)) → AreInfo paths texts lines → InfoAnswers paths texts (gives (map to_out lines))
  exec_info_refused : (index : ℕ) (path : Word) (refusal : ExecRefusal) → IsFirstRefusedAlone paths texts index path refusal
      → InfoAnswers paths texts (refusing path (fault.Exec index refusal))
