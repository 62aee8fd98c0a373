-- The calls that a command makes outside, one step after the other, and what they leave. The reading of a whole file is one step,
-- whether it is one call or several in a row on one path, each of which reads a part.
use Rattle.std.specs.Prelude.{◌≡◌, ◌⊎◌, ◌≤◌, ⊤, ℕ, List, [], ◌∷◌, ◌++◌, length, Option, None, Some, option_map}
use Rattle.std.specs.FinMap.{get, insert}
use Rattle.jc_bytes.specs.ByteLists.{AreBytes}
use Rattle.jc_bytes.specs.Reader.{most_read}
use Rattle.jc_outside.specs.Outside.{FileMap, LastFailed, failed_at, IsLong, WhereTold, Rose, Begins, LeavesPart, IsListing}

-- a path, a word, or a text, by its bytes
abbrev pub Word : Type 0
Word = List ℕ

-- ---- files

-- these numbers may be what is read of a file: each of them is a byte, and they aren't too many
pub record IsFile (bytes : List ℕ) : Type 0 where
  pub are_bytes : AreBytes bytes
  pub short : length bytes ≤ most_read

-- as many texts as paths, and each may be what is read of a file
abbrev pub AreTexts : List Word → List (List ℕ) → Type 0
AreTexts [] [] = ⊤
AreTexts [] (t ∷ ts) = ⊥
AreTexts (p ∷ ps) [] = ⊥
AreTexts (p ∷ ps) (t ∷ ts) = IsFile t × AreTexts ps ts

-- the paths of files, and what was read of each, in the same order
pub record FilesRead : Type 0 where
  pub paths : List Word
  pub texts : List (List ℕ)

-- files that were read, and the path that each is written to, in the same order
pub record FilesTargeted : Type 0 where
  pub inputs : FilesRead
  pub targets : List Word

-- ---- the outside

-- what is told of the files, of the path of the last read of them that failed, and of the texts on `out` and `err`
pub record Outside : Type 0 where
  pub contents : Option FileMap
  pub failed : LastFailed
  pub out : Option (List ℕ)
  pub err : Option (List ℕ)

-- how often reads and writes of the files, and texts on `out` and `err`, have failed
pub record Counts : Type 0 where
  pub reads : ℕ
  pub writes : ℕ
  pub outs : ℕ
  pub errs : ℕ

abbrev pub outside : Option FileMap → LastFailed → (out err : Option (List ℕ)) → Outside
outside contents failed out err = record { contents = contents; failed = failed; out = out; err = err }

abbrev pub counts : (reads writes outs errs : ℕ) → Counts
counts reads writes outs errs = record { reads = reads; writes = writes; outs = outs; errs = errs }

-- what a path holds after a write of these bytes
abbrev pub Landed : Type 0
Landed = (path bytes : List ℕ) → List ℕ

-- ---- calls and steps

-- one write: to a file, or of a text on `out` or `err`
pub data Write : Type 0 where
  to_file : (path bytes : List ℕ) → Write
  to_out : (text : List ℕ) → Write
  to_err : (text : List ℕ) → Write

-- what can be asked of the outside
pub data Call : Type 0 where
  -- all that the file at the path holds
  to_read : (path : Word) → Call
  to_list : (folder : Word) → Call
  to_write : (write : Write) → Call

-- a call that didn't fail, with what it gave
pub data Step : Type 0 where
  has_read : (path bytes : List ℕ) → Step
  -- the path is missing, or its file is too large
  has_no : (path : Word) → Step
  has_listed : (folder : Word) (paths : List Word) → Step
  has_written : (write : Write) → Step

abbrev pub call_of : Step → Call
call_of (has_read path bytes) = to_read path
call_of (has_no path) = to_read path
call_of (has_listed folder paths) = to_list folder
call_of (has_written write) = to_write write

-- ---- what steps leave

-- a text that is told and grew
abbrev pub grown : Option (List ℕ) → List ℕ → Option (List ℕ)
grown text more = option_map (λ t. t ++ more) text

abbrev pub after_write : Landed → Outside → Write → Outside
after_write landed w (to_file path bytes) =
    record w { contents = option_map (λ (m : FileMap). insert m path (landed path bytes)) w.contents }
after_write landed w (to_out text) = record w { out = grown w.out text }
after_write landed w (to_err text) = record w { err = grown w.err text }

-- the read of a path failed
abbrev pub after_failed : Outside → Word → Outside
after_failed w path = record w { failed = failed_at path w.failed }

abbrev pub after_step : Landed → Outside → Step → Outside
after_step landed w (has_read path bytes) = w
after_step landed w (has_no path) = after_failed w path
after_step landed w (has_listed folder paths) = w
after_step landed w (has_written write) = after_write landed w write

-- after all of them, in order
abbrev pub after : Landed → Outside → List Step → Outside
after landed w [] = w
after landed w (step ∷ steps) = after landed (after_step landed w step) steps

-- ---- what steps give

-- numbers of which one is 256 or more are the contents of no file
abbrev pub IsNoFile : Option (List ℕ) → Type 0
IsNoFile None = ⊥
IsNoFile (Some numbers) = AreBytes numbers → ⊥

-- the path is missing, or its file is too large, or what stands there is no file
abbrev pub CantRead : FileMap → Word → Type 0
CantRead m path = (get m path ≡ None) ⊎ (IsLong (get m path) ⊎ IsNoFile (get m path))

-- contents are told, and this is so of them
abbrev pub Told : Option FileMap → (FileMap → Type 0) → Type 0
Told None P = ⊥
Told (Some m) P = P m

-- bytes, not too many; where contents are told the path holds just these
pub record IsRead (contents : Option FileMap) (path bytes : List ℕ) : Type 0 where
  pub file : IsFile bytes
  pub there : WhereTold contents (λ m. get m path ≡ Some bytes)

-- The step gave what is there: where contents aren't told a read gives any bytes, and a folder any paths of class files of its own.
abbrev pub Gave : Option FileMap → Step → Type 0
Gave contents (has_read path bytes) = IsRead contents path bytes
Gave contents (has_no path) = Told contents (λ m. CantRead m path)
Gave contents (has_listed folder paths) = IsListing contents folder paths
Gave contents (has_written write) = ⊤

-- each step gave what was there after the steps in front of it
abbrev pub Fit : Landed → Outside → List Step → Type 0
Fit landed w [] = ⊤
Fit landed w (step ∷ steps) = Gave w.contents step × Fit landed (after_step landed w step) steps

-- ---- a call that fails

-- the count rose, or stands at its last value, and didn't fall
abbrev pub Rises : ℕ → ℕ → Type 0
Rises old new = (old ≤ new) × Rose old new

-- a part of the bytes is at the path, or no file as before; every other path stays
abbrev pub FileBroken : List ℕ → Word → Option FileMap → Option FileMap → Type 0
FileBroken landed path None new = new ≡ None
FileBroken landed path (Some m) new = (n : FileMap) × (new ≡ Some n) × LeavesPart landed path m n

-- a prefix of the text was appended
abbrev pub TextBroken : List ℕ → Option (List ℕ) → Option (List ℕ) → Type 0
TextBroken text None new = new ≡ None
TextBroken text (Some t) new = (part : List ℕ) × Begins part text × (new ≡ Some (t ++ part))

-- what a call that failed left: a path that couldn't be read is told, and a write was made in part
abbrev pub Broken : Landed → Outside → Call → Outside → Type 0
Broken landed w (to_read path) w' = w' ≡ after_failed w path
Broken landed w (to_list folder) w' = w' ≡ after_failed w folder
Broken landed w (to_write (to_file path bytes)) w' = FileBroken (landed path bytes) path w.contents w'.contents × (w' ≡ record w { contents = w'.contents })
Broken landed w (to_write (to_out text)) w' = TextBroken text w.out w'.out × (w' ≡ record w { out = w'.out })
Broken landed w (to_write (to_err text)) w' = TextBroken text w.err w'.err × (w' ≡ record w { err = w'.err })

-- the count rose of what the call goes to, and the others stay
abbrev pub CountRose : Call → Counts → Counts → Type 0
CountRose (to_read path) f f' = Rises f.reads f'.reads × (f' ≡ record f { reads = f'.reads })
CountRose (to_list folder) f f' = Rises f.reads f'.reads × (f' ≡ record f { reads = f'.reads })
CountRose (to_write (to_file path bytes)) f f' = Rises f.writes f'.writes × (f' ≡ record f { writes = f'.writes })
CountRose (to_write (to_out text)) f f' = Rises f.outs f'.outs × (f' ≡ record f { outs = f'.outs })
CountRose (to_write (to_err text)) f f' = Rises f.errs f'.errs × (f' ≡ record f { errs = f'.errs })
