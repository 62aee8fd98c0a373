-- The commands, by their names, and the form of the words behind each.
use Rattle.std.specs.Prelude.{◌≢◌, Bool, List, [], ◌∷◌, map, codes, Option, Some, None, IsTrue, if◌then◌else◌}
use Rattle.std.specs.List.{list_all, list_any, IsDistinct}
use Rattle.std.specs.Str.{bytes_eq}
use Rattle.jc_command_words.specs.declared.name.CommandName.{CommandName}
use Rattle.jc_command_words.specs.declared.name.CommandName.TheVariants.{Instrument, Run, Merge, Report, ExecInfo, ClassInfo, Cover, Refs, Lines, Check}
use Rattle.jc_command_words.specs.Words.{Word, Use, is_plain, is_valued, rest_words}

abbrev pub text_of : CommandName → Word
text_of Instrument = codes "instrument"
text_of Run = codes "run"
text_of Merge = codes "merge"
text_of Report = codes "report"
text_of ExecInfo = codes "execinfo"
text_of ClassInfo = codes "classinfo"
text_of Cover = codes "cover"
text_of Refs = codes "refs"
text_of Lines = codes "lines"
text_of Check = codes "check"

-- the command of this name
abbrev pub named : Word → Option CommandName
named word =
    if bytes_eq word (codes "instrument") then Some Instrument
    else if bytes_eq word (codes "run") then Some Run
    else if bytes_eq word (codes "merge") then Some Merge
    else if bytes_eq word (codes "report") then Some Report
    else if bytes_eq word (codes "execinfo") then Some ExecInfo
    else if bytes_eq word (codes "classinfo") then Some ClassInfo
    else if bytes_eq word (codes "cover") then Some Cover
    else if bytes_eq word (codes "refs") then Some Refs
    else if bytes_eq word (codes "lines") then Some Lines
    else if bytes_eq word (codes "check") then Some Check
    else None

-- the options of a command, without their `--`
abbrev pub options_of : CommandName → List Word
options_of Instrument = codes "dest" ∷ []
options_of Run = codes "plan" ∷ codes "destfile" ∷ codes "workers" ∷ codes "dumps" ∷ codes "every" ∷ codes "monitors" ∷ []
options_of Merge = codes "destfile" ∷ []
options_of Report = codes "csv" ∷ codes "name" ∷ codes "exec" ∷ []
options_of ExecInfo = []
options_of ClassInfo = []
options_of Cover = codes "dest" ∷ codes "plan" ∷ codes "destfile" ∷ codes "csv" ∷ codes "workers" ∷ codes "name" ∷ []
options_of Refs = []
options_of Lines = codes "exec" ∷ []
options_of Check = codes "min" ∷ codes "exec" ∷ []

-- Each use is of one of the options, no option is used twice, a flag has no value, no other value and no file is empty or begins
-- with `-`, and there is a file.
pub record IsCall (options : List Word) (uses : List Use) (files : List Word) : Type 0 where
  pub known : IsTrue (list_all (λ u. list_any (bytes_eq u.name) options) uses)
  pub once : IsDistinct bytes_eq (map (λ u. u.name) uses)
  pub values : IsTrue (list_all is_valued uses)
  pub plain_files : IsTrue (list_all is_plain files)
  pub some_file : files ≢ []

-- the words of a command: its name, uses of its options in any order, perhaps `--`, and its files
pub record Call : Type 0 where
  pub name : CommandName
  pub uses : List Use
  pub dash : Bool
  pub files : List Word

abbrev pub call_words : Call → List Word
call_words c = text_of c.name ∷ rest_words c.uses c.dash c.files
