-- The commands, and the words that call each.
use Rattle.std.specs.Prelude.{◌≡◌, ℕ, Bool, List, [], ◌∷◌, map, codes, Option, Some, None, unwrap_or, IsTrue}
use Rattle.std.specs.List.{IsDistinct}
use Rattle.std.specs.Str.{bytes_eq}
use Rattle.jc_command_words.specs.declared.name.CommandName.TheVariants.{Instrument, Run, Merge, Report, ExecInfo, ClassInfo, Cover, Refs, Lines, Check}
use Rattle.jc_command_words.specs.Words.{Word, Use, use_words, value_of}
use Rattle.jc_command_words.specs.Forms.{IsCall, Call, options_of, call_words}
use Rattle.jc_paths.specs.Paths.{FileText, file_text, path_of}
use Rattle.jc_command_words.specs.Paths.{are_relative, named_paths}
use Rattle.jc_command_words.specs.Numbers.{IsNumber}
use Rattle.jc_command_words.specs.Dumps.{NoneIsDump}
use Rattle.jc_command_words.specs.RulesText.{AreRules}
use Rattle.jc_rules.specs.declared.rule.Rule.{Rule}

-- how the cases of a run plan are run
pub data Mode : Type 0 where
  -- on so many workers
  plainly : (workers : ℕ) → Mode
  -- on so many workers; each time that so many more cases have ended, what was hit is taken and goes to a file of the folder
  dumping : (dir : Word) (every workers : ℕ) → Mode
  -- on one worker, with monitors
  monitored : Mode

pub data Called : Type 0 where
  -- writes each class file into the folder, with probes where it is instrumented
  instrument : (dest : Word) (files : List FileText) → Called
  -- runs the run plan's cases on the class files, and writes the hits
  run : (plan destfile : Word) (mode : Mode) (files : List FileText) → Called
  -- writes the union of the execution data in the inputs
  merge : (destfile : Word) (inputs : List Word) → Called
  -- writes the CSV text of the class files, by the hits in the execution data, if a file of it is named
  report : (csv name : Word) (exec : Option Word) (files : List FileText) → Called
  -- prints each file's sessions and records
  exec_info : (inputs : List Word) → Called
  -- prints each class's name, id, version and probes
  class_info : (files : List FileText) → Called
  -- instruments, runs and reports
  cover : (dest plan destfile csv : Word) (workers : ℕ) (name : Word) (files : List FileText) → Called
  -- runs a generated class of so many methods
  cover_sample : (methods : ℕ) → Called
  -- says whether each reference suits what takes it
  refs : (files : List FileText) → Called
  -- prints the lines of each class with their statuses, by the hits in the execution data, if a file of it is named
  lines : (exec : Option Word) (files : List FileText) → Called
  -- judges the rules over the totals of the classes, by the hits in the execution data, if a file of it is named
  check : (rules : List Rule) (exec : Option Word) (files : List FileText) → Called

-- the paths of the command's files and folders
abbrev pub files_of : Called → List Word
files_of (instrument dest files) = map path_of files
files_of (run plan destfile mode files) = map path_of files
files_of (merge destfile inputs) = inputs
files_of (report csv name exec files) = map path_of files
files_of (exec_info inputs) = inputs
files_of (class_info files) = map path_of files
files_of (cover dest plan destfile csv workers name files) = map path_of files
files_of (cover_sample methods) = []
files_of (refs files) = map path_of files
files_of (lines exec files) = map path_of files
files_of (check rules exec files) = map path_of files

-- the name of a report that is given none
abbrev pub default_name : Word
default_name = codes "JaCoCo Coverage Report"

-- 1, or the number from 1 to 16 that is given
abbrev pub IsWorkers : Option Word → ℕ → Type 0
IsWorkers None workers = workers ≡ 1
IsWorkers (Some text) workers = IsNumber 16 text workers

-- Beside its form: the files of the commands that want it are relative, no two of the paths that the words name are equal,
-- and none of them is that of a dump.
pub record IsStated (c : Call) : Type 0 where
  pub form : IsCall (options_of c.name) c.uses c.files
  pub relative : IsTrue (are_relative c.name c.files)
  pub distinct : IsDistinct bytes_eq (named_paths c.uses c.files)
  pub no_dump : NoneIsDump (value_of c.uses (codes "dumps")) (named_paths c.uses c.files)

-- the option is used, with this value
abbrev pub Has : Call → Word → Word → Type 0
Has c option value = value_of c.uses option ≡ Some value

abbrev pub HasWorkers : Call → ℕ → Type 0
HasWorkers c workers = IsWorkers (value_of c.uses (codes "workers")) workers

-- the option isn't used
abbrev pub Lacks : Call → Word → Type 0
Lacks c option = value_of c.uses option ≡ None

-- after how many cases each dump is taken: from 1 to 256
abbrev pub HasEvery : Call → ℕ → Type 0
HasEvery c every = (text : Word) × Has c (codes "every") text × IsNumber 256 text every

-- the option is used
abbrev pub IsUsed : Call → Word → Type 0
IsUsed c option = (value : Word) × Has c option value

-- how the cases are run: `--dumps` and `--every` come together and without `--monitors`, and with `--monitors` there is one worker
abbrev pub HasMode : Call → Mode → Type 0
HasMode c (plainly workers) = Lacks c (codes "monitors") × Lacks c (codes "dumps") × Lacks c (codes "every") × HasWorkers c workers
HasMode c (dumping dir every workers) = Lacks c (codes "monitors") × Has c (codes "dumps") dir × HasEvery c every × HasWorkers c workers
HasMode c monitored = IsUsed c (codes "monitors") × Lacks c (codes "dumps") × Lacks c (codes "every") × HasWorkers c 1

abbrev pub HasFiles : Call → List FileText → Type 0
HasFiles c files = files ≡ map file_text c.files

-- the name of the report
abbrev pub HasName : Call → Word → Type 0
HasName c name = name ≡ unwrap_or (value_of c.uses (codes "name")) default_name

-- the rules that the text of `--min` is that of
abbrev pub HasRules : Call → List Rule → Type 0
HasRules c rules = (text : Word) × Has c (codes "min") text × AreRules text rules

-- the words of each command, where those options that it needs are used
abbrev pub IsCallOf : Call → Called → Type 0
IsCallOf c (instrument dest files) = (c.name ≡ Instrument) × Has c (codes "dest") dest × HasFiles c files
IsCallOf c (run plan destfile mode files) =
    (c.name ≡ Run) × Has c (codes "plan") plan × Has c (codes "destfile") destfile × HasMode c mode × HasFiles c files
IsCallOf c (merge destfile inputs) = (c.name ≡ Merge) × Has c (codes "destfile") destfile × (inputs ≡ c.files)
IsCallOf c (report csv name exec files) =
    (c.name ≡ Report) × Has c (codes "csv") csv × HasName c name × (exec ≡ value_of c.uses (codes "exec")) × HasFiles c files
IsCallOf c (exec_info inputs) = (c.name ≡ ExecInfo) × (inputs ≡ c.files)
IsCallOf c (class_info files) = (c.name ≡ ClassInfo) × HasFiles c files
IsCallOf c (cover dest plan destfile csv workers name files) =
    (c.name ≡ Cover)
    × Has c (codes "dest") dest
    × Has c (codes "plan") plan
    × Has c (codes "destfile") destfile
    × Has c (codes "csv") csv
    × HasWorkers c workers
    × HasName c name
    × HasFiles c files
IsCallOf c (cover_sample methods) = ⊥
IsCallOf c (refs files) = (c.name ≡ Refs) × HasFiles c files
IsCallOf c (lines exec files) = (c.name ≡ Lines) × (exec ≡ value_of c.uses (codes "exec")) × HasFiles c files
IsCallOf c (check rules exec files) =
    (c.name ≡ Check) × HasRules c rules × (exec ≡ value_of c.uses (codes "exec")) × HasFiles c files

-- the use of `--sample`
abbrev pub sample_use : Bool → Word → Use
sample_use joined value = record { name = codes "sample"; value = value; joined = joined }

-- the words call the command
pub data Means (words : List Word) (command : Called) : Type 0 where
  -- the command's name, its options, perhaps `--`, and its files
  by_call : (c : Call) → words ≡ call_words c → IsStated c → IsCallOf c command → Means words command
  -- cover --sample N, and nothing else
  by_sample : (joined : Bool) (value : Word) (n : ℕ) → words ≡ codes "cover" ∷ use_words (sample_use joined value)
      → IsNumber 1000 value n → command ≡ cover_sample n → Means words command

-- the words are of no stated form
abbrev pub NoForm : List Word → Type 0
NoForm words = (command : Called) → Means words command → ⊥
