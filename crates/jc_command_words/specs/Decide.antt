-- The command that words call, decided by tests.
use Rattle.std.specs.Prelude.{ℕ, Bool, true, false, not, ◌&&◌, List, [], ◌∷◌, map, codes, Option, Some, None, is_some, nat_eq, option_map, unwrap_or, if◌then◌else◌}
use Rattle.std.specs.List.{list_all, list_any}
use Rattle.std.specs.Str.{bytes_eq}
use Rattle.jc_command_words.specs.declared.name.CommandName.{CommandName}
use Rattle.jc_command_words.specs.declared.name.CommandName.TheVariants.{Instrument, Run, Merge, Report, ExecInfo, ClassInfo, Cover, Refs, Lines, Check}
use Rattle.jc_command_words.specs.Words.{Word, Use, is_plain, is_valued, value_of}
use Rattle.jc_command_words.specs.Forms.{options_of, named}
use Rattle.jc_paths.specs.Paths.{file_text}
use Rattle.jc_command_words.specs.Paths.{are_relative, named_paths, are_distinct}
use Rattle.jc_command_words.specs.Dumps.{has_dump}
use Rattle.jc_command_words.specs.Numbers.{number_up_to}
use Rattle.jc_command_words.specs.RulesRead.{rules_of}
use Rattle.jc_rules.specs.declared.rule.Rule.{Rule}
use Rattle.jc_command_words.specs.Scan.{Scan, scan}
use Rattle.jc_command_words.specs.Commands.{Mode, plainly, dumping, monitored, Called, instrument, run, merge, report, exec_info, class_info, cover, cover_sample, refs, lines, check, default_name}

abbrev pub is_some_file : List Word → Bool
is_some_file [] = false
is_some_file (f ∷ fs) = true

abbrev pub is_call : List Word → Scan → Bool
is_call options s =
    list_all (λ u. list_any (bytes_eq u.name) options) s.uses
    && (are_distinct (map (λ u. u.name) s.uses)
    && (list_all is_valued s.uses && (list_all is_plain s.files && is_some_file s.files)))

-- no two of the paths that the words name are equal, and none is that of a dump
abbrev pub are_apart : List Use → List Word → Bool
are_apart uses files = are_distinct (named_paths uses files) && not (has_dump (value_of uses (codes "dumps")) (named_paths uses files))

abbrev pub is_stated : CommandName → Scan → Bool
is_stated name s = is_call (options_of name) s && (are_relative name s.files && are_apart s.uses s.files)

-- what the options are given, and the files
pub record Values : Type 0 where
  pub dest : Option Word
  pub plan : Option Word
  pub destfile : Option Word
  pub csv : Option Word
  pub workers : Option Word
  pub dumps : Option Word
  pub every : Option Word
  pub monitors : Bool
  pub name : Option Word
  pub exec : Option Word
  pub min : Option Word
  pub files : List Word

abbrev pub values_of : List Use → List Word → Values
values_of uses files = record {
  dest = value_of uses (codes "dest");
  plan = value_of uses (codes "plan");
  destfile = value_of uses (codes "destfile");
  csv = value_of uses (codes "csv");
  workers = value_of uses (codes "workers");
  dumps = value_of uses (codes "dumps");
  every = value_of uses (codes "every");
  monitors = is_some (value_of uses (codes "monitors"));
  name = value_of uses (codes "name");
  exec = value_of uses (codes "exec");
  min = value_of uses (codes "min");
  files = files;
}

abbrev pub workers_in : Option Word → Option ℕ
workers_in None = Some 1
workers_in (Some text) = number_up_to 16 text

abbrev pub name_in : Option Word → Word
name_in name = unwrap_or name default_name

abbrev pub instrument_with : Option Word → List Word → Option Called
instrument_with (Some dest) files = Some (instrument dest (map file_text files))
instrument_with None files = None

-- how the cases are run, by what `--dumps` and `--every` are given
abbrev pub mode_on : (dumps every : Option Word) → (workers : ℕ) → Option Mode
mode_on None None workers = Some (plainly workers)
mode_on None (Some text) workers = None
mode_on (Some dir) None workers = None
mode_on (Some dir) (Some text) workers = option_map (λ every. dumping dir every workers) (number_up_to 256 text)

-- with monitors, on one worker and without dumps
abbrev pub mode_of : (dumps every : Option Word) → (workers : ℕ) → Option Mode
mode_of None None workers = if nat_eq workers 1 then Some monitored else None
mode_of _ _ workers = None

abbrev pub mode_with : Bool → (dumps every : Option Word) → Option ℕ → Option Mode
mode_with monitors dumps every None = None
mode_with false dumps every (Some workers) = mode_on dumps every workers
mode_with true dumps every (Some workers) = mode_of dumps every workers

abbrev pub mode_in : Values → Option Mode
mode_in v = mode_with v.monitors v.dumps v.every (workers_in v.workers)

abbrev pub run_with : (plan destfile : Option Word) → Option Mode → List Word → Option Called
run_with (Some plan) (Some destfile) (Some mode) files = Some (run plan destfile mode (map file_text files))
run_with _ _ _ files = None

abbrev pub merge_with : Option Word → List Word → Option Called
merge_with (Some destfile) files = Some (merge destfile files)
merge_with None files = None

abbrev pub report_with : Option Word → Word → Option Word → List Word → Option Called
report_with (Some csv) name exec files = Some (report csv name exec (map file_text files))
report_with None name exec files = None

abbrev pub cover_with : (dest plan destfile csv : Option Word) → Option ℕ → Word → List Word → Option Called
cover_with (Some dest) (Some plan) (Some destfile) (Some csv) (Some workers) name files =
    Some (cover dest plan destfile csv workers name (map file_text files))
cover_with _ _ _ _ _ name files = None

abbrev pub rules_given : Option Word → Option (List Rule)
rules_given None = None
rules_given (Some text) = rules_of text

abbrev pub check_with : Option (List Rule) → Option Word → List Word → Option Called
check_with (Some rules) exec files = Some (check rules exec (map file_text files))
check_with None exec files = None

abbrev pub command_with : CommandName → Values → Option Called
command_with Instrument v = instrument_with v.dest v.files
command_with Run v = run_with v.plan v.destfile (mode_in v) v.files
command_with Merge v = merge_with v.destfile v.files
command_with Report v = report_with v.csv (name_in v.name) v.exec v.files
command_with ExecInfo v = Some (exec_info v.files)
command_with ClassInfo v = Some (class_info (map file_text v.files))
command_with Cover v =
    cover_with v.dest v.plan v.destfile v.csv (workers_in v.workers) (name_in v.name) v.files
command_with Refs v = Some (refs (map file_text v.files))
command_with Lines v = Some (lines v.exec (map file_text v.files))
command_with Check v = check_with (rules_given v.min) v.exec v.files

-- the number that `--sample` is given, where it stands alone
abbrev pub sample_of : List Use → Bool → List Word → Option ℕ
sample_of (u ∷ []) false [] = if bytes_eq u.name (codes "sample") then number_up_to 1000 u.value else None
sample_of _ _ _ = None

abbrev pub sample_in : CommandName → Scan → Option ℕ
sample_in Cover s = sample_of s.uses s.dash s.files
sample_in Instrument s = None
sample_in Run s = None
sample_in Merge s = None
sample_in Report s = None
sample_in ExecInfo s = None
sample_in ClassInfo s = None
sample_in Refs s = None
sample_in Lines s = None
sample_in Check s = None

-- `--sample` stands alone, with a value that is neither empty nor begins with `-`
abbrev pub is_sample_of : List Use → Bool → List Word → Bool
is_sample_of (u ∷ []) false [] = bytes_eq u.name (codes "sample") && is_plain u.value
is_sample_of _ _ _ = false

abbrev pub is_sample : CommandName → Scan → Bool
is_sample Cover s = is_sample_of s.uses s.dash s.files
is_sample Instrument s = false
is_sample Run s = false
is_sample Merge s = false
is_sample Report s = false
is_sample ExecInfo s = false
is_sample ClassInfo s = false
is_sample Refs s = false
is_sample Lines s = false
is_sample Check s = false

abbrev pub methods_in : Option Word → Option ℕ
methods_in None = None
methods_in (Some text) = number_up_to 1000 text

abbrev pub decide_call : CommandName → Scan → Option Called
decide_call name s = if is_stated name s then command_with name (values_of s.uses s.files) else None

abbrev pub decide_sample : Option ℕ → CommandName → Scan → Option Called
decide_sample (Some methods) name s = Some (cover_sample methods)
decide_sample None name s = decide_call name s

abbrev pub decide_scan : CommandName → Option Scan → Option Called
decide_scan name None = None
decide_scan name (Some s) = decide_sample (sample_in name s) name s

abbrev pub decide_named : Option CommandName → Option Scan → Option Called
decide_named None s = None
decide_named (Some name) s = decide_scan name s

abbrev pub command_of : List Word → Option Called
command_of [] = None
command_of (first ∷ rest) = decide_named (named first) (scan None rest)
