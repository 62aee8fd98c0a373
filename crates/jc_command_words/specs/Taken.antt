-- The words that clap is asked to take.
use Rattle.std.specs.Prelude.{List, [], ◌∷◌, ◌++◌, map, codes, IsTrue}
use Rattle.std.specs.List.{list_all, list_any, IsDistinct}
use Rattle.std.specs.Str.{bytes_eq}
use Rattle.jc_command_words.specs.declared.name.CommandName.{CommandName}
use Rattle.jc_command_words.specs.declared.name.CommandName.TheVariants.{Instrument, Run, Merge, Report, ExecInfo, ClassInfo, Cover, Refs, Lines, Check}
use Rattle.jc_command_words.specs.Words.{Word, Use, is_plain, is_valued}
use Rattle.jc_command_words.specs.Forms.{options_of}

-- the options that clap is told of
abbrev pub taken_options : CommandName → List Word
taken_options Instrument = options_of Instrument
taken_options Run = options_of Run
taken_options Merge = options_of Merge
taken_options Report = options_of Report
taken_options ExecInfo = options_of ExecInfo
taken_options ClassInfo = options_of ClassInfo
taken_options Cover = options_of Cover ++ codes "sample" ∷ []
taken_options Refs = options_of Refs
taken_options Lines = options_of Lines
taken_options Check = options_of Check

-- each use is of one of the options, no option is used twice, a flag has no value, and no other value and no file is empty or begins
-- with `-`
pub record IsTaken (options : List Word) (uses : List Use) (files : List Word) : Type 0 where
  pub known : IsTrue (list_all (λ u. list_any (bytes_eq u.name) options) uses)
  pub once : IsDistinct bytes_eq (map (λ u. u.name) uses)
  pub values : IsTrue (list_all is_valued uses)
  pub plain_files : IsTrue (list_all is_plain files)
