-- The commands and options of the command line, as they are told to the reader of words.
use Rattle.std.specs.Prelude.{true, List, [], ◌∷◌, Some, codes, fold, if◌then◌else◌}
use Rattle.clap.specs.Walk.{Rule, Text}
use Rattle.clap.specs.Simple.{App, new_app, new_rule, new_shape, with_rule, with_subcommand}
use Rattle.clap.specs.Lexer.{usize_max}
use Rattle.clap.specs.declared.builder.action.ArgAction.TheVariants.{Set}
use Rattle.jc_command_words.specs.declared.name.CommandName.{CommandName}
use Rattle.jc_command_words.specs.declared.name.CommandName.TheVariants.{Instrument, Run, Merge, Report, ExecInfo, ClassInfo, Cover, Refs, Lines, Check}
use Rattle.jc_command_words.specs.Forms.{text_of}
use Rattle.jc_command_words.specs.Taken.{taken_options}
use Rattle.jc_command_words.specs.Words.{is_flag}

-- an option with a value
abbrev pub option_rule : Text → Rule
option_rule name = record (new_rule name) { long = Some name; action = Some Set }

-- an option without a value, whose use counts as one with an empty value
abbrev pub flag_rule : Text → Rule
flag_rule name = record (option_rule name) {
  range = Some (record { start_inclusive = 0; end_inclusive = 0 });
  missing = [] ∷ [];
}

abbrev pub rule_for : Text → Rule
rule_for name = if is_flag name then flag_rule name else option_rule name

-- the files, one or more
abbrev pub file_rule : Rule
file_rule = record (new_rule (codes "FILE")) {
  range = Some (record { start_inclusive = 1; end_inclusive = usize_max });
}

abbrev pub with_option : App → Text → App
with_option app name = with_rule app (rule_for name)

-- the command of this name, with these options and with files
abbrev pub app_with : Text → List Text → App
app_with name options = with_rule (fold with_option (new_app name) options) file_rule

abbrev pub command_app : CommandName → App
command_app name = app_with (text_of name) (taken_options name)

abbrev pub bare_app : App
bare_app = record (new_app (codes "jcov")) {
  top = record (new_shape (codes "jcov")) {
    no_binary_name = true;
    disable_help_flag = true;
    disable_help_subcommand = true;
    subcommand_required = true;
  };
}

-- the command line with its first three commands
abbrev pub first_commands_app : App
first_commands_app = with_subcommand (with_subcommand (with_subcommand bare_app (command_app Instrument).top) (command_app Run).top) (command_app Merge).top

-- with its first six commands
abbrev pub more_commands_app : App
more_commands_app = with_subcommand (with_subcommand (with_subcommand first_commands_app (command_app Report).top) (command_app ExecInfo).top) (command_app ClassInfo).top

-- with all of its commands but `lines` and `check`
abbrev pub most_commands_app : App
most_commands_app = with_subcommand (with_subcommand more_commands_app (command_app Cover).top) (command_app Refs).top

abbrev pub jcov_app : App
jcov_app = with_subcommand (with_subcommand most_commands_app (command_app Lines).top) (command_app Check).top
