-- What a clause sees of a command and of what its options are given.
use Rattle.std.specs.Prelude.{ℕ, List, map, Option, option_map}
use Rattle.std.specs.Borrow.{Bor}
use Rattle.jc_command_words.specs.declared.command.Command.{Command}
use Rattle.jc_command_words.specs.declared.command.Command.TheVariants as commands
use Rattle.jc_command_words.specs.declared.command.Given.{Given}
use Rattle.jc_command_words.specs.declared.words.InstrumentWords.{InstrumentWords}
use Rattle.jc_command_words.specs.declared.words.RunMode.{RunMode}
use Rattle.jc_command_words.specs.declared.words.RunMode.TheVariants as modes
use Rattle.jc_command_words.specs.declared.words.RunWords.{RunWords}
use Rattle.jc_command_words.specs.declared.words.MergeWords.{MergeWords}
use Rattle.jc_command_words.specs.declared.words.ReportWords.{ReportWords}
use Rattle.jc_command_words.specs.declared.words.CoverWords.{CoverWords}
use Rattle.jc_command_words.specs.declared.words.LinesWords.{LinesWords}
use Rattle.jc_command_words.specs.declared.words.CheckWords.{CheckWords}
use Rattle.jc_command_words.specs.Words.{Word}
use Rattle.jc_command_words.specs.Commands.{Mode, plainly, dumping, monitored, Called, instrument, run, merge, report, exec_info, class_info, cover, cover_sample, refs, lines, check}
use Rattle.jc_command_words.specs.Decide.{Values}
use Rattle.jc_paths.specs.Looks.{file_view}

abbrev pub text_seen : Option (Bor (List ℕ)) → Option Word
text_seen o = option_map (λ (w : Bor (List ℕ)). w.now) o

abbrev pub texts_seen : List (Bor (List ℕ)) → List Word
texts_seen ws = map (λ (w : Bor (List ℕ)). w.now) ws

abbrev pub given_seen : Given → Values
given_seen g = record {
  dest = text_seen g.dest;
  plan = text_seen g.plan;
  destfile = text_seen g.destfile;
  csv = text_seen g.csv;
  workers = text_seen g.workers;
  dumps = text_seen g.dumps;
  every = text_seen g.every;
  monitors = g.monitors;
  name = text_seen g.name;
  exec = text_seen g.exec;
  min = text_seen g.min;
  files = texts_seen g.files.items;
}

-- the commands by what their words say
abbrev pub instrument_called : InstrumentWords → Called
instrument_called w = instrument w.dest.now (map file_view w.files.items)

abbrev pub mode_seen : RunMode → Mode
mode_seen (modes.Plain workers) = plainly workers
mode_seen (modes.Dumping dir every workers) = dumping dir.now every workers
mode_seen modes.Monitored = monitored

abbrev pub run_called : RunWords → Called
run_called w = run w.plan.now w.destfile.now (mode_seen w.mode) (map file_view w.files.items)

abbrev pub merge_called : MergeWords → Called
merge_called w = merge w.destfile.now (texts_seen w.inputs.items)

abbrev pub report_called : ReportWords → Called
report_called w = report w.csv.now w.name.now (text_seen w.exec) (map file_view w.files.items)

abbrev pub cover_called : CoverWords → Called
cover_called w = cover w.dest.now w.plan.now w.destfile.now w.csv.now w.workers w.name.now (map file_view w.files.items)

abbrev pub lines_called : LinesWords → Called
lines_called w = lines (text_seen w.exec) (map file_view w.files.items)

abbrev pub check_called : CheckWords → Called
check_called w = check w.rules.items (text_seen w.exec) (map file_view w.files.items)

abbrev pub command_seen : Command → Called
command_seen (commands.Instrument words) = instrument_called words
command_seen (commands.Run words) = run_called words
command_seen (commands.Merge words) = merge_called words
command_seen (commands.Report words) = report_called words
command_seen (commands.ExecInfo inputs) = exec_info (texts_seen inputs.items)
command_seen (commands.ClassInfo files) = class_info (map file_view files.items)
command_seen (commands.Cover words) = cover_called words
command_seen (commands.CoverSample methods) = cover_sample methods
command_seen (commands.Refs files) = refs (map file_view files.items)
command_seen (commands.Lines words) = lines_called words
command_seen (commands.Check words) = check_called words
