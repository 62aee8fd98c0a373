-- What a clause sees of words that were cut.
use Rattle.std.specs.Prelude.{Bool, List, [], map, String}
use Rattle.std.specs.declared.alloc.Global.{Global}
use Rattle.jc_command_words.specs.declared.reader.CallWords.{CallWords}
use Rattle.jc_command_words.specs.declared.scan.Used.{Used}
use Rattle.jc_command_words.specs.declared.scan.Scanned.{Scanned}
use Rattle.jc_command_words.specs.Words.{Use, words_of}
use Rattle.jc_command_words.specs.Forms.{Call}
use Rattle.jc_command_words.specs.Scan.{Scan}

abbrev pub used_view : Used → Use
used_view u = record { name = u.name.now; value = u.value.now; joined = u.joined }

abbrev pub scan_view : Scanned → Scan
scan_view s = record { uses = map used_view s.uses.items; dash = s.dash; files = words_of s.files.now }

-- words behind the uses of options, where it is known whether `--` comes first
abbrev pub tail_view : Bool → List (String Global) → Scan
tail_view dash files = record { uses = []; dash = dash; files = words_of files }

abbrev pub call_seen : CallWords → Call
call_seen c = record {
  name = c.name;
  uses = map used_view c.words.uses.items;
  dash = c.words.dash;
  files = words_of c.words.files.now;
}
